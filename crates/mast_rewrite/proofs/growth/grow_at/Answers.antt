use Rattle.std.proofs.Common.{map, refl, arith}
use Rattle.mast_cq.specs.Queries.{viewed}
use Rattle.mast_rewrite.specs.inside.Growing.{IsAfter}
use Rattle.mast_rewrite.proofs.MemberStepLemmas.{before_begin, before_next, before_within, before_over, marked_steps}
use Rattle.mast_rewrite.proofs.growth.grow_at.Goals as goal

pub loop-first-init : goal.loop-first-init
loop-first-init c = record {
  grown = before_begin c.args.normal.now (viewed c.args.query) c.args.second (map viewed c.args.set.now.keys);
  small = c.requires.small;
  memo = c.requires.memo;
}

pub loop-first-preserved : goal.loop-first-preserved
loop-first-preserved c = record {
  grown = before_next c.args.normal.now (viewed c.args.query) c.args.second c.loop-first.first (map viewed c.args.set.now.keys) (map viewed c.loop-first.set.keys) (map viewed c.add_steps.new.set.keys)
      (IsAfter (viewed c.args.query) c.loop-first.first c.args.second c.at.result.now)
      (marked_steps c.args.normal.now (viewed c.args.query) c.args.marked.now c.loop-first.first c.args.second _ _ _ c.at.result.now c.requires.marked (omega arith) c.requires.there refl refl
      (c.at.ensures c.args.normal.now _ c.in_ok-place.ensures.place))
      c.loop-first.invariant.grown c.in_ok-add_steps.ensures.grown;
  small = c.in_ok-add_steps.ensures.small;
  memo = c.in_ok-place.ensures.memo;
}

pub returns-in_err-place-clause-within : goal.returns-in_err-place-clause-within
returns-in_err-place-clause-within c =
    before_within c.args.normal.now (viewed c.args.query) c.args.second c.loop-first.first c.args.second (map viewed c.args.set.now.keys) (map viewed c.loop-first.set.keys) (omega arith) c.loop-first.invariant.grown

pub returns-in_err-add_steps-clause-within : goal.returns-in_err-add_steps-clause-within
returns-in_err-add_steps-clause-within c =
    before_over c.args.normal.now (viewed c.args.query) c.args.second c.loop-first.first c.args.second (map viewed c.args.set.now.keys) (map viewed c.loop-first.set.keys) (map viewed c.add_steps.new.set.keys)
    (IsAfter (viewed c.args.query) c.loop-first.first c.args.second c.at.result.now) (omega arith)
    (marked_steps c.args.normal.now (viewed c.args.query) c.args.marked.now c.loop-first.first c.args.second _ _ _ c.at.result.now c.requires.marked (omega arith) c.requires.there refl refl
    (c.at.ensures c.args.normal.now _ c.in_ok-place.ensures.place))
    c.loop-first.invariant.grown c.add_steps.ensures.within

pub returns-clause-within : goal.returns-clause-within
returns-clause-within c =
    before_within c.args.normal.now (viewed c.args.query) c.args.second c.loop-first.first c.args.second (map viewed c.args.set.now.keys) (map viewed c.loop-first.set.keys) (omega arith) c.loop-first.invariant.grown
