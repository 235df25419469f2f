use Rattle.std.proofs.Common.{map, ◌∙◌, arith}
use Rattle.mast_cq.specs.Queries.{viewed}
use Rattle.mast_rewrite.proofs.MemberStepLemmas.{after_begin, after_next, after_within, after_over, after_end}
use Rattle.mast_rewrite.proofs.growth.add_steps.Goals as goal

pub loop-met-init : goal.loop-met-init
loop-met-init c = record {
  grown = after_begin (viewed c.args.query) c.args.first c.args.second c.args.meetings.now (map viewed c.args.set.now.keys);
  small = c.requires.small;
}

pub loop-met-preserved : goal.loop-met-preserved
loop-met-preserved c = record {
  grown = after_next (viewed c.args.query) c.args.first c.args.second c.args.meetings.now c.loop-met.met-index _ (viewed c.view.result) (map viewed c.args.set.now.keys) (map viewed c.loop-met.set.keys) (map viewed c.add.new.set.keys)
      (omega arith) (c.view.ensures ∙ c.in_ok-next.ensures) c.loop-met.invariant.grown c.in_ok-add.ensures.grown;
  small = c.in_ok-add.ensures.small;
}

pub returns-clause-within : goal.returns-clause-within
returns-clause-within c =
    (after_end (viewed c.args.query) c.args.first c.args.second c.args.meetings.now c.loop-met.met-index (map viewed c.args.set.now.keys) (map viewed c.loop-met.set.keys) (omega arith) c.loop-met.invariant.grown).within

pub returns-clause-grown : goal.returns-clause-grown
returns-clause-grown c =
    after_end (viewed c.args.query) c.args.first c.args.second c.args.meetings.now c.loop-met.met-index (map viewed c.args.set.now.keys) (map viewed c.loop-met.set.keys) (omega arith) c.loop-met.invariant.grown

pub returns-in_err-next-clause-within : goal.returns-in_err-next-clause-within
returns-in_err-next-clause-within c =
    after_within (viewed c.args.query) c.args.first c.args.second c.args.meetings.now c.loop-met.met-index (map viewed c.args.set.now.keys) (map viewed c.loop-met.set.keys) c.loop-met.invariant.grown

pub returns-in_err-add-clause-within : goal.returns-in_err-add-clause-within
returns-in_err-add-clause-within c =
    after_over (viewed c.args.query) c.args.first c.args.second c.args.meetings.now c.loop-met.met-index _ (viewed c.view.result) (map viewed c.args.set.now.keys) (map viewed c.loop-met.set.keys) (map viewed c.add.new.set.keys)
    (omega arith) (c.view.ensures ∙ c.in_ok-next.ensures) c.loop-met.invariant.grown c.add.ensures.within
