use Rattle.std.proofs.Common.{length, map, ap, arith}
use Rattle.std.proofs.lemmas.List.{length-map}
use Rattle.mast_cq.specs.Queries.{viewed}
use Rattle.mast_rewrite.specs.inside.Marks.{marked_of}
use Rattle.mast_rewrite.proofs.MemberStepLemmas.{below_begin, below_next, below_within, below_over, below_end}
use Rattle.mast_rewrite.proofs.growth.grow.Goals as goal

pub loop-second-init : goal.loop-second-init
loop-second-init c = record {
  grown = below_begin c.args.normal.now (viewed c.args.query) (map viewed c.args.set.now.keys);
  small = c.requires.small;
  memo = c.requires.memo;
}

pub loop-second-preserved : goal.loop-second-preserved
loop-second-preserved c = record {
  grown = below_next c.args.normal.now (viewed c.args.query) c.loop-second.second (map viewed c.args.set.now.keys) (map viewed c.loop-second.set.keys) (map viewed c.grow_at.new.set.keys)
      c.loop-second.invariant.grown c.in_ok-grow_at.ensures.grown;
  small = c.in_ok-grow_at.ensures.small;
  memo = c.in_ok-grow_at.ensures.memo;
}

pub returns-in_err-grow_at-clause-within : goal.returns-in_err-grow_at-clause-within
returns-in_err-grow_at-clause-within c =
    below_over c.args.normal.now (viewed c.args.query) c.loop-second.second (map viewed c.args.set.now.keys) (map viewed c.loop-second.set.keys) (map viewed c.grow_at.new.set.keys) c.loop-second.invariant.grown c.grow_at.ensures.within

pub returns-clause-within : goal.returns-clause-within
returns-clause-within c = below_within c.args.normal.now (viewed c.args.query) c.loop-second.second (map viewed c.args.set.now.keys) (map viewed c.loop-second.set.keys) c.loop-second.invariant.grown

pub returns-clause-grown : goal.returns-clause-grown
returns-clause-grown c =
    below_end c.args.normal.now (viewed c.args.query) c.loop-second.second (map viewed c.args.set.now.keys) (map viewed c.loop-second.set.keys)
    (let n = length-map (viewed c.args.query).atoms (marked_of c.args.query.answer.now) in let e = ap length c.in_ok-marked.ensures in omega arith) c.loop-second.invariant.grown
