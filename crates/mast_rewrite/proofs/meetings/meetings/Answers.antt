use Rattle.std.proofs.Common.{[], arith}
use Rattle.mast_rewrite.proofs.WalkLemmas.{left_in, left_earlier, left_more}
use Rattle.mast_rewrite.proofs.meetings.meetings.Goals as goal

pub add_all-requires-clause-before : goal.add_all-requires-clause-before
add_all-requires-clause-before c = c.loop-left.invariant.before _ (left_in c.args.answer.now c.args.lefts.now c.args.rights.now c.loop-left.left-index _ 0 [] [] [] c.requires.lefts (omega arith))

pub loop-left-preserved : goal.loop-left-preserved
loop-left-preserved c = record {
  there = c.in_ok-start.ensures.there;
  before = left_earlier c.args.answer.now c.args.lefts.now c.args.rights.now c.loop-left.left-index _ _ [] [] [] c.requires.lefts (omega arith) c.in_ok-start.ensures.before;
  all = left_more c.args.answer.now c.args.lefts.now c.args.rights.now c.loop-left.left-index _ 0 _ c.loop-left.meetings.items c.add_all.new.meetings.items c.requires.lefts (omega arith) c.in_ok-start.ensures.added c.loop-left.invariant.all;
}
