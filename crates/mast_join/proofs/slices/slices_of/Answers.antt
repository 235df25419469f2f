use Rattle.std.proofs.Common.{arith, get_or}
use Rattle.std.proofs.lemmas.List.{take_more}
use Rattle.mast_join.proofs.CutLemmas.{slices_next}
use Rattle.mast_join.proofs.slices.slices_of.Goals as goal

pub loop-number-preserved : goal.loop-number-preserved
loop-number-preserved c = record {
  slices = slices_next c.args.queries.now c.loop-number.number (get_or c.args.queries.now c.loop-number.number c.index-queries-number.result) c.loop-number.slices c.cut.new.slices
      (omega (arith, c.loop-number-test.true)) (take_more c.args.queries.now c.loop-number.number c.index-queries-number.result (omega (arith, c.loop-number-test.true)))
      c.loop-number.invariant.slices c.in_ok-cut.ensures;
}
