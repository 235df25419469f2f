use Rattle.std.proofs.Common.{arith, sym, ◌∙◌}
use Rattle.mast_certain.proofs.SetLemmas.{in_some_here, union_all, union_here}
use Rattle.mast_certain.proofs.tuples.union_of.Goals as goal

pub add_rows-requires : goal.add_rows-requires
add_rows-requires c =
    λ row i. c.requires row (in_some_here c.args.sets.now c.loop-number.number c.index-sets-number.result row (omega (arith, c.loop-number-test.true)) c.index-sets-number.is i) ∙ sym c.loop-number.invariant.width

pub loop-number-preserved : goal.loop-number-preserved
loop-number-preserved c = record {
  width = c.in_ok-add_rows.ensures.gained.width ∙ c.loop-number.invariant.width;
  rows = union_here c.args.sets.now c.loop-number.number c.index-sets-number.result c.loop-number.union c.add_rows.new.union (omega (arith, c.loop-number-test.true)) c.index-sets-number.is c.loop-number.invariant.rows
      c.in_ok-add_rows.ensures.gained c.in_ok-add_rows.ensures.all;
}

pub returns : goal.returns
returns c = union_all c.args.sets.now c.loop-number.number c.loop-number.union (omega (arith, c.loop-number-test.false)) c.loop-number.invariant.rows
