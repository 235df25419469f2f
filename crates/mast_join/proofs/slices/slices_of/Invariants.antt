use Rattle.std.proofs.Common.{take}
use Rattle.mast_join.specs.Slices.{AreSlices}
use Rattle.mast_join.proofs.slices.slices_of.Given as goal

abbrev pub invariant-loop-number : goal.invariant-loop-number
invariant-loop-number l = record {
  slices : AreSlices 0 (take l.number l.queries) l.slices;
}
