use Rattle.std.proofs.Common.{◌≡◌}
use Rattle.mast_certain.proofs.SetLemmas.{IsUnionSoFar}
use Rattle.mast_certain.proofs.tuples.union_of.Given as goal

abbrev pub invariant-loop-number : goal.invariant-loop-number
invariant-loop-number l = record {
  width : l.union.width ≡ l.width;
  rows : IsUnionSoFar l.sets l.number l.union;
}
