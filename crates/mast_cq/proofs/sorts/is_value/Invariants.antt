use Rattle.std.proofs.Common.{◌≡◌, drop}
use Rattle.mast_cq.specs.Sorts.{values_of}
use Rattle.mast_cq.specs.inside.SortTests.{stands_in}
use Rattle.mast_cq.proofs.sorts.is_value.Given as goal

abbrev pub invariant-loop-atom : goal.invariant-loop-atom
invariant-loop-atom l = stands_in values_of l.arg (drop l.atom-index l.atoms) ≡ stands_in values_of l.arg l.atoms
