use Rattle.std.proofs.Common.{◌≡◌, drop}
use Rattle.mast_cq.specs.Sorts.{objects_of}
use Rattle.mast_cq.specs.inside.SortTests.{stands_in}
use Rattle.mast_cq.proofs.sorts.is_object.Given as goal

abbrev pub invariant-loop-atom : goal.invariant-loop-atom
invariant-loop-atom l = stands_in objects_of l.arg (drop l.atom-index l.atoms) ≡ stands_in objects_of l.arg l.atoms
