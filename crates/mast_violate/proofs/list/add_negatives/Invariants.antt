use Rattle.std.proofs.Common.{◌≡◌, ◌++◌, map, drop}
use Rattle.mast_violate.specs.ViolationLists.{of_negative}
use Rattle.mast_violate.proofs.list.add_negatives.Given as goal

abbrev pub invariant-loop-line : goal.invariant-loop-line
invariant-loop-line l = l.list ++ map of_negative (drop l.line-index l.lines) ≡ l.fn.list ++ map of_negative l.lines
