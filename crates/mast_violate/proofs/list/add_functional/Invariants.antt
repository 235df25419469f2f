use Rattle.std.proofs.Common.{◌≡◌, ◌++◌, map, drop}
use Rattle.mast_violate.specs.ViolationLists.{of_assertion}
use Rattle.mast_violate.proofs.list.add_functional.Given as goal

abbrev pub invariant-loop-line : goal.invariant-loop-line
invariant-loop-line l = l.list ++ map of_assertion (drop l.line-index l.lines) ≡ l.fn.list ++ map of_assertion l.lines
