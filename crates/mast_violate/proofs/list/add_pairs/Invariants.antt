use Rattle.std.proofs.Common.{◌≡◌, ◌++◌, map, drop}
use Rattle.mast_violate.specs.ViolationLists.{of_ranges}
use Rattle.mast_violate.proofs.list.add_pairs.Given as goal

abbrev pub invariant-loop-other : goal.invariant-loop-other
invariant-loop-other l = l.list ++ map (of_ranges l.line l.attr) (drop l.other-index l.earlier) ≡ l.fn.list ++ map (of_ranges l.line l.attr) l.earlier
