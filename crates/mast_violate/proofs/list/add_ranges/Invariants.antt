use Rattle.std.proofs.Common.{◌≡◌, ◌++◌, [], take, drop}
use Rattle.mast_tbox.specs.Lists.{items}
use Rattle.mast_violate.specs.ViolationLists.{of_inclusions}
use Rattle.mast_violate.specs.inside.Seen.{clashed}
use Rattle.mast_violate.proofs.list.add_ranges.Given as goal

abbrev pub invariant-loop-line : goal.invariant-loop-line
invariant-loop-line l = record {
  seen : l.ranges ≡ clashed (items (take l.line-index l.lines));
  made : l.list ++ of_inclusions (items (take l.line-index l.lines)) (drop l.line-index l.lines) ≡ l.fn.list ++ of_inclusions [] l.lines;
}
