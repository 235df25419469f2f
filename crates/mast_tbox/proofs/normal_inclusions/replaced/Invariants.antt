use Rattle.std.proofs.Common.{◌≡◌, ◌++◌, drop}
use Rattle.mast_tbox.specs.Inclusions.{normal}
use Rattle.mast_tbox.specs.Lists.{items}
use Rattle.mast_tbox.specs.Numbers.{numbers}
use Rattle.mast_tbox.specs.inside.Bounds.{AllBelow}
use Rattle.mast_tbox.proofs.normal_inclusions.replaced.Given as goal

abbrev pub invariant-loop-line : goal.invariant-loop-line
invariant-loop-line l = record {
  made : l.inclusions.items ++ normal (items (drop l.line-index l.lines)) ≡ normal (items l.lines);
  small : AllBelow 1000000 (numbers (drop l.line-index l.lines));
}
