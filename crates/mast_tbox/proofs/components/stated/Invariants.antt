use Rattle.std.proofs.Common.{◌≡◌, ◌++◌, drop}
use Rattle.mast_tbox.specs.Lists.{items}
use Rattle.mast_tbox.proofs.components.stated.Given as goal

abbrev pub invariant-loop-line : goal.invariant-loop-line
invariant-loop-line l = l.all.items ++ items (drop l.line-index l.lines) ≡ items l.lines
