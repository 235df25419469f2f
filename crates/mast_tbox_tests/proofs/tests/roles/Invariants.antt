-- What the loop keeps.
use Rattle.std.proofs.Common.{◌≡◌, [], length}
use Rattle.mast_tbox.specs.Numbers.{numbers}
use Rattle.mast_tbox_tests.proofs.tests.roles.Given as goal

abbrev pub invariant-loop-line : goal.invariant-loop-line
invariant-loop-line l = record {
  plain : numbers l.inclusions.items ≡ [];
  count : length l.inclusions.items ≡ l.line-index;
}
