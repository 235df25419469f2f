-- What the loop keeps.
use Rattle.std.proofs.Common.{◌≡◌, ◌+◌, [], length}
use Rattle.mast_tbox.specs.Numbers.{numbers}
use Rattle.mast_rewrite_tests.specs.Lines.{on_one_line}
use Rattle.mast_rewrite_tests.proofs.tests.attributes.Given as goal

abbrev pub invariant-loop-name : goal.invariant-loop-name
invariant-loop-name l = record {
  plain : numbers (on_one_line l.below.items) ≡ [];
  count : length l.below.items + 6 ≡ l.name;
}
