-- What the loop keeps.
use Rattle.std.proofs.Common.{◌≡◌, length}
use Rattle.mast_tbox.specs.Numbers.{numbers, IsNumbered}
use Rattle.mast_rewrite_tests.specs.Lines.{on_one_line}
use Rattle.mast_rewrite_tests.proofs.tests.fillers.Given as goal

abbrev pub invariant-loop-k : goal.invariant-loop-k
invariant-loop-k l = record {
  numbered : IsNumbered (on_one_line l.fillers.items);
  many : length (numbers (on_one_line l.fillers.items)) ≡ l.k;
  count : length l.fillers.items ≡ l.k;
}
