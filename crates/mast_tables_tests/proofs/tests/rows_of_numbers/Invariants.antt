-- What the loop keeps.
use Rattle.std.proofs.Common.{◌≡◌, length}
use Rattle.std.specs.List.{AllByRecursion}
use Rattle.mast_tables.specs.Whole.{FitsColumns}
use Rattle.mast_tables_tests.proofs.tests.rows_of_numbers.Given as goal

abbrev pub invariant-loop-number : goal.invariant-loop-number
invariant-loop-number l = record {
  long : length l.rows.items ≡ l.number;
  fit : AllByRecursion (FitsColumns l.decl.columns) l.rows.items;
}
