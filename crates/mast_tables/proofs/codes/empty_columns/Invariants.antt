use Rattle.std.proofs.Common.{◌≡◌, length, []}
use Rattle.std.specs.List.{AllByRecursion}
use Rattle.mast_tables.proofs.codes.empty_columns.Given as goal

abbrev pub invariant-loop : goal.invariant-loop
invariant-loop l = record {
  long : length l.columns.items ≡ l.counter;
  empty : AllByRecursion (λ column. column.items ≡ []) l.columns.items;
}
