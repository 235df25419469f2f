-- Where the tables that are left have few columns each, all have.
use Rattle.std.proofs.Common.{drop}
use Rattle.std.specs.List.{AllByRecursion}
use Rattle.mast_tables.specs.declared.declaration.TableDecl.{TableDecl}
use Rattle.mast_canon.specs.Conditions.{HasNumbers}
use Rattle.mast_canon_tests.proofs.documents.few_columns.Given as goal

abbrev pub invariant-loop-table : goal.invariant-loop-table
invariant-loop-table l =
    AllByRecursion (λ (table : TableDecl). HasNumbers table.columns) (drop l.table-index l.tables) → AllByRecursion (λ (table : TableDecl). HasNumbers table.columns) l.tables
