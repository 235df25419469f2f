use Rattle.std.proofs.Common.{◌≡◌, ◌≤◌, ℕ, List, length, drop}
use Rattle.mast_mapping.specs.Columns.{column_of_table, table_named}
use Rattle.mast_unfold.specs.inside.Lookups.{column_by}
use Rattle.mast_unfold.proofs.columns.tables_by_name.Given as goal

-- the tables from one on are there
abbrev pub invariant-loop-left : goal.invariant-loop-left
invariant-loop-left l = record {
  within : l.left ≤ length l.decls;
  are : (table name : List ℕ) (entry : ℕ) → column_by l.by_name table name entry ≡ column_of_table name entry (table_named table (drop l.left l.decls));
}

abbrev pub decreases-loop-left : goal.decreases-loop-left
decreases-loop-left l = l.left
