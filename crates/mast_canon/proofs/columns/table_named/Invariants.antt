use Rattle.std.proofs.Common.{◌≡◌, drop}
use Rattle.mast_mapping.specs.Columns.{table_named}
use Rattle.mast_canon.proofs.columns.table_named.Given as goal

-- the table is among those that are left
abbrev pub invariant-loop-table : goal.invariant-loop-table
invariant-loop-table l = table_named l.name (drop l.table-index l.tables) ≡ table_named l.name l.tables
