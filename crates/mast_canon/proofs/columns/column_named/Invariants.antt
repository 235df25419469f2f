use Rattle.std.proofs.Common.{◌≡◌, drop}
use Rattle.mast_mapping.specs.Columns.{column_named}
use Rattle.mast_canon.proofs.columns.column_named.Given as goal

-- the column is among those that are left
abbrev pub invariant-loop-column : goal.invariant-loop-column
invariant-loop-column l = record { at : l.number ≡ l.column-index; rest : column_named l.name l.entry l.number (drop l.column-index l.columns) ≡ column_named l.name l.entry 0 l.columns }
