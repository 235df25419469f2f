use Rattle.std.proofs.Common.{◌≡◌, ◌+◌, drop}
use Rattle.mast_canon.specs.Choices.{table_number}
use Rattle.mast_canon.proofs.columns.table_number.Given as goal

-- the table is among those that are left
abbrev pub invariant-loop-decl : goal.invariant-loop-decl
invariant-loop-decl l = record { at : l.number ≡ l.decl-index; rest : l.number + table_number l.name (drop l.decl-index l.decls) ≡ table_number l.name l.decls }
