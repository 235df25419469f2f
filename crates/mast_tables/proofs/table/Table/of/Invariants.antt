use Rattle.std.proofs.Common.{take}
use Rattle.mast_tables.proofs.WholeLemmas.{Filled}
use Rattle.mast_tables.proofs.table.Table.of.Given as goal

abbrev pub invariant-loop-row : goal.invariant-loop-row
invariant-loop-row l = Filled l.decl.columns (take l.row-index l.rows) l.cells
