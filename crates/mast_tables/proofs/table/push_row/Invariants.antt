use Rattle.std.proofs.Common.{take}
use Rattle.mast_tables.specs.inside.Reading.{Adds}
use Rattle.mast_tables.specs.Whole.{whole_row}
use Rattle.mast_tables.proofs.table.push_row.Given as goal

abbrev pub invariant-loop-value : goal.invariant-loop-value
invariant-loop-value l = Adds l.fn.cells l.cells (whole_row (take l.value-index l.values))
