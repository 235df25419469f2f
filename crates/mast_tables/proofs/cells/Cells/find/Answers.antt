use Rattle.std.proofs.Common.{arith}
use Rattle.mast_tables.proofs.CellsLemmas.{values_short}
use Rattle.mast_tables.proofs.cells.Cells.find.Goals as goal

pub overflow_cast-result : goal.overflow_cast-result
overflow_cast-result c =
    let cells = c.args.self.now in
    omega (arith, values_short cells.values.keys cells.codes.list c.requires, c.requires.few, c.in-Some.ensures.within)
