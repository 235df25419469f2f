use Rattle.mast_tables.specs.inside.Cells.{cells_in, width_in}
use Rattle.mast_tables.proofs.RowsLemmas.{view_rows}
use Rattle.mast_tables.proofs.table.Table.rows.Goals as goal

pub returns : goal.returns
returns c =
    let t = c.self.inside in
    view_rows (width_in t.cells) t.count (cells_in t.cells) c.args.self.now c.self.invariant.size c.self.view_is
