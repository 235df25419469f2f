use Rattle.std.proofs.Common.{◌∙◌}
use Rattle.mast_tables.specs.inside.Cells.{cells_in, width_in}
use Rattle.mast_tables.proofs.RowsLemmas.{view_row, view_column, view_cell}
use Rattle.mast_tables.proofs.table.Table.cell.Goals as goal

pub value-requires-clause-row : goal.value-requires-clause-row
value-requires-clause-row c =
    let t = c.self.inside in
    view_row (width_in t.cells) t.count (cells_in t.cells) c.args.self.now c.self.invariant.size c.self.view_is c.args.row c.args.column c.requires

pub value-requires-clause-column : goal.value-requires-clause-column
value-requires-clause-column c =
    let t = c.self.inside in
    view_column (width_in t.cells) t.count (cells_in t.cells) c.args.self.now c.self.invariant.size c.self.view_is c.args.row c.args.column c.requires

pub returns : goal.returns
returns c =
    let t = c.self.inside in
    c.value.ensures ∙ view_cell (width_in t.cells) t.count (cells_in t.cells) c.args.self.now c.self.invariant.size c.self.view_is c.args.row c.args.column c.requires
