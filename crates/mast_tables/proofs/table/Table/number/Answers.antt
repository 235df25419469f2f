use Rattle.std.proofs.Common.{◌∙◌}
use Rattle.mast_tables.specs.inside.Cells.{cells_in, width_in}
use Rattle.mast_tables.proofs.RowsLemmas.{view_row, view_column, view_number}
use Rattle.mast_tables.proofs.table.Table.number.Goals as goal

pub number-requires-clause-row : goal.number-requires-clause-row
number-requires-clause-row c =
    let t = c.self.inside in
    view_row (width_in t.cells) t.count (cells_in t.cells) c.args.self.now c.self.invariant.size c.self.view_is c.args.row c.args.column c.requires

pub number-requires-clause-column : goal.number-requires-clause-column
number-requires-clause-column c =
    let t = c.self.inside in
    view_column (width_in t.cells) t.count (cells_in t.cells) c.args.self.now c.self.invariant.size c.self.view_is c.args.row c.args.column c.requires

pub returns : goal.returns
returns c =
    let t = c.self.inside in
    c.number.ensures ∙ view_number (width_in t.cells) t.count (cells_in t.cells) c.args.self.now c.self.invariant.size c.self.view_is c.args.row c.args.column c.requires
