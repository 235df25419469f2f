use Rattle.std.proofs.Common.{sym, arith, length, ◌+◌, ◌*◌, ◌≤◌}
use Rattle.std.proofs.lemmas.List.{length-map}
use Rattle.mast_tables.specs.inside.Cells.{decoded, width_in}
use Rattle.mast_tables.proofs.CellsLemmas.{number_some, place_inside}
use Rattle.mast_tables.proofs.cells.Cells.number.Goals as goal

pub returns : goal.returns
returns c =
    let cells = c.args.self.now in
    let whole : (c.args.row + 1) * width_in cells ≤ length cells.codes.list = omega (arith, c.requires.row, length-map cells.codes.list (decoded cells.values.keys)) in
    number_some cells.values.keys cells.codes.list (c.args.row * width_in cells + c.args.column) c.get-code.result c.requires.cells
    (place_inside c.args.row c.args.column (width_in cells) (length cells.codes.list) whole c.requires.column) (sym c.get-code.ensures) (omega arith)
