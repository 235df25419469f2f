-- The output means a column of the table of an entry.
use Rattle.std.proofs.Common.{refl, arith}
use Rattle.mast_write.proofs.CellLemmas.{output_column, output_entry, output_over}
use Rattle.mast_write.proofs.cells.Source.cell_place.Goals as goal

pub offset_bounds-as_slice-found : goal.offset_bounds-as_slice-found
offset_bounds-as_slice-found c =
    let s = c.args.self.now in
    let within = output_entry s.tables.now s.query.now c.args.name.now c.unwrap-found.result _ c.output_place.ensures c.unwrap-found.ensures in
    omega (arith, rw c.as_slice.ensures at c.as_slice.type_inv.1, within)

pub bounds-as_slice-found : goal.bounds-as_slice-found
bounds-as_slice-found c =
    let s = c.args.self.now in
    rw c.as_slice.ensures
    (output_entry s.tables.now s.query.now c.args.name.now c.unwrap-found.result _ c.output_place.ensures c.unwrap-found.ensures)

pub overflow_cast-result : goal.overflow_cast-result
overflow_cast-result c =
    let s = c.args.self.now in
    omega (arith, output_column s.tables.now s.query.now c.args.name.now c.unwrap-found.result _ c.output_place.ensures c.unwrap-found.ensures s.numbered)

pub overflow_add-result : goal.overflow_add-result
overflow_add-result c =
    let s = c.args.self.now in
    omega (arith, output_column s.tables.now s.query.now c.args.name.now c.unwrap-found.result _ c.output_place.ensures c.unwrap-found.ensures s.numbered)

pub returns-clause-over : goal.returns-clause-over
returns-clause-over c =
    let s = c.args.self.now in
    output_over s.tables.now s.query.now c.args.name.now c.unwrap-found.result _ c.output_place.ensures c.unwrap-found.ensures
    _ c.index-as_slice-found.result refl refl
    (rw c.as_slice.ensures at c.index-as_slice-found.is)
    c.table_number.ensures
