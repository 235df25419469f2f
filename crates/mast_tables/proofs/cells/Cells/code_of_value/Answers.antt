use Rattle.mast_tables.proofs.CellsLemmas.{stored_code}
use Rattle.mast_tables.proofs.cells.Cells.code_of_value.Goals as goal

pub returns-clause-coded : goal.returns-clause-coded
returns-clause-coded c =
    let e = c.in_ok-number.ensures in
    let s = e.stored in
    (e.keys, stored_code _ c.in_ok-number.number c.args.value s.0 s.1 s.2)
