use Rattle.std.proofs.Common.{sym, ◌∙◌}
use Rattle.mast_tables.proofs.CellsLemmas.{found_code}
use Rattle.mast_tables.proofs.cells.Cells.code_of_lent.Goals as goal

pub returns-in-Some-clause-coded : goal.returns-in-Some-clause-coded
returns-in-Some-clause-coded c =
    found_code c.args.self.now.values.keys c.in-Some.number c.args.value.now (sym c.get_index_of.ensures.index ∙ c.in-Some.is)
