use Rattle.std.proofs.Common.{sym, ◌∙◌}
use Rattle.mast_terms.specs.declared.value.Value.TheVariants as v
use Rattle.mast_tables.proofs.CellsLemmas.{found_code}
use Rattle.mast_tables.proofs.cells.Cells.code_of_text.Goals as goal

pub returns-in-Some-clause-coded : goal.returns-in-Some-clause-coded
returns-in-Some-clause-coded c =
    let e = c.in_ok-number.ensures in
    rw e.same.0 (found_code c.args.self.now.values.keys c.in-Some.number (v.Text c.args.text.now) (sym e.found ∙ c.in-Some.is))
