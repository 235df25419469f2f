use Rattle.std.proofs.Common.{◌∙◌, ap, sym, List}
use Rattle.std.specs.Prelude.{Option}
use Rattle.mast_terms.specs.declared.value.Value.{Value}
use Rattle.mast_tables.specs.inside.Cells.{cells_in, width_in}
use Rattle.mast_tables.specs.Values.{number_among}
use Rattle.mast_tables.proofs.RowsLemmas.{view_cells}
use Rattle.mast_tables.proofs.table.Table.find.Goals as goal

pub returns : goal.returns
returns c =
    let t = c.self.inside in
    c.find.ensures ∙ ap (λ (k : List (Option Value)). number_among k c.args.value.now) (sym (view_cells (width_in t.cells) t.count (cells_in t.cells) c.args.self.now c.self.invariant.size c.self.view_is))
