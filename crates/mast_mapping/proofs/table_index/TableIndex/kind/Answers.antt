use Rattle.std.proofs.Common.{ap, ◌∙◌}
use Rattle.mast_mapping.specs.Columns.{table_named}
use Rattle.mast_mapping.specs.inside.Indices.{value_named, kind_in_kinds, table_kinds}
use Rattle.mast_mapping.specs.inside.Kinds.{kind_of_table}
use Rattle.mast_mapping.proofs.IndexLemmas.{kind_found, kinds_of_table}
use Rattle.mast_mapping.proofs.table_index.TableIndex.kind.Goals as goal

pub returns : goal.returns
returns c =
    let table = c.args.table.now in
    let column = c.args.column.now in
    let tables = c.self.inside.tables in
    c.find_kind.ensures
    ∙ (ap (λ es. kind_in_kinds column (value_named table es)) c.self.invariant
    ∙ (kind_found column (table_named table tables) (value_named table (table_kinds tables)) (kinds_of_table table tables)
    ∙ ap (λ ts. kind_of_table column (table_named table ts)) c.self.view_is))
