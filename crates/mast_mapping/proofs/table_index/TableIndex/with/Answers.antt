use Rattle.std.proofs.Common.{◌≡◌, ap, sym, subst, ◌∙◌}
use Rattle.std.specs.Prelude.{None, is_some}
use Rattle.mast_terms.specs.Vocabularies.{stands}
use Rattle.mast_mapping.specs.OverTables.{table_names}
use Rattle.mast_mapping.specs.inside.Indices.{shown, value_named}
use Rattle.mast_mapping.proofs.IndexLemmas.{not_valued, stands_table}
use Rattle.mast_mapping.proofs.table_index.TableIndex.with.Goals as goal

pub put-requires : goal.put-requires
put-requires c =
    let name = c.args.table.name in
    let entries = shown c.self.inside.columns.entries in
    let new = ap (λ es. is_some (value_named name es)) c.self.invariant
    ∙ (stands_table name c.self.inside.tables ∙ (ap (λ ts. stands name (table_names ts)) c.self.view_is ∙ c.requires.new)) in
    subst (λ x. value_named x entries ≡ None) (sym c.as_str.ensures) (not_valued (value_named name entries) new)
