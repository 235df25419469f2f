use Rattle.std.proofs.Common.{ap, ◌∙◌}
use Rattle.std.specs.Prelude.{is_some}
use Rattle.mast_terms.specs.Vocabularies.{stands}
use Rattle.mast_mapping.specs.OverTables.{table_names}
use Rattle.mast_mapping.specs.inside.Indices.{value_named}
use Rattle.mast_mapping.proofs.IndexLemmas.{stands_table}
use Rattle.mast_mapping.proofs.table_index.TableIndex.has.Goals as goal

pub returns : goal.returns
returns c =
    c.holds.ensures
    ∙ (ap (λ es. is_some (value_named c.args.name.now es)) c.self.invariant
    ∙ (stands_table c.args.name.now c.self.inside.tables ∙ ap (λ ts. stands c.args.name.now (table_names ts)) c.self.view_is))
