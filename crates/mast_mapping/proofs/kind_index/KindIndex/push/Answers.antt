use Rattle.std.proofs.Common.{ap, sym, ◌∙◌}
use Rattle.mast_terms.specs.Vocabularies.{stands}
use Rattle.mast_mapping.specs.inside.Declared.{names_of}
use Rattle.mast_mapping.specs.inside.Indices.{shown, value_named}
use Rattle.mast_mapping.proofs.IndexLemmas.{not_valued, stands_valued}
use Rattle.mast_mapping.proofs.kind_index.KindIndex.push.Goals as goal

pub put-requires : goal.put-requires
put-requires c =
    let entries = shown c.self.inside.kinds.entries in
    let name = c.args.name.now in
    not_valued (value_named name entries)
    (sym (stands_valued name entries) ∙ (ap (λ es. stands name (names_of es)) c.self.view_is ∙ c.requires))
