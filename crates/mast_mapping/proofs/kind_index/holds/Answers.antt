use Rattle.std.proofs.Common.{ap, sym, ◌∙◌}
use Rattle.std.specs.Prelude.{is_some, option_copied}
use Rattle.mast_mapping.specs.inside.Indices.{shown}
use Rattle.mast_mapping.proofs.IndexLemmas.{stands_valued}
use Rattle.mast_mapping.proofs.kind_index.holds.Goals as goal

pub returns-in-None : goal.returns-in-None
returns-in-None c =
    sym (stands_valued c.args.name.now (shown c.args.kinds.now.entries) ∙ ap is_some (sym c.find.ensures ∙ ap option_copied c.in-None.is))

pub returns-in-Some : goal.returns-in-Some
returns-in-Some c =
    sym (stands_valued c.args.name.now (shown c.args.kinds.now.entries) ∙ ap is_some (sym c.find.ensures ∙ ap option_copied c.in-Some.is))
