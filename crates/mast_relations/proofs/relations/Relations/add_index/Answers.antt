use Rattle.std.proofs.Common.{◌≡◌, ◌<◌, List, length, get_or, set, ap, sym, subst, ◌∙◌, arith}
use Rattle.std.proofs.lemmas.List.{get_or_read}
use Rattle.mast_relations.specs.Matches.{Rows}
use Rattle.mast_relations.specs.Plans.{none}
use Rattle.mast_relations.specs.Stores.{Stored, contents}
use Rattle.mast_relations.proofs.LookupLemmas.{set_contents}
use Rattle.mast_relations.proofs.relations.Relations.add_index.Goals as goal

pub returns-in_err-index : goal.returns-in_err-index
returns-in_err-index c =
    let items = c.self.inside.relations.items in
    let was = c.index_mut-stored.result.now in
    let at : c.args.relation < length items = omega (arith, c.requires.there, ap length c.self.view_is) in
    set_contents items c.args.relation c.index.new.self at
    (c.index.ensures.grown.rows ∙ ap (λ (s : Stored). s.rows) (get_or_read items c.args.relation was at c.index_mut-stored.ensures.value none))
    ∙ ap contents c.self.view_is

pub returns : goal.returns
returns c =
    let items = c.self.inside.relations.items in
    let was = c.index_mut-stored.result.now in
    let at : c.args.relation < length items = omega (arith, c.requires.there, ap length c.self.view_is) in
    set_contents items c.args.relation c.index.new.self at
    (c.index.ensures.grown.rows ∙ ap (λ (s : Stored). s.rows) (get_or_read items c.args.relation was at c.index_mut-stored.ensures.value none))
    ∙ ap contents c.self.view_is
