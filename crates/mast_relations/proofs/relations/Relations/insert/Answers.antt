use Rattle.std.proofs.Common.{◌≡◌, List, length, get_or, set, ap, sym, subst, ◌∙◌, arith}
use Rattle.std.proofs.lemmas.List.{get_or_read}
use Rattle.mast_relations.specs.Plans.{KeepsOtherPlans, none}
use Rattle.mast_relations.specs.Stores.{IsInsertedAt, IsUnchanged, Stored, contents}
use Rattle.mast_relations.proofs.StoreLemmas.{inserted_at, others_kept, unchanged_at}
use Rattle.mast_relations.proofs.relations.Relations.insert.Goals as goal

pub returns-clause-inserted : goal.returns-clause-inserted
returns-clause-inserted c =
    let old = c.args.self.now in
    let items = c.self.inside.relations.items in
    let was = c.index_mut-stored.result.now in
    let new = c.insert.new.self in
    let is : was ≡ get_or old c.args.relation none =
    get_or_read items c.args.relation was (omega (arith, c.requires.there, ap length c.self.view_is)) c.index_mut-stored.ensures.value none ∙ ap (λ (l : List Stored). get_or l c.args.relation none) c.self.view_is in
    subst (λ (l : List Stored). IsInsertedAt (contents old) c.args.relation c.args.row.now c.insert.result (contents (set l c.args.relation new))) (sym c.self.view_is)
    (inserted_at old c.args.relation was new c.requires.there is c.args.row.now c.insert.result c.insert.ensures.rows c.insert.ensures.unchanged)

pub returns-clause-unchanged : goal.returns-clause-unchanged
returns-clause-unchanged c =
    let old = c.args.self.now in
    let items = c.self.inside.relations.items in
    let was = c.index_mut-stored.result.now in
    let new = c.insert.new.self in
    let is : was ≡ get_or old c.args.relation none =
    get_or_read items c.args.relation was (omega (arith, c.requires.there, ap length c.self.view_is)) c.index_mut-stored.ensures.value none ∙ ap (λ (l : List Stored). get_or l c.args.relation none) c.self.view_is in
    subst (λ (l : List Stored). IsUnchanged c.insert.result old (set l c.args.relation new)) (sym c.self.view_is)
    (unchanged_at old c.args.relation was new c.requires.there is c.insert.result c.insert.ensures.unchanged)

pub returns-clause-plans : goal.returns-clause-plans
returns-clause-plans c =
    let old = c.args.self.now in
    subst (λ (l : List Stored). KeepsOtherPlans c.args.relation old (set l c.args.relation c.insert.new.self)) (sym c.self.view_is) (others_kept old c.args.relation c.insert.new.self)
