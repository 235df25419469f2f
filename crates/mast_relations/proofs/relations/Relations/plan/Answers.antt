use Rattle.std.proofs.Common.{◌≡◌, ◌++◌, List, length, take, drop, ap, sym, subst, ◌∙◌}
use Rattle.mast_relations.specs.Plans.{KeepsPlans}
use Rattle.mast_relations.specs.Stores.{Stored, contents}
use Rattle.mast_relations.proofs.StoreLemmas.{all_kept_whole, grown_contents, grown_plans}
use Rattle.mast_relations.proofs.relations.Relations.plan.Goals as goal

pub returns-clause-contents : goal.returns-clause-contents
returns-clause-contents c =
    let items = c.self.inside.relations.items in
    let new = c.make_plan.new.relations in
    let whole : take c.self.inside.relations.len (new ++ drop (length new) items) ≡ new =
    all_kept_whole items new c.self.inside.relations.len c.self.inside.relations.ok.0 (c.make_plan.ensures.grown.long ∙ ap length c.deref_mut.ensures.value) in
    ap contents whole ∙ (grown_contents c.deref_mut.result.now new c.make_plan.ensures.grown ∙ ap contents (c.deref_mut.ensures.value ∙ c.self.view_is))

pub returns-clause-plans : goal.returns-clause-plans
returns-clause-plans c =
    let items = c.self.inside.relations.items in
    let new = c.make_plan.new.relations in
    let whole : take c.self.inside.relations.len (new ++ drop (length new) items) ≡ new =
    all_kept_whole items new c.self.inside.relations.len c.self.inside.relations.ok.0 (c.make_plan.ensures.grown.long ∙ ap length c.deref_mut.ensures.value) in
    subst (λ (l : List Stored). KeepsPlans c.args.self.now l) (sym whole)
    (subst (λ (l : List Stored). KeepsPlans l new) (c.deref_mut.ensures.value ∙ c.self.view_is) (grown_plans c.deref_mut.result.now new c.make_plan.ensures.grown))
