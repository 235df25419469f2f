use Rattle.std.proofs.Common.{◌∷◌, ◌++◌, [], List, ap, sym, subst, ◌∙◌}
use Rattle.mast_relations.specs.Plans.{KeepsPlans}
use Rattle.mast_relations.specs.Stores.{Stored}
use Rattle.mast_relations.proofs.StoreLemmas.{begun_kept}
use Rattle.mast_relations.proofs.relations.Relations.begin.Goals as goal

pub returns-clause-plans : goal.returns-clause-plans
returns-clause-plans c =
    let old = c.args.self.now in
    let new = c.new.result ∷ [] in
    subst (λ (l : List Stored). KeepsPlans old l) (sym (c.in_ok-push.ensures.items ∙ ap (λ (l : List Stored). l ++ new) c.self.view_is)) (begun_kept old new)
