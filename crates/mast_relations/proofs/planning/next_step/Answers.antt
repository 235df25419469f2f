use Rattle.std.proofs.Common.{◌≡◌, ◌<◌, List, ℕ, length, get_or, subst, ◌∙◌}
use Rattle.std.proofs.lemmas.List.{get_or_read}
use Rattle.std.proofs.lemmas.Result.{IfOk-weaker}
use Rattle.mast_relations.specs.inside.Planning.{IsNextStep, IsTaken}
use Rattle.mast_relations.proofs.PlanningLemmas.{taken_at}
use Rattle.mast_relations.proofs.planning.next_step.Goals as goal

pub returns-clause-left : goal.returns-clause-left
returns-clause-left c =
    let left = c.args.left.now.items in
    let at = c.choose-at.result in
    let lt : at < length left = subst (λ (l : List ℕ). at < length l) c.deref.ensures.value c.choose-at.ensures in
    let number : c.remove-pattern.result ≡ get_or left at 0 = get_or_read left at c.remove-pattern.result lt c.remove-pattern.ensures.value 0 in
    IfOk-weaker c.make_step.result (IsNextStep c.make_step.new.relations c.args.query.now c.remove-pattern.result c.args.bound.now.items c.make_step.new.bound.items)
    (λ step. IsTaken left step.pattern c.remove-pattern.new.self.items)
    (λ step n. taken_at left c.remove-pattern.new.self.items at step.pattern lt (n.pattern_is ∙ number) c.remove-pattern.ensures.items) c.make_step.ensures.step
