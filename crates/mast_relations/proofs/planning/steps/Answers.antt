use Rattle.std.proofs.Common.{List, sym, subst}
use Rattle.mast_relations.specs.declared.plan.Step.{Step}
use Rattle.mast_relations.specs.Matches.{IsConjunction, Rows}
use Rattle.mast_relations.specs.Plans.{AreSteps}
use Rattle.mast_relations.specs.inside.Planning.{AreTaken}
use Rattle.mast_relations.proofs.PlanningLemmas.{steps_push, taken_more}
use Rattle.mast_relations.proofs.StoreLemmas.{all_grown_twice, grown_contents, grown_steps}
use Rattle.mast_relations.proofs.planning.steps.Goals as goal

pub loop-alloc-preserved : goal.loop-alloc-preserved
loop-alloc-preserved c =
    let l = c.loop-alloc in
    let n = c.next_step.new in
    let query = c.args.query.now in
    let first = c.args.bound.now.items in
    let step = c.in_ok-next_step.field-0 in
    let next = c.in_ok-next_step.ensures.step in
    let grown = c.next_step.ensures.grown in
    let pushed = sym c.in_ok-push.ensures.items in
    record {
      query = subst (λ (k : List Rows). IsConjunction k query) (sym (grown_contents l.relations n.relations grown)) l.invariant.query;
      steps = subst (λ (k : List Step). AreSteps n.relations query first k n.bound.items) pushed
          (steps_push n.relations query first l.steps.items l.bound.items n.bound.items step (grown_steps l.relations n.relations query first l.steps.items l.bound.items grown l.invariant.steps) next.bound next.is_step next.binds);
      taken = subst (λ (k : List Step). AreTaken c.args.left.now.items k n.left.items) pushed
          (taken_more c.args.left.now.items l.left.items n.left.items l.steps.items step l.invariant.taken c.in_ok-next_step.ensures.left);
      below = c.in_ok-next_step.ensures.below;
      once = λ o. next.once (l.invariant.once o);
      grown = all_grown_twice c.args.relations.now l.relations n.relations l.invariant.grown grown;
    }
