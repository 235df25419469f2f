use Rattle.mast_join.proofs.PlanLemmas.{tests_more}
use Rattle.std.proofs.Common.{refl}
use Rattle.mast_join.proofs.plan.tests.Goals as goal

pub loop-condition-preserved : goal.loop-condition-preserved
loop-condition-preserved c =
    rw c.in_ok-push.ensures.items (tests_more c.args.decls.now c.args.entries.now c.args.conditions.now c.loop-condition.condition-index c.condition-item.result _ _ c.loop-condition-test.true c.condition-item.is c.loop-condition.invariant (record { left = c.side.ensures; op = refl; right = c.side-in-loop-condition.ensures }))
