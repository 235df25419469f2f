-- The plan began empty.
use Rattle.std.proofs.Common.{refl}
use Rattle.mast_write.proofs.PlanLemmas.{plan_is}
use Rattle.mast_write.proofs.line_plan.line_plan.Goals as goal

pub returns : goal.returns
returns c =
    plan_is _ c.args.map.now _ _ refl c.new.ensures.items c.new-2.ensures.items c.in_ok-push_head.ensures
