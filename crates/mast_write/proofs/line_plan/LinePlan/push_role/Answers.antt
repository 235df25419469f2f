-- The parts of the line, one behind the other.
use Rattle.mast_write.proofs.PlanLemmas.{adds_role}
use Rattle.mast_write.proofs.line_plan.LinePlan.push_role.Goals as goal

pub returns : goal.returns
returns c =
    adds_role c.args.source.now c.args.name c.args.from.now _ _ _ _ _ _ c.args.to.now
    c.in_ok-push_name.ensures c.in_ok-push_object.ensures c.in_ok-push_bytes.ensures c.in_ok-push_object-2.ensures c.in_ok-push_bytes-2.ensures
