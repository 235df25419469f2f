-- The parts of the line, one behind the other.
use Rattle.mast_write.proofs.PlanLemmas.{adds_attr}
use Rattle.mast_write.proofs.line_plan.LinePlan.push_attr.Goals as goal

pub returns : goal.returns
returns c =
    adds_attr c.args.source.now c.args.name c.args.from.now _ _ _ _ _ _ c.args.value.now
    c.in_ok-push_name.ensures c.in_ok-push_object.ensures c.in_ok-push_bytes.ensures c.in_ok-push_slot.ensures c.in_ok-push_bytes-2.ensures
