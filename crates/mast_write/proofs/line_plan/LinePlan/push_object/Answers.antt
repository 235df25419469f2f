-- The symbol, and the slots in parentheses.
use Rattle.std.proofs.Common.{rules}
use Rattle.mast_write.proofs.PlanLemmas.{adds_object}
use Rattle.mast_write.proofs.line_plan.LinePlan.push_object.Goals as goal

pub returns : goal.returns
returns c =
    adds_object c.args.source.now c.args.object.now _ _ _ _ _ _ _ (search rules) c.as_slice.ensures
    c.in_ok-push_bytes.ensures c.in_ok-push_bytes-2.ensures c.in_ok-push_slots.ensures c.in_ok-push_bytes-3.ensures
