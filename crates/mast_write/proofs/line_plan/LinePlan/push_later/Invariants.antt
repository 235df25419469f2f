-- The slots so far are in the plan, and those that are left complete all slots.
use Rattle.mast_write.proofs.PlanLemmas.{HasSlots}
use Rattle.mast_write.proofs.line_plan.LinePlan.push_later.Given as goal

abbrev pub invariant-loop-slot : goal.invariant-loop-slot
invariant-loop-slot l = HasSlots l.source l.slots l.slot-index l.fn.self l.self
