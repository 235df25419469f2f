-- A slot more behind its comma.
use Rattle.mast_write.proofs.PlanLemmas.{later_end, later_step}
use Rattle.mast_write.proofs.line_plan.LinePlan.push_later.Goals as goal

pub loop-slot-preserved : goal.loop-slot-preserved
loop-slot-preserved c =
    let l = c.loop-slot in
    later_step c.args.source.now c.args.slots.now l.slot-index c.slot-item.result c.args.self.now l.self _ _ c.loop-slot-test.true c.slot-item.is
    l.invariant c.in_ok-push_bytes.ensures c.in_ok-push_slot.ensures

pub returns : goal.returns
returns c = let l = c.loop-slot in later_end c.args.source.now c.args.slots.now l.slot-index c.args.self.now l.self c.loop-slot-test.false l.invariant
