-- The slot is an output, whose cell comes last.
use Rattle.std.proofs.lemmas.Result.{on_ok_weaker}
use Rattle.mast_write.proofs.PlanLemmas.{adds_output}
use Rattle.mast_write.proofs.line_plan.LinePlan.push_slot.Goals as goal

pub returns-in-Output : goal.returns-in-Output
returns-in-Output c =
    rw c.in-Output.is
    (on_ok_weaker c.push_cell.result
    (adds_output c.args.source.now _ _ _ c.cell_place.result c.cell_place.ensures.place c.cell_place.ensures.over)
    c.push_cell.ensures)
