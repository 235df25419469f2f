-- What is written of the line, and the cells that are left, make the whole line.
use Rattle.std.proofs.Common.{◌≡◌}
use Rattle.mast_write.specs.inside.Plans.{chosen_cell}
use Rattle.mast_write.proofs.PlanLemmas.{IsBegun}
use Rattle.mast_write.proofs.line_plan.LinePlan.put_line.Given as goal

abbrev pub invariant-loop-cell : goal.invariant-loop-cell
invariant-loop-cell l = record {
  lines : l.lines.lines ≡ l.fn.lines.lines;
  begun : IsBegun (chosen_cell l.tables l.choice) l.self l.cell-index l.lines.begun;
}
