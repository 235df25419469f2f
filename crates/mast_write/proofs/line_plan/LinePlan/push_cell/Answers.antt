-- The cell comes last, and the bytes so far come before it.
use Rattle.std.proofs.Common.{refl, rules}
use Rattle.mast_write.proofs.line_plan.LinePlan.push_cell.Goals as goal

pub returns : goal.returns
returns c = record {
  cell = record { before = c.replace-before.result; place = c.args.place };
  before = c.replace-before.ensures.value;
  is = refl;
  cells = c.in_ok-push.ensures.items;
  tail = search rules;
}
