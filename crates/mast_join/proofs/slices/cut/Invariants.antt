use Rattle.std.proofs.Common.{◌-◌, ◌≤◌}
use Rattle.mast_join.specs.inside.Cuts.{HasCut}
use Rattle.mast_join.proofs.slices.cut.Given as goal

abbrev pub invariant-loop-from : goal.invariant-loop-from
invariant-loop-from l = record {
  within : l.from ≤ l.size;
  cut : HasCut l.query l.from l.fn.slices l.slices;
}

abbrev pub decreases-loop-from : goal.decreases-loop-from
decreases-loop-from l = l.size - l.from
