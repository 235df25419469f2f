use Rattle.std.proofs.Common.{◌≡◌, drop}
use Rattle.mast_tbox.specs.inside.Judging.{single_after}
use Rattle.mast_tbox.specs.Restrictions.{along, single}
use Rattle.mast_tbox.proofs.restriction.anchor.Given as goal

abbrev pub invariant-loop-step : goal.invariant-loop-step
invariant-loop-step l = single_after l.first (along (drop l.step-index l.steps)) ≡ single (along l.steps)
