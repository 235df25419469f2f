use Rattle.std.proofs.Common.{◌≤◌, length, take}
use Rattle.mast_join.specs.Answers.{AreNumbersOf}
use Rattle.mast_join.specs.inside.Namings.{most_names}
use Rattle.mast_join.specs.inside.Values.{IsFront}
use Rattle.mast_join.proofs.naming.front.Given as goal

-- the places of the variables so far
abbrev pub invariant-loop-variable : goal.invariant-loop-variable
invariant-loop-variable l = (length l.vars.keys ≤ most_names) × IsFront l.fn.vars.keys l.vars.keys × AreNumbersOf l.vars.keys l.front (take l.variable-index l.variable-items)
