use Rattle.std.proofs.Common.{◌≡◌, drop}
use Rattle.mast_tbox.specs.inside.Chosen.{chief_of}
use Rattle.mast_tbox.specs.inside.Judging.{is_like, first_judged}
use Rattle.mast_tbox.proofs.restriction.first_constraint.Given as goal

abbrev pub invariant-loop-constraint : goal.invariant-loop-constraint
invariant-loop-constraint l = first_judged (is_like (chief_of l.chiefs) l.special) (drop l.constraint-index l.constraints) ≡ first_judged (is_like (chief_of l.chiefs) l.special) l.constraints
