use Rattle.std.proofs.Common.{◌≡◌, drop}
use Rattle.mast_tbox.specs.inside.Chosen.{chief_of}
use Rattle.mast_tbox.specs.inside.Judging.{functionals, marking}
use Rattle.mast_tbox.proofs.restriction.add_by_constraints.Given as goal

abbrev pub invariant-loop-line : goal.invariant-loop-line
invariant-loop-line l = marking (chief_of l.chiefs) l.set (functionals (drop l.line-index l.constraints)) ≡ marking (chief_of l.chiefs) l.fn.set (functionals l.constraints)
