-- The variables so far are others.
use Rattle.std.proofs.Common.{◌≡◌, drop}
use Rattle.mast_constr.specs.Variables.{sort_of}
use Rattle.mast_constr.specs.inside.Shown.{shown_all}
use Rattle.mast_constr.proofs.variables.find.Given as goal

abbrev pub invariant-loop-number : goal.invariant-loop-number
invariant-loop-number l = sort_of l.name (shown_all (drop l.number l.known)) ≡ sort_of l.name (shown_all l.known)
