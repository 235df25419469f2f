use Rattle.std.proofs.Common.{◌≡◌, drop, map}
use Rattle.mast_unfold.specs.inside.Equations.{both, may_all_hold}
use Rattle.mast_unfold.proofs.equations.may_all_hold.Given as goal

-- it is so of all where it is of those that are left
abbrev pub invariant-loop-equation : goal.invariant-loop-equation
invariant-loop-equation l = may_all_hold (map both (drop l.equation-index l.equations)) ≡ may_all_hold (map both l.equations)
