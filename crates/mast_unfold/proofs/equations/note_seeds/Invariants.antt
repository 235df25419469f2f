use Rattle.std.proofs.Common.{◌≡◌, drop, map}
use Rattle.mast_unfold.specs.inside.Equations.{both, all_seeds}
use Rattle.mast_unfold.specs.inside.Spreading.{entries, all_noted}
use Rattle.mast_unfold.proofs.equations.note_seeds.Given as goal

-- what is left makes of the notes what all make of the first ones
abbrev pub invariant-loop-equation : goal.invariant-loop-equation
invariant-loop-equation l = all_noted (all_seeds (map both (drop l.equation-index l.equations))) (entries l.known) ≡ all_noted (all_seeds (map both l.equations)) (entries l.fn.known)
