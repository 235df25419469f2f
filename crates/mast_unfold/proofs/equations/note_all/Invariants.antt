use Rattle.std.proofs.Common.{◌≡◌, drop, map}
use Rattle.mast_unfold.specs.inside.Spreading.{entries, all_noted}
use Rattle.mast_unfold.proofs.equations.note_all.Given as goal

-- what is left makes of the notes what all make of the first ones
abbrev pub invariant-loop-place : goal.invariant-loop-place
invariant-loop-place l = all_noted (map (λ p. (p, l.value)) (drop l.place-index l.places)) (entries l.known) ≡ all_noted (map (λ p. (p, l.value)) l.places) (entries l.fn.known)
