use Rattle.std.proofs.Common.{◌≡◌, ◌<◌, ℕ, get_or}
use Rattle.mast_relations.proofs.planning.place_of.Given as goal

-- no place so far has the variable
abbrev pub invariant-loop-place : goal.invariant-loop-place
invariant-loop-place l = (k : ℕ) → k < l.place → get_or l.bound k 0 ≡ l.variable → ⊥
