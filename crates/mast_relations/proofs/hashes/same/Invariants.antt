use Rattle.std.proofs.Common.{ℕ, ◌≤◌, length}
use Rattle.mast_relations.specs.inside.Lasts.{HasHash, HasKey, IsLast}
use Rattle.mast_relations.proofs.hashes.same.Given as goal

-- no place that was passed has the hash
abbrev pub invariant-loop-place : goal.invariant-loop-place
invariant-loop-place l = record {
  within : l.place ≤ length l.hashes;
  passed : (count : ℕ) → IsLast (HasKey l.hashes (length l.chains.heads.items) l.hash) (HasHash l.hashes l.hash) count l.fn.place
      → IsLast (HasKey l.hashes (length l.chains.heads.items) l.hash) (HasHash l.hashes l.hash) count l.place;
}

abbrev pub decreases-loop-place : goal.decreases-loop-place
decreases-loop-place l = l.place
