use Rattle.std.proofs.Common.{length}
use Rattle.mast_relations.specs.inside.Lasts.{HasHash, IsRow}
use Rattle.mast_relations.proofs.LastLemmas.{IsWalked}
use Rattle.mast_relations.proofs.rows.RowSet.find.Given as goal

-- no place that was passed has the row
abbrev pub invariant-loop-place : goal.invariant-loop-place
invariant-loop-place l = IsWalked (HasHash l.self-inside.hashes l.hash) (λ q. IsRow l.self l.row q → ⊥) (length l.self-inside.hashes) l.place

abbrev pub decreases-loop-place : goal.decreases-loop-place
decreases-loop-place l = l.place
