use Rattle.std.proofs.Common.{ℕ, ◌≤◌, ◌<◌, ◌-◌, length}
use Rattle.mast_relations.specs.inside.Indices.{AgreesBy}
use Rattle.mast_relations.specs.inside.Lasts.{HasHash, IsLast}
use Rattle.mast_relations.proofs.relation.agreeing.Given as goal

-- no row that was passed agrees
abbrev pub invariant-loop-place : goal.invariant-loop-place
invariant-loop-place l = record {
  within : l.place ≤ length l.rows.list;
  hashed : 0 < l.place → HasHash l.index.hashes l.hash (l.place - 1);
  passed : (count : ℕ) → count ≤ length l.rows.list → IsLast (HasHash l.index.hashes l.hash) (HasHash l.index.hashes l.hash) count l.fn.place
      → IsLast (HasHash l.index.hashes l.hash) (AgreesBy l.rows l.index.columns.items l.values l.places) count l.place;
}

abbrev pub decreases-loop-place : goal.decreases-loop-place
decreases-loop-place l = l.place
