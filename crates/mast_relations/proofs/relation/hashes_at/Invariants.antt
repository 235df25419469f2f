use Rattle.std.proofs.Common.{◌≡◌, take}
use Rattle.mast_relations.specs.inside.Indices.{hashes_by}
use Rattle.mast_relations.proofs.relation.hashes_at.Given as goal

-- the hashes of the rows so far
abbrev pub invariant-loop-place : goal.invariant-loop-place
invariant-loop-place l = l.hashes ≡ hashes_by l.columns (take l.place l.rows.list)
