use Rattle.std.proofs.Common.{◌≡◌, drop}
use Rattle.mast_relations.specs.Plans.{picked}
use Rattle.mast_relations.specs.inside.Hashing.{hash_of, hashed}
use Rattle.mast_relations.proofs.rows.hash_at.Given as goal

-- the hash so far, and what the numbers that are left make of it
abbrev pub invariant-loop-place : goal.invariant-loop-place
invariant-loop-place l = hashed l.hash (picked l.numbers (drop l.place-index l.places)) ≡ hash_of (picked l.numbers l.places)
