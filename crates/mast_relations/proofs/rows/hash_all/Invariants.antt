use Rattle.std.proofs.Common.{◌≡◌, drop}
use Rattle.mast_relations.specs.inside.Hashing.{hash_of, hashed}
use Rattle.mast_relations.proofs.rows.hash_all.Given as goal

-- the hash so far, and what the numbers that are left make of it
abbrev pub invariant-loop-number : goal.invariant-loop-number
invariant-loop-number l = hashed l.hash (drop l.number-index l.numbers) ≡ hash_of l.numbers
