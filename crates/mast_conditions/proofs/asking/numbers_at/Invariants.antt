use Rattle.std.proofs.Common.{◌≡◌, take}
use Rattle.mast_relations.specs.Plans.{picked}
use Rattle.mast_conditions.proofs.asking.numbers_at.Given as goal

-- the numbers at the places so far
abbrev pub invariant-loop-place : goal.invariant-loop-place
invariant-loop-place l = l.picks.items ≡ picked l.numbers (take l.place-index l.places)
