use Rattle.std.proofs.Common.{◌≡◌, ◌++◌, drop, map}
use Rattle.mast_numbers.specs.inside.Keys.{value_in}
use Rattle.mast_numbers.proofs.terms.arguments.Given as goal

-- the values copied and those of the places that are left are those of all places
abbrev pub invariant-loop-place : goal.invariant-loop-place
invariant-loop-place l = l.args ++ map (value_in l.keys) (drop l.place-index l.places) ≡ map (value_in l.keys) l.places
