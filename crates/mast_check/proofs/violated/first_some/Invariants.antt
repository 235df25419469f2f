-- The first that is there is behind what was looked at.
use Rattle.std.proofs.Common.{◌≡◌, drop}
use Rattle.mast_check.specs.inside.Pieces.{first_there}
use Rattle.mast_check.proofs.violated.first_some.Given as goal

abbrev pub invariant-loop-place : goal.invariant-loop-place
invariant-loop-place l = first_there (drop l.place l.found.items) ≡ first_there l.fn.found
