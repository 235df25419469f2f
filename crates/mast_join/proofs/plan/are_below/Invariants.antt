use Rattle.std.proofs.Common.{◌≡◌, drop}
use Rattle.mast_join.specs.inside.Plans.{are_below}
use Rattle.mast_join.proofs.plan.are_below.Given as goal

-- what is left decides
abbrev pub invariant-loop-place : goal.invariant-loop-place
invariant-loop-place l = are_below l.count (drop l.place-index l.places) ≡ are_below l.count l.places
