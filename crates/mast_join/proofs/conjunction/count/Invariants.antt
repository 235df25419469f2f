use Rattle.std.proofs.Common.{◌≡◌, ◌++◌}
use Rattle.mast_join.specs.inside.Relates.{counted}
use Rattle.mast_join.proofs.conjunction.count.Given as goal

-- the numbers so far
abbrev pub invariant-loop-number : goal.invariant-loop-number
invariant-loop-number l = l.places ≡ l.fn.places ++ counted l.first l.number
