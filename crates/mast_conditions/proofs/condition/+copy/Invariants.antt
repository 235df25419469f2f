use Rattle.std.proofs.Common.{◌≡◌, take}
use Rattle.mast_conditions.proofs.condition.+copy.Given as goal

-- the copies so far
abbrev pub invariant-copies-loop-condition : goal.invariant-copies-loop-condition
invariant-copies-loop-condition l = l.copies ≡ take l.condition-index l.conditions
