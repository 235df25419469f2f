use Rattle.std.proofs.Common.{◌≤◌}
use Rattle.mast_relations.proofs.order.alike.Given as goal

-- no more are found than were looked at
abbrev pub invariant-loop-other : goal.invariant-loop-other
invariant-loop-other l = l.found ≤ l.other
