use Rattle.std.proofs.Common.{◌≤◌}
use Rattle.mast_relations.proofs.order.reached.Given as goal

-- no more are bound than were looked at
abbrev pub invariant-loop-column : goal.invariant-loop-column
invariant-loop-column l = l.known ≤ l.column
