use Rattle.std.proofs.Common.{◌≡◌, drop}
use Rattle.mast_join.specs.inside.Partial.{open_count}
use Rattle.mast_join.proofs.order.first_open.Given as goal

-- those that are open are among those that are left
abbrev pub invariant-loop-entry : goal.invariant-loop-entry
invariant-loop-entry l = open_count (drop l.entry l.bound) ≡ open_count l.bound
