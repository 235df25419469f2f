use Rattle.std.proofs.Common.{◌≤◌, ◌*◌}
use Rattle.mast_relations.proofs.order.repeats.Given as goal

-- each turn has found 32 at most
abbrev pub invariant-loop-one : goal.invariant-loop-one
invariant-loop-one l = l.found ≤ 32 * l.one
