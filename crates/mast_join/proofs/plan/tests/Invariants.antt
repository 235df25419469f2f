use Rattle.std.proofs.Common.{take}
use Rattle.mast_join.specs.inside.Plans.{AreTests}
use Rattle.mast_join.proofs.plan.tests.Given as goal

-- the comparisons so far
abbrev pub invariant-loop-condition : goal.invariant-loop-condition
invariant-loop-condition l = AreTests l.decls l.entries (take l.condition-index l.conditions) l.tests.items
