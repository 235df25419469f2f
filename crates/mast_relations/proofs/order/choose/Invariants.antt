use Rattle.std.proofs.Common.{◌<◌, length}
use Rattle.mast_relations.proofs.order.choose.Given as goal

-- the best so far is one of those that are left
abbrev pub invariant-loop-at : goal.invariant-loop-at
invariant-loop-at l = l.best < length l.left
