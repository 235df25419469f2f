-- All lists so far, one after another.
use Rattle.std.proofs.Common.{◌≡◌}
use Rattle.mast_check.specs.inside.Pieces.{flat}
use Rattle.mast_check.proofs.all.flattened.Given as goal

abbrev pub invariant-loop-list : goal.invariant-loop-list
invariant-loop-list l = (goal.iterator-loop-list).can_next l.list-iterator × (goal.iterator-loop-list).is_finite l.list-iterator × (l.all.items ≡ flat l.yielded)
