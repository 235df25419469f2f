use Rattle.mast_tbox.specs.Lists.{items}
use Rattle.mast_tbox.specs.inside.Chosen.{noted_chief}
use Rattle.mast_tbox.proofs.RoundLemmas.{Going}
use Rattle.mast_tbox.proofs.components.components.Given as goal

abbrev pub invariant-loop-left : goal.invariant-loop-left
invariant-loop-left l = Going (items l.lines) l.initial.free l.order.items l.left l.free (noted_chief l.chiefs)

abbrev pub decreases-loop-left : goal.decreases-loop-left
decreases-loop-left l = l.left
