use Rattle.mast_tbox.specs.inside.Components.{Begins}
use Rattle.mast_tbox.proofs.components.finished.Given as goal

abbrev pub invariant-loop-node : goal.invariant-loop-node
invariant-loop-node l = Begins l.nodes l.order.items
