use Rattle.mast_tbox.specs.inside.Components.{Begins}
use Rattle.mast_tbox.proofs.components.search.Given as goal

abbrev pub invariant-loop : goal.invariant-loop
invariant-loop l = Begins l.fn.order.items l.order.items
