use Rattle.std.specs.List.{filter}
use Rattle.mast_tbox.specs.inside.Chosen.{is_in}
use Rattle.mast_tbox.specs.inside.Components.{next_in}
use Rattle.mast_tbox.proofs.WorkLemmas.{Worked}
use Rattle.mast_tbox.proofs.components.reached.Given as goal

abbrev pub invariant-loop-done : goal.invariant-loop-done
invariant-loop-done l = Worked (λ p. filter (λ q. is_in q l.within) (next_in l.edges p)) l.fn.start l.set l.done
