use Rattle.mast_tbox.specs.inside.StepLists.{steps_of}
use Rattle.mast_tbox.proofs.WorkLemmas.{Widened}
use Rattle.mast_tbox.proofs.normal_inclusions.NormalTBox.add_down.Given as goal

abbrev pub invariant-loop-done : goal.invariant-loop-done
invariant-loop-done l = Widened (steps_of l.self) l.fn.set.keys l.fn.atom l.set.keys l.done
