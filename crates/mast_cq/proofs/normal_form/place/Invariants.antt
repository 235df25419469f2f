use Rattle.mast_cq.proofs.PutLemmas.{Passes}
use Rattle.mast_cq.proofs.normal_form.place.Given as goal

abbrev pub invariant-loop-at : goal.invariant-loop-at
invariant-loop-at l = Passes l.atom l.at l.atoms
