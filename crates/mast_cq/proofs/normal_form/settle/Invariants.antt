use Rattle.std.proofs.Common.{◌≡◌}
use Rattle.mast_cq.specs.NormalForms.{settle, places}
use Rattle.mast_cq.proofs.normal_form.settle.Given as goal

abbrev pub invariant-loop-var : goal.invariant-loop-var
invariant-loop-var l = settle l.answer (places l.atoms.items) l.atoms.items ≡ settle l.fn.answer (places l.fn.atoms.items) l.fn.atoms.items

abbrev pub decreases-loop-var : goal.decreases-loop-var
decreases-loop-var l = places l.atoms.items
