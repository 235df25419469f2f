use Rattle.std.proofs.Common.{◌≡◌, drop}
use Rattle.mast_cq.specs.NormalForms.{alone, first_var}
use Rattle.mast_cq.proofs.normal_form.first_alone.Given as goal

abbrev pub invariant-loop-atom : goal.invariant-loop-atom
invariant-loop-atom l = first_var (alone l.answer l.atoms) (drop l.atom-index l.atoms) ≡ first_var (alone l.answer l.atoms) l.atoms
