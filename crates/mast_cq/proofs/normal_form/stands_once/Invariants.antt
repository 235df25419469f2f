use Rattle.std.proofs.Common.{◌≡◌, ◌≤◌, ◌+◌, drop}
use Rattle.mast_cq.specs.NormalForms.{uses}
use Rattle.mast_cq.proofs.normal_form.stands_once.Given as goal

abbrev pub invariant-loop-atom : goal.invariant-loop-atom
invariant-loop-atom l = record {
  counted : l.count + uses l.var (drop l.atom-index l.atoms) ≡ uses l.var l.atoms;
  small : l.count ≤ 1;
}
