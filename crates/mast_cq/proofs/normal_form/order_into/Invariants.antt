use Rattle.std.proofs.Common.{◌≡◌, ◌≤◌, drop, length}
use Rattle.mast_cq.specs.NormalForms.{in_order}
use Rattle.mast_cq.specs.inside.Blanks.{blanked_all}
use Rattle.mast_cq.proofs.normal_form.order_into.Given as goal

abbrev pub invariant-loop-left : goal.invariant-loop-left
invariant-loop-left l = record {
  within : l.left ≤ length l.atoms;
  ordered : l.into.items ≡ in_order (blanked_all l.lost (drop l.left l.atoms));
}

abbrev pub decreases-loop-left : goal.decreases-loop-left
decreases-loop-left l = l.left
