use Rattle.mast_tbox.specs.Lists.{itself}
use Rattle.mast_tbox.proofs.WorkLemmas.{reaches_join}
use Rattle.mast_tbox.proofs.ComponentLemmas.{equivalent_turned, equivalent_join}
use Rattle.mast_tbox.proofs.JudgeLemmas.{below_inverse, equivalent_inverse}
use Rattle.mast_tbox.proofs.laws.property_order_law.Goals as goal

pub returns : goal.returns
returns c = record {
  below_itself = λ tbox p. itself;
  below_joined = λ tbox p q r b d. reaches_join p q r b d;
  below_inverse = below_inverse;
  itself = λ tbox p. (itself, itself);
  turned = equivalent_turned;
  joined = equivalent_join;
  inverses = equivalent_inverse;
}
