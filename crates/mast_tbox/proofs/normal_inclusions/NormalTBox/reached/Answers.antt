use Rattle.std.proofs.Common.{inl, inr}
use Rattle.mast_tbox.proofs.WorkLemmas.{nothing}
use Rattle.mast_tbox.proofs.normal_inclusions.NormalTBox.reached.Goals as goal

pub add_down-requires : goal.add_down-requires
add_down-requires c = λ g h i s. absurd (nothing c.new-set.result.keys c.new-set.ensures.len g i)

pub returns : goal.returns
returns c = λ h. (
  λ i. elim ((c.in_ok-add_down.ensures.exact h).0 i) [ inl o ↦ absurd (nothing c.new-set.result.keys c.new-set.ensures.len h o) | inr d ↦ d ],
  λ d. (c.in_ok-add_down.ensures.exact h).1 (inr d),
)
