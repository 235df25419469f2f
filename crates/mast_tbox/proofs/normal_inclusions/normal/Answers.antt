use Rattle.std.proofs.Common.{ap, subst, ◌∙◌}
use Rattle.mast_tbox.specs.Inclusions.{directly_below}
use Rattle.mast_tbox.specs.inside.Linking.{TellsLinked, name_chief}
use Rattle.mast_tbox.specs.inside.StepLists.{leading_to}
use Rattle.mast_tbox.proofs.normal_inclusions.normal.Goals as goal

pub invariant_of-result : goal.invariant_of-result
invariant_of-result c = record {
  concepts_below = λ b. c.in_ok-concepts.ensures b ∙ ap (λ w. directly_below w b) c.deref.ensures.value;
  props_below = λ p. c.in_ok-props.ensures p ∙ ap (λ w. leading_to w p) c.deref-2.ensures.value;
  linked = subst (λ w. TellsLinked w (name_chief c.in_ok-chiefs.chiefs)) c.deref-3.ensures.value c.in_ok-chiefs.ensures;
}
