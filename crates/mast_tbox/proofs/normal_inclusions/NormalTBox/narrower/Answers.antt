use Rattle.std.proofs.Common.{◌≡◌, ap, ◌∙◌}
use Rattle.mast_tbox.specs.contracts.expression.PropPartialEq.TheImpl as prop
use Rattle.mast_tbox.specs.Expressions.{same_prop}
use Rattle.mast_tbox.specs.inside.Groups.{found}
use Rattle.mast_tbox.specs.inside.StepLists.{leading_to}
use Rattle.mast_tbox.proofs.normal_inclusions.NormalTBox.narrower.Goals as goal

pub returns : goal.returns
returns c =
    let e : prop.eq-value.it ≡ same_prop = (λ i x y. c.prop_laws.ensures.test x y i) in
    c.get.ensures ∙ (ap (λ t. found t c.self.inside.props c.args.prop) e ∙ (c.self.invariant.props_below c.args.prop ∙ ap (λ w. leading_to w c.args.prop) c.self.view_is))
