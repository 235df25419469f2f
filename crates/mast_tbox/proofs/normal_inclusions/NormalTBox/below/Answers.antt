use Rattle.std.proofs.Common.{◌≡◌, ap, ◌∙◌}
use Rattle.mast_tbox.specs.contracts.expression.BasicPartialEq.TheImpl as basic
use Rattle.mast_tbox.specs.Expressions.{same_basic}
use Rattle.mast_tbox.specs.inside.Groups.{found}
use Rattle.mast_tbox.specs.Inclusions.{directly_below}
use Rattle.mast_tbox.proofs.normal_inclusions.NormalTBox.below.Goals as goal

pub returns : goal.returns
returns c =
    let e : basic.eq-value.it ≡ same_basic = (λ i x y. c.basic_laws.ensures.test x y i) in
    c.get.ensures ∙ (ap (λ t. found t c.self.inside.concepts c.args.basic) e ∙ (c.self.invariant.concepts_below c.args.basic ∙ ap (λ w. directly_below w c.args.basic) c.self.view_is))
