use Rattle.std.proofs.Common.{◌≡◌, cond, false, subst}
use Rattle.std.specs.List.{list_any}
use Rattle.mast_tbox.specs.contracts.expression.PropPartialEq.TheImpl as prop
use Rattle.mast_tbox.specs.Expressions.{same_prop}
use Rattle.mast_tbox.specs.inside.Chosen.{is_in}
use Rattle.mast_tbox.proofs.prop_set.PropSet.remove.Goals as goal

pub returns : goal.returns
returns c = λ p.
    let e : prop.eq-value.it ≡ same_prop = (λ i x y. c.prop_laws.ensures.test x y i) in
    subst (λ w. is_in p c.swap_remove.new.self.keys ≡ cond (same_prop c.args.prop p) false (is_in p w)) c.self.view_is
    (subst (λ t. list_any (t p) c.swap_remove.new.self.keys ≡ cond (t c.args.prop p) false (list_any (t p) c.self.inside.set.keys)) e (c.swap_remove.ensures.updates.0 p))
