use Rattle.std.proofs.Common.{◌≡◌, cond, Some, subst}
use Rattle.std.specs.Map.{lookup}
use Rattle.mast_tbox.specs.contracts.expression.PropPartialEq.TheImpl as prop
use Rattle.mast_tbox.specs.Expressions.{same_prop}
use Rattle.mast_tbox.specs.inside.Chosen.{noted_chief}
use Rattle.mast_tbox.proofs.chiefs.Chiefs.note.Goals as goal

pub returns : goal.returns
returns c = λ p.
    let e : prop.eq-value.it ≡ same_prop = (λ i x y. c.prop_laws.ensures.test x y i) in
    subst (λ w. noted_chief c.insert.new.self.entries p ≡ cond (same_prop c.args.prop p) (Some c.args.chief) (noted_chief w p)) c.self.view_is
    (subst (λ t. lookup (t p) c.insert.new.self.entries ≡ cond (t c.args.prop p) (Some c.args.chief) (lookup (t p) c.self.inside.map.entries)) e (c.in_ok-insert.ensures.updates.0 p))
