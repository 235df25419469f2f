use Rattle.std.proofs.Common.{◌≡◌, cond, Some, subst}
use Rattle.std.specs.Map.{lookup}
use Rattle.mast_tbox.specs.contracts.expression.BasicPartialEq.TheImpl as basic
use Rattle.mast_tbox.specs.Expressions.{same_basic}
use Rattle.mast_tbox.specs.inside.Linking.{noted_for}
use Rattle.mast_tbox.proofs.name_chiefs.NameChiefs.note.Goals as goal

pub returns : goal.returns
returns c = λ p.
    let e : basic.eq-value.it ≡ same_basic = (λ i x y. c.basic_laws.ensures.test x y i) in
    subst (λ w. noted_for c.insert.new.self.entries p ≡ cond (same_basic c.args.name p) (Some c.args.chief) (noted_for w p)) c.self.view_is
    (subst (λ t. lookup (t p) c.insert.new.self.entries ≡ cond (t c.args.name p) (Some c.args.chief) (lookup (t p) c.self.inside.map.entries)) e (c.in_ok-insert.ensures.updates.0 p))
