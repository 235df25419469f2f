use Rattle.std.proofs.Common.{◌≡◌, subst, ◌∙◌}
use Rattle.std.specs.Result.{OnOk}
use Rattle.std.proofs.lemmas.Result.{on_ok_weaker}
use Rattle.mast_tbox.specs.contracts.expression.PropPartialEq.TheImpl as prop
use Rattle.mast_tbox.specs.declared.expression.Prop.{Prop}
use Rattle.mast_tbox.specs.Expressions.{same_prop}
use Rattle.mast_tbox.specs.inside.Groups.{found, put}
use Rattle.mast_tbox.proofs.EqualityLemmas.{prop_same}
use Rattle.mast_tbox.proofs.IndexLemmas.{added_one}
use Rattle.mast_tbox.proofs.index.add_prop.Goals as goal

pub returns : goal.returns
returns c =
    let e : prop.eq-value.it ≡ same_prop = (λ i b d. c.prop_laws.ensures.test b d i) in
    let h : OnOk c.add.result ((k : Prop) → found same_prop c.add.new.self k ≡ put same_prop c.args.groups.now c.args.sup c.args.sub k) =
    subst (λ t. OnOk c.add.result ((k : Prop) → found t c.add.new.self k ≡ put t c.args.groups.now c.args.sup c.args.sub k)) e c.add.ensures in
    on_ok_weaker c.add.result (λ f b. f b ∙ added_one same_prop prop_same (found same_prop c.args.groups.now) c.args.sup c.args.sub b) h
