use Rattle.std.proofs.Common.{◌≡◌, subst, ◌∙◌}
use Rattle.std.specs.Result.{OnOk}
use Rattle.std.proofs.lemmas.Result.{on_ok_weaker}
use Rattle.mast_tbox.specs.contracts.expression.BasicPartialEq.TheImpl as basic
use Rattle.mast_tbox.specs.declared.expression.Basic.{Basic}
use Rattle.mast_tbox.specs.Expressions.{same_basic}
use Rattle.mast_tbox.specs.inside.Groups.{found, put}
use Rattle.mast_tbox.proofs.EqualityLemmas.{basic_same}
use Rattle.mast_tbox.proofs.IndexLemmas.{added_one}
use Rattle.mast_tbox.proofs.index.add_concept.Goals as goal

pub returns : goal.returns
returns c =
    let e : basic.eq-value.it ≡ same_basic = (λ i b d. c.basic_laws.ensures.test b d i) in
    let h : OnOk c.add.result ((k : Basic) → found same_basic c.add.new.self k ≡ put same_basic c.args.groups.now c.args.sup c.args.sub k) =
    subst (λ t. OnOk c.add.result ((k : Basic) → found t c.add.new.self k ≡ put t c.args.groups.now c.args.sup c.args.sub k)) e c.add.ensures in
    on_ok_weaker c.add.result (λ f b. f b ∙ added_one same_basic basic_same (found same_basic c.args.groups.now) c.args.sup c.args.sub b) h
