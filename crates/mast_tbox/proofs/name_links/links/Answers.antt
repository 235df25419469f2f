use Rattle.std.proofs.Common.{◌≡◌, ap, subst, []}
use Rattle.std.proofs.lemmas.List.{drop_all}
use Rattle.indexmap.specs.IndexSet.{insert_all}
use Rattle.mast_tbox.specs.contracts.expression.BasicPartialEq.TheImpl as basic
use Rattle.mast_tbox.specs.Expressions.{same_basic}
use Rattle.mast_tbox.specs.inside.Groups.{found}
use Rattle.mast_tbox.specs.Inclusions.{pairs, firsts}
use Rattle.mast_tbox.specs.NameLinks.{links}
use Rattle.mast_tbox.proofs.EqualityLemmas.{basic_same, basic_itself}
use Rattle.mast_tbox.proofs.IndexLemmas.{all_added}
use Rattle.mast_tbox.proofs.name_links.links.Goals as goal

pub loop-inclusion-init : goal.loop-inclusion-init
loop-inclusion-init c = λ b.
    let e : basic.eq-value.it ≡ same_basic = (λ i x y. c.basic_laws.ensures.test x y i) in
    let h : found same_basic c.new-groups.result b ≡ [] = subst (λ t. found t c.new-groups.result b ≡ []) e (c.new-groups.ensures b) in
    ap (λ w. insert_all same_basic w (firsts same_basic b (pairs links c.args.inclusions.now))) h

pub returns : goal.returns
returns c = λ b.
    all_added same_basic basic_same basic_itself (firsts same_basic b (pairs links c.args.inclusions.now)) (found same_basic c.loop-inclusion.groups b)
    (subst (λ w. insert_all same_basic (found same_basic c.loop-inclusion.groups b) (firsts same_basic b (pairs links w)) ≡ insert_all same_basic [] (firsts same_basic b (pairs links c.args.inclusions.now)))
    (drop_all c.loop-inclusion.inclusion-index c.args.inclusions.now c.loop-inclusion-test.false) (c.loop-inclusion.invariant b))
