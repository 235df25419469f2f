use Rattle.std.proofs.Common.{◌≡◌, ap, subst, []}
use Rattle.std.proofs.lemmas.List.{drop_all}
use Rattle.indexmap.specs.IndexSet.{insert_all}
use Rattle.mast_tbox.specs.contracts.expression.PropPartialEq.TheImpl as prop
use Rattle.mast_tbox.specs.Expressions.{same_prop}
use Rattle.mast_tbox.specs.inside.Groups.{found}
use Rattle.mast_tbox.specs.Inclusions.{pairs, firsts}
use Rattle.mast_tbox.specs.inside.StepLists.{prop_pairs}
use Rattle.mast_tbox.proofs.EqualityLemmas.{prop_same, prop_itself}
use Rattle.mast_tbox.proofs.IndexLemmas.{all_added}
use Rattle.mast_tbox.proofs.index.props_below.Goals as goal

pub loop-inclusion-init : goal.loop-inclusion-init
loop-inclusion-init c = λ b.
    let e : prop.eq-value.it ≡ same_prop = (λ i x y. c.prop_laws.ensures.test x y i) in
    let h : found same_prop c.new-groups.result b ≡ [] = subst (λ t. found t c.new-groups.result b ≡ []) e (c.new-groups.ensures b) in
    ap (λ w. insert_all same_prop w (firsts same_prop b (pairs prop_pairs c.args.inclusions.now))) h

pub returns : goal.returns
returns c = λ b.
    all_added same_prop prop_same prop_itself (firsts same_prop b (pairs prop_pairs c.args.inclusions.now)) (found same_prop c.loop-inclusion.groups b)
    (subst (λ w. insert_all same_prop (found same_prop c.loop-inclusion.groups b) (firsts same_prop b (pairs prop_pairs w)) ≡ insert_all same_prop [] (firsts same_prop b (pairs prop_pairs c.args.inclusions.now)))
    (drop_all c.loop-inclusion.inclusion-index c.args.inclusions.now c.loop-inclusion-test.false) (c.loop-inclusion.invariant b))
