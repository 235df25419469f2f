use Rattle.std.proofs.Common.{◌≡◌, ◌==◌, true, List, get_or, sym, ap, subst, ◌∙◌}
use Rattle.std.specs.List.{list_all}
use Rattle.std.proofs.lemmas.Bool.{eqb-true}
use Rattle.mast_conditions.specs.Truth.{truth, truths}
use Rattle.mast_conditions.specs.declared.condition.Condition.{Condition}
use Rattle.mast_conditions.specs.declared.linking.Equality.{Equality}
use Rattle.mast_conditions.specs.inside.Links.{AreEqual}
use Rattle.mast_conditions.proofs.LinkLemmas.{all_true_at, equal_more}
use Rattle.mast_conditions.proofs.RowLemmas.{truth_all, truth_equal}
use Rattle.mast_conditions.proofs.linking.+equalities.Goals as goal

pub loop-condition-preserved : goal.loop-condition-preserved
loop-condition-preserved t c = λ relations numbers old all.
    let items = c.as_slice-condition-items.result.now in
    c.in_ok-equalities-in-All.ensures relations numbers (c.loop-condition.invariant relations numbers old all)
    (subst (λ (k : Condition). truth relations k numbers ≡ true) (sym c.condition-item.is)
    (all_true_at relations numbers items c.loop-condition.condition-index c.condition-item.result all c.loop-condition-test.true))

pub returns-in_ok-push-in-Equal : goal.returns-in_ok-push-in-Equal
returns-in_ok-push-in-Equal t c = λ relations numbers old yes.
    let left = c.in-Equal.left in
    let right = c.in-Equal.right in
    let e : truth relations c.args.condition.now numbers ≡ (get_or numbers left 0 == get_or numbers right 0) =
    ap (λ (k : Condition). truth relations k numbers) c.in-Equal.is ∙ truth_equal relations left right numbers in
    subst (λ (k : List Equality). AreEqual k numbers) (sym c.in_ok-push-in-Equal.ensures.items)
    (equal_more c.args.found.now.items (record { left = left; right = right }) numbers old (eqb-true (get_or numbers left 0) (get_or numbers right 0) (sym e ∙ yes)))

pub returns-after-loop-condition : goal.returns-after-loop-condition
returns-after-loop-condition t c = λ relations numbers old yes.
    let items = c.as_slice-condition-items.result.now in
    let e : truth relations c.args.condition.now numbers ≡ list_all (λ part. part numbers) (truths relations items) =
    ap (λ (k : Condition). truth relations k numbers) c.in-All.is ∙ truth_all relations c.in-All.conditions numbers
    ∙ ap (λ (k : List Condition). list_all (λ part. part numbers) (truths relations k)) (sym c.as_slice-condition-items.ensures) in
    c.loop-condition.invariant relations numbers old (sym e ∙ yes)
