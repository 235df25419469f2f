use Rattle.std.proofs.Common.{◌≡◌, true, ◌↔◌, Bool, sym, ap, ◌∙◌, arith, slice_get, Some, Contains}
use Rattle.indexmap.specs.IndexSet.{insert_all}
use Rattle.mast_tbox.specs.contracts.expression.BasicPartialEq.TheImpl as basic
use Rattle.mast_tbox.specs.declared.expression.Basic.{Basic}
use Rattle.mast_tbox.specs.declared.groups.Groups.{Groups}
use Rattle.mast_tbox.specs.Expressions.{same_basic}
use Rattle.mast_tbox.specs.inside.Groups.{found}
use Rattle.mast_tbox.specs.inside.Linking.{LeadsOn}
use Rattle.mast_tbox.proofs.WorkLemmas.{worked_first, worked_more, worked_by, past_end, before_end}
use Rattle.mast_tbox.proofs.EqualityLemmas.{basic_same}
use Rattle.mast_tbox.proofs.name_links.reached.Goals as goal

by_same : (f : Basic → Basic → Bool) → ((x y : Basic) → f x y ≡ same_basic x y) → (x y : Basic) → f x y ≡ true → x ≡ y
by_same f e x y t = basic_same x y (sym (e x y) ∙ t)

leads : (groups : Groups Basic) (x y : Basic) → Contains (found same_basic groups x) y ↔ LeadsOn groups x y
leads groups x y = (λ c. c, λ c. c)

pub loop-done-init : goal.loop-done-init
loop-done-init c =
    worked_first basic.eq-value.it (by_same basic.eq-value.it c.basic_laws.ensures.test) (λ n. found same_basic c.args.links.now n) c.args.start c.new-set.result.keys c.insert.new.self.keys c.new-set.ensures.len c.in_ok-insert.ensures.keys

pub loop-done-preserved : goal.loop-done-preserved
loop-done-preserved c =
    let e : basic.eq-value.it ≡ same_basic = (λ i x y. c.basic_laws.ensures.test x y i) in
    let at : Some c.in-Some.next.now ≡ slice_get c.loop-done.set.keys c.loop-done.done = c.in-Some.ensures.key in
    worked_more basic.eq-value.it (by_same basic.eq-value.it c.basic_laws.ensures.test) (λ n. found same_basic c.args.links.now n) c.args.start c.loop-done.set.keys c.add_names.new.set.keys c.loop-done.done c.in-Some.next.now c.loop-done.invariant at
    (c.in_ok-add_names.ensures ∙ ap (insert_all basic.eq-value.it c.loop-done.set.keys) (c.get.ensures ∙ ap (λ t. found t c.args.links.now c.in-Some.next.now) e))
    (before_end c.loop-done.set.keys c.loop-done.done c.in-Some.next.now (sym at))

pub returns-in-None : goal.returns-in-None
returns-in-None c =
    worked_by basic.eq-value.it (by_same basic.eq-value.it c.basic_laws.ensures.test) (λ n. found same_basic c.args.links.now n) (LeadsOn c.args.links.now) (leads c.args.links.now) c.args.start c.loop-done.set.keys c.loop-done.done c.loop-done.invariant
    (past_end c.loop-done.set.keys c.loop-done.done (sym c.in-None.ensures.key))

pub returns : goal.returns
returns c =
    worked_by basic.eq-value.it (by_same basic.eq-value.it c.basic_laws.ensures.test) (λ n. found same_basic c.args.links.now n) (LeadsOn c.args.links.now) (leads c.args.links.now) c.args.start c.loop-done.set.keys c.loop-done.done c.loop-done.invariant
    (omega (arith, c.len-count.ensures.len))
