use Rattle.std.proofs.Common.{◌≡◌, sym, ap, ◌∙◌, arith, slice_get, Some, length}
use Rattle.std.specs.List.{filter}
use Rattle.indexmap.specs.IndexSet.{insert_all}
use Rattle.mast_tbox.specs.contracts.expression.PropPartialEq.TheImpl as prop
use Rattle.mast_tbox.specs.Expressions.{same_prop}
use Rattle.mast_tbox.specs.inside.Groups.{found}
use Rattle.mast_tbox.specs.inside.Chosen.{is_in}
use Rattle.mast_tbox.specs.inside.Components.{Inside, next_in}
use Rattle.mast_tbox.proofs.EqualityLemmas.{prop_same}
use Rattle.mast_tbox.proofs.NoteLemmas.{inside_is}
use Rattle.mast_tbox.proofs.WorkLemmas.{worked_first, worked_more, worked_by, past_end, before_end}
use Rattle.mast_tbox.proofs.components.reached.Goals as goal

pub loop-done-init : goal.loop-done-init
loop-done-init c =
    worked_first same_prop prop_same (λ p. filter (λ q. is_in q c.args.within.now) (next_in c.args.edges.now p)) c.args.start c.new-set.result c.insert.new.self (ap length c.new-set.ensures) c.in_ok-insert.ensures

pub loop-done-preserved : goal.loop-done-preserved
loop-done-preserved c =
    let e : prop.eq-value.it ≡ same_prop = (λ i x y. c.prop_laws.ensures.test x y i) in
    let at : Some c.in-Some.next ≡ slice_get c.loop-done.set c.loop-done.done = sym c.in-Some.is ∙ c.get.ensures in
    worked_more same_prop prop_same (λ p. filter (λ q. is_in q c.args.within.now) (next_in c.args.edges.now p)) c.args.start c.loop-done.set c.add_within.new.set c.loop-done.done c.in-Some.next c.loop-done.invariant at
    (c.in_ok-add_within.ensures ∙ ap (λ w. insert_all same_prop c.loop-done.set (filter (λ q. is_in q c.args.within.now) w)) (c.get-in-loop-done.ensures ∙ ap (λ t. found t c.args.edges.now c.in-Some.next) e))
    (before_end c.loop-done.set c.loop-done.done c.in-Some.next (sym at))

pub returns-in-None : goal.returns-in-None
returns-in-None c =
    worked_by same_prop prop_same (λ p. filter (λ q. is_in q c.args.within.now) (next_in c.args.edges.now p)) (Inside c.args.within.now (next_in c.args.edges.now)) (inside_is c.args.within.now (next_in c.args.edges.now)) c.args.start
    c.loop-done.set c.loop-done.done c.loop-done.invariant (past_end c.loop-done.set c.loop-done.done (sym c.get.ensures ∙ c.in-None.is))

pub returns : goal.returns
returns c =
    worked_by same_prop prop_same (λ p. filter (λ q. is_in q c.args.within.now) (next_in c.args.edges.now p)) (Inside c.args.within.now (next_in c.args.edges.now)) (inside_is c.args.within.now (next_in c.args.edges.now)) c.args.start
    c.loop-done.set c.loop-done.done c.loop-done.invariant (omega (arith, c.len-count.ensures))
