use Rattle.std.proofs.Common.{[], sym, ap, subst, ◌∙◌, arith, Contains}
use Rattle.std.proofs.lemmas.Map.Views.{Contains-from_any}
use Rattle.indexmap.specs.IndexSet.{insert_all}
use Rattle.mast_tbox.specs.Expressions.{same_prop}
use Rattle.mast_tbox.specs.Lists.{items}
use Rattle.mast_tbox.specs.inside.Chosen.{is_in, noted_chief}
use Rattle.mast_tbox.specs.inside.Components.{all_ends, Begins, Settles, next_in}
use Rattle.mast_tbox.proofs.EqualityLemmas.{prop_same}
use Rattle.mast_tbox.proofs.RoundLemmas.{going_first, going_past, going_on, going_done, below_edges, above_edges}
use Rattle.mast_tbox.proofs.components.components.Goals as goal

pub loop-left-init : goal.loop-left-init
loop-left-init c =
    going_first (items c.args.lines.now) c.in_ok-order.order.items c.in_ok-free.free c.len-left.result (noted_chief c.new-chiefs.result) (omega (arith, c.len-left.ensures)) c.new-chiefs.ensures
    (c.in_ok-free.ensures ∙ ap (λ w. insert_all same_prop [] (all_ends w)) (c.deref-3.ensures.value ∙ c.in_ok-stated.ensures))

pub loop-left-preserved : goal.loop-left-preserved
loop-left-preserved c =
    going_on (items c.args.lines.now) c.in_ok-free.free c.in_ok-order.order.items c.loop-left.left c.loop-left.free (noted_chief c.loop-left.chiefs) c.loop-left.invariant (omega (arith, c.loop-left-test.true))
    (next_in c.in_ok-below.below) (next_in c.in_ok-above.above)
    (below_edges (items c.args.lines.now) c.deref.result.now c.in_ok-below.below (c.deref.ensures.value ∙ c.in_ok-stated.ensures) c.in_ok-below.ensures)
    (above_edges c.args.lines.now c.deref-2.result.now c.in_ok-above.above (c.deref-2.ensures.value ∙ c.in_ok-turned.ensures) c.in_ok-above.ensures)
    c.index-root.result.now c.settle.new.free (noted_chief c.settle.new.chiefs)
    (subst (Contains c.loop-left.free) c.index-root.ensures (Contains-from_any prop_same c.index-root.result.now c.loop-left.free (sym c.contains.ensures ∙ c.if-not-contains.false)))
    (subst (λ r. Settles c.in_ok-below.below c.in_ok-above.above c.loop-left.free c.loop-left.chiefs r c.settle.new.free c.settle.new.chiefs) c.index-root.ensures c.in_ok-settle.ensures)

pub loop-left-preserved-then-not-contains : goal.loop-left-preserved-then-not-contains
loop-left-preserved-then-not-contains c =
    going_past (items c.args.lines.now) c.in_ok-free.free c.in_ok-order.order.items c.loop-left.left c.loop-left.free (noted_chief c.loop-left.chiefs) c.loop-left.invariant (omega (arith, c.loop-left-test.true)) c.index-root.result.now
    (ap (λ r. is_in r c.loop-left.free) (sym c.index-root.ensures) ∙ (sym c.contains.ensures ∙ c.if-not-contains.true))

pub returns : goal.returns
returns c =
    going_done (items c.args.lines.now) c.in_ok-free.free c.in_ok-order.order.items c.loop-left.left c.loop-left.free (noted_chief c.loop-left.chiefs) c.loop-left.invariant (omega (arith, c.loop-left-test.false))
    (subst (λ w. Begins w c.in_ok-order.order.items) c.as_slice.ensures c.in_ok-order.ensures)
