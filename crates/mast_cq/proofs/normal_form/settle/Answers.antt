use Rattle.std.proofs.Common.{ap, arith, ◌∙◌}
use Rattle.mast_cq.proofs.SettleLemmas.{settle_round}
use Rattle.mast_cq.proofs.normal_form.settle.Goals as goal

pub loop-var-smaller : goal.loop-var-smaller
loop-var-smaller c =
    let r = settle_round c.args.answer.now c.loop-var.atoms.items _ _ c.swap.new.x.items c.in-Some.var _ c.deref.ensures.value c.first_alone.ensures c.in-Some.is
    c.deref-in-Some.ensures.value (ap (λ v. v.items) c.swap.ensures.x_after ∙ c.in_ok-order_into-in-Some.ensures) in
    let l = r.0 in omega arith

pub loop-var-preserved : goal.loop-var-preserved
loop-var-preserved c =
    let r = settle_round c.args.answer.now c.loop-var.atoms.items _ _ c.swap.new.x.items c.in-Some.var _ c.deref.ensures.value c.first_alone.ensures c.in-Some.is
    c.deref-in-Some.ensures.value (ap (λ v. v.items) c.swap.ensures.x_after ∙ c.in_ok-order_into-in-Some.ensures) in
    r.1 ∙ c.loop-var.invariant
