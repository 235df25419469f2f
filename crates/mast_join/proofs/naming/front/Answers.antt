use Rattle.std.proofs.Common.{arith, sym, subst, take, ◌+◌}
use Rattle.mast_join.specs.Answers.{AreNumbersOf}
use Rattle.mast_join.proofs.NamingLemmas.{front_more}
use Rattle.mast_join.proofs.ValueLemmas.{front_twice}
use Rattle.mast_join.proofs.naming.front.Goals as goal

pub loop-variable-preserved : goal.loop-variable-preserved
loop-variable-preserved c =
    let inv = c.loop-variable.invariant in
    let xs = c.deref-variable-items.result.now in
    let i = c.loop-variable.variable-index in
    let old = c.loop-variable.vars.keys in
    let new = c.place.new.vars.keys in
    let more = front_more old new c.loop-variable.front xs i 0 c.in_ok-place.field-0 (omega (arith, c.loop-variable-test.true)) inv.2 c.in_ok-place.ensures.front c.in_ok-place.ensures.place in
    (c.in_ok-place.ensures.few, front_twice c.args.vars.now.keys old new inv.1 c.in_ok-place.ensures.front, subst (λ front. AreNumbersOf new front (take (i + 1) xs)) (sym c.in_ok-push.ensures.ok) more)
