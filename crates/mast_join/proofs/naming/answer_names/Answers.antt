use Rattle.std.proofs.Common.{arith, sym, subst, take, ◌+◌}
use Rattle.std.specs.List.{AllZip}
use Rattle.mast_join.specs.inside.Namings.{IsNamed}
use Rattle.mast_join.proofs.NamingLemmas.{named_more}
use Rattle.mast_join.proofs.ValueLemmas.{front_twice}
use Rattle.mast_join.proofs.naming.answer_names.Goals as goal

pub loop-arg-preserved : goal.loop-arg-preserved
loop-arg-preserved c =
    let inv = c.loop-arg.invariant in
    let i = c.loop-arg.arg-index in
    let old = c.loop-arg.vars.keys in
    let new = c.name.new.vars.keys in
    let more = named_more old new c.args.answer.now i _ c.loop-arg.names.items c.in_ok-name.field-0 (omega (arith, c.loop-arg-test.true)) inv.2 c.in_ok-name.ensures.front c.in_ok-name.ensures.place in
    (c.in_ok-name.ensures.few, front_twice c.args.vars.now.keys old new inv.1 c.in_ok-name.ensures.front, subst (λ names. AllZip (IsNamed new) (take (i + 1) c.args.answer.now) names) (sym c.in_ok-push.ensures.items) more)
