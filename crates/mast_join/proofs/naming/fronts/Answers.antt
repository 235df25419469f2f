use Rattle.std.proofs.Common.{arith, sym, subst, take, ◌+◌}
use Rattle.std.specs.List.{AllZip}
use Rattle.mast_join.specs.inside.Namings.{IsFrontOf}
use Rattle.mast_join.proofs.NamingLemmas.{fronts_more}
use Rattle.mast_join.proofs.ValueLemmas.{front_twice}
use Rattle.mast_join.proofs.naming.fronts.Goals as goal

pub loop-atom-preserved : goal.loop-atom-preserved
loop-atom-preserved c =
    let inv = c.loop-atom.invariant in
    let i = c.loop-atom.atom-index in
    let old = c.loop-atom.vars.keys in
    let new = c.front.new.vars.keys in
    let more = fronts_more old new c.args.atoms.now i _ c.loop-atom.fronts.items c.in_ok-front.field-0 (omega (arith, c.loop-atom-test.true)) inv.2 c.in_ok-front.ensures.front c.in_ok-front.ensures.places in
    (c.in_ok-front.ensures.few, front_twice c.args.vars.now.keys old new inv.1 c.in_ok-front.ensures.front, subst (λ fronts. AllZip (IsFrontOf new) (take (i + 1) c.args.atoms.now) fronts) (sym c.in_ok-push.ensures.items) more)
