-- One set more has the hits of its rows.
use Rattle.std.proofs.Common.{arith}
use Rattle.mast_certain.proofs.SetLemmas.{in_some_here}
use Rattle.mast_certain.proofs.SupportedLemmas.{set_hits_all, set_hits_more, set_hits_none}
use Rattle.mast_certain.proofs.supported.add_sets.Goals as goal

pub loop-number-init : goal.loop-number-init
loop-number-init c = set_hits_none c.args.extensions.now c.args.width c.args.sets.now c.args.hits.now.items

pub add_rows-requires : goal.add_rows-requires
add_rows-requires c =
    λ row i. c.requires row (in_some_here c.args.sets.now c.loop-number.number c.index-sets-number.result row (omega (arith, c.loop-number-test.true)) c.index-sets-number.is i)

pub loop-number-preserved : goal.loop-number-preserved
loop-number-preserved c =
    set_hits_more c.args.extensions.now c.args.width c.args.sets.now c.loop-number.number c.index-sets-number.result c.args.hits.now.items c.loop-number.hits.items c.add_rows.new.hits.items
    (omega (arith, c.loop-number-test.true)) c.index-sets-number.is c.loop-number.invariant c.in_ok-add_rows.ensures

pub returns : goal.returns
returns c =
    set_hits_all c.args.extensions.now c.args.width c.args.sets.now c.loop-number.number c.args.hits.now.items c.loop-number.hits.items (omega (arith, c.loop-number-test.false)) c.loop-number.invariant
