-- One row more has its hit.
use Rattle.std.proofs.Common.{arith}
use Rattle.mast_certain.proofs.SetLemmas.{row_in}
use Rattle.mast_certain.proofs.SupportedLemmas.{row_hits_all, row_hits_more, row_hits_none}
use Rattle.mast_certain.proofs.supported.add_rows.Goals as goal

pub loop-number-init : goal.loop-number-init
loop-number-init c = row_hits_none c.args.extensions.now c.args.width c.args.rows.now.list c.args.hits.now.items

pub hit_of-requires : goal.hit_of-requires
hit_of-requires c =
    c.requires c.row.result.now (row_in c.args.rows.now.list c.loop-number.number c.len-number-end.result c.row.result.now c.row.ensures.row c.len-number-end.ensures.len (omega (arith, c.loop-number-test.true)))

pub loop-number-preserved : goal.loop-number-preserved
loop-number-preserved c =
    row_hits_more c.args.extensions.now c.args.width c.args.rows.now.list c.loop-number.number c.row.result.now c.args.hits.now.items c.loop-number.hits.items c.push.new.self.items c.in_ok-hit.hit
    (omega (arith, c.loop-number-test.true, c.len-number-end.ensures.len)) c.row.ensures.row c.loop-number.invariant c.in_ok-push.ensures.items c.in_ok-hit.ensures

pub returns : goal.returns
returns c =
    row_hits_all c.args.extensions.now c.args.width c.args.rows.now.list c.loop-number.number c.args.hits.now.items c.loop-number.hits.items
    (omega (arith, c.loop-number-test.false, c.len-number-end.ensures.len)) c.loop-number.invariant
