use Rattle.std.proofs.Common.{◌+◌, length, ap, ◌∙◌}
use Rattle.mast_join.specs.inside.Lookups.{key_of}
use Rattle.mast_join.proofs.LookupLemmas.{indexed_step}
use Rattle.mast_join.proofs.index.Index.new.Goals as goal

pub loop-row-preserved : goal.loop-row-preserved
loop-row-preserved c =
    let count = length c.args.rows.now + 1 in
    let s = indexed_step c.args.table.now c.args.column count c.args.rows.now c.loop-row.row-index c.key.result c.loop-row.heads.items c.loop-row.nexts.items c.push.new.heads.items c.push.new.nexts.items
    c.loop-row.invariant.indexed c.loop-row-test.true c.loop-row.invariant.size (c.key.ensures.value ∙ ap (key_of count) c.number.ensures) c.key.ensures.below c.in_ok-push.ensures.heads c.in_ok-push.ensures.nexts in
    record { size = s.0; indexed = s.1 }
