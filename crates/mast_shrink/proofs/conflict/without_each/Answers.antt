-- One more row is tried, and at the end all were.
use Rattle.std.proofs.Common.{rules}
use Rattle.mast_shrink.proofs.RemovalLemmas.{all_needed, fewer_of, more_broken, more_needed}
use Rattle.mast_shrink.proofs.conflict.without_each.Goals as goal

pub without_row-requires-clause-rows : goal.without_row-requires-clause-rows
without_row-requires-clause-rows g c κs within =
    fewer_of c.args.checking.now c.args.tables.now.list c.args.rows.now c.loop-row.broken c.loop-row.invariant.broken c.requires.rows

pub loop-row-preserved : goal.loop-row-preserved
loop-row-preserved g c = record {
  broken = more_broken c.args.checking.now c.args.tables.now.list c.args.rows.now c.loop-row.broken c.in_ok-broken.broken c.loop-row.invariant.broken c.in_ok-broken.ensures.broken;
  needed = more_needed c.args.checking.now c.args.tables.now.list c.args.rows.now c.loop-row.row-index _ c.loop-row.broken c.in_ok-broken.broken
      c.loop-row-test.true (search rules) c.loop-row.invariant.needed c.in_ok-broken.ensures.broken c.in_ok-broken.ensures.needed;
}

pub returns-clause-needed : goal.returns-clause-needed
returns-clause-needed g c =
    all_needed c.args.checking.now c.args.tables.now.list c.args.rows.now c.loop-row.row-index c.loop-row.broken c.loop-row-test.false c.loop-row.invariant.needed
