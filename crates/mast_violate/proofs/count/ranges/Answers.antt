use Rattle.mast_violate.proofs.SeenLemmas.{tally_small}
use Rattle.mast_violate.proofs.count.ranges.Goals as goal

pub violations-count-requires : goal.violations-count-requires
violations-count-requires c = tally_small c.args.lines.now c.loop-line.line-index c.loop-line.tally c.loop-line.count c.loop-line-test.true c.requires c.loop-line.invariant

pub note-requires : goal.note-requires
note-requires c = tally_small c.args.lines.now c.loop-line.line-index c.loop-line.tally c.loop-line.count c.loop-line-test.true c.requires c.loop-line.invariant
