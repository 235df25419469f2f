use Rattle.std.proofs.Common.{arith}
use Rattle.mast_rewrite.proofs.WayLemmas.{ways_added}
use Rattle.mast_rewrite.proofs.counting.replacements.Goals as goal

pub loop-met-preserved : goal.loop-met-preserved
loop-met-preserved c = ways_added c.args.g c.args.h c.args.all.now c.loop-met.ways.items c.add_way.new.ways.items c.loop-met.met-index _ (omega arith) c.in_ok-add_way.ensures c.loop-met.invariant
