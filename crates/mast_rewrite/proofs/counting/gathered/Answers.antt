use Rattle.std.proofs.Common.{arith, subst, sym}
use Rattle.mast_rewrite.specs.inside.Leaders.{AreLeaders}
use Rattle.mast_rewrite.proofs.WayLemmas.{gathered_next, gathered_end}
use Rattle.mast_rewrite.proofs.counting.gathered.Goals as goal

pub loop-way-preserved : goal.loop-way-preserved
loop-way-preserved c =
    gathered_next c.args.normal.now c.args.g c.args.h c.args.all.now c.args.ways.now c.loop-way.way-index _ c.loop-way.counting.items c.add_counting.new.counting.items (omega arith) c.in_ok-add_counting.ensures c.loop-way.invariant

pub returns : goal.returns
returns c = subst (AreLeaders c.args.normal.now c.args.g c.args.h c.args.all.now) (sym c.from_vec.ensures)
    (gathered_end c.args.normal.now c.args.g c.args.h c.args.all.now c.args.ways.now c.loop-way.way-index c.loop-way.counting.items (omega arith) c.requires c.loop-way.invariant)
