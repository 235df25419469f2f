use Rattle.mast_sparsql.proofs.PartLemmas.{nots_next}
use Rattle.mast_sparsql.proofs.cursor.Cursor.nots.Goals as goal

pub loop-preserved : goal.loop-preserved
loop-preserved c =
    nots_next c.args.self.now c.loop.self c.word.new.self c.loop.count c.in_ok-count.count c.loop.invariant c.in_ok-word.ensures c.in_ok-count.ensures
