use Rattle.mast_sparsql.proofs.PartLemmas.{reads_nots}
use Rattle.mast_sparsql.proofs.cursor.Cursor.+parts.Goals as goal

pub negation-returns : goal.negation-returns
negation-returns t c =
    reads_nots c.args.self.now c.nots.new.self c.plain.new.self c.in_ok-count.count c.in_ok-condition.condition c.in_ok-whole.whole c.in_ok-count.ensures c.in_ok-condition.ensures c.in_ok-whole.ensures
