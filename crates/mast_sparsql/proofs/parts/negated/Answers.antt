use Rattle.mast_sparsql.proofs.PartLemmas.{negated_next}
use Rattle.mast_sparsql.proofs.parts.negated.Goals as goal

pub loop-preserved : goal.loop-preserved
loop-preserved c = negated_next c.loop.whole c.in_ok-whole.whole c.args.part c.loop.counter c.loop.invariant c.in_ok-whole.ensures
