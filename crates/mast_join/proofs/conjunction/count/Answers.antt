use Rattle.mast_join.proofs.PlacesLemmas.{counted_more}
use Rattle.mast_join.proofs.conjunction.count.Goals as goal

pub loop-number-preserved : goal.loop-number-preserved
loop-number-preserved c = counted_more c.args.first c.loop-number.number c.args.places.now c.loop-number.places c.push.new.self c.loop-number.invariant c.in_ok-push.ensures.ok
