use Rattle.std.proofs.Common.{arith}
use Rattle.mast_relations.proofs.ListLemmas.{stands_at}
use Rattle.mast_relations.proofs.planning.place_of.Goals as goal

pub returns : goal.returns
returns c = λ i.
    let at = stands_at c.args.variable c.args.bound.now i in
    c.loop-place.invariant at.place (omega (arith, at.within, c.loop-place-test.false)) (at.is 0)
