-- The hits of the sets so far.
use Rattle.mast_certain.proofs.SupportedLemmas.{HaveSetHits}
use Rattle.mast_certain.proofs.supported.add_sets.Given as goal

abbrev pub invariant-loop-number : goal.invariant-loop-number
invariant-loop-number l = HaveSetHits l.extensions l.width l.sets l.number l.fn.hits.items l.hits.items
