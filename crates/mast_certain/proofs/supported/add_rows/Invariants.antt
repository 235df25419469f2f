-- The hits of the rows so far.
use Rattle.mast_certain.proofs.SupportedLemmas.{HaveRowHits}
use Rattle.mast_certain.proofs.supported.add_rows.Given as goal

abbrev pub invariant-loop-number : goal.invariant-loop-number
invariant-loop-number l = HaveRowHits l.extensions l.width l.rows.list l.number l.fn.hits.items l.hits.items
