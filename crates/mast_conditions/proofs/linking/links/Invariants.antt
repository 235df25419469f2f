use Rattle.mast_conditions.proofs.LinkLemmas.{IsTied}
use Rattle.mast_conditions.proofs.linking.links.Given as goal

-- the columns so far are tied
abbrev pub invariant-loop-equality : goal.invariant-loop-equality
invariant-loop-equality l = IsTied l.equalities l.span l.columns.items l.places.items
