use Rattle.mast_join.proofs.IndexLemmas.{IsWalked}
use Rattle.mast_join.proofs.index.Index.find.Given as goal

-- what is found, and what the chain has from here on
abbrev pub invariant-loop-place : goal.invariant-loop-place
invariant-loop-place l = IsWalked l.self l.number l.fn.found.items l.found.items l.place

abbrev pub decreases-loop-place : goal.decreases-loop-place
decreases-loop-place l = l.place
