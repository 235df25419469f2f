use Rattle.mast_relations.proofs.HashLemmas.{AreChainedTo}
use Rattle.mast_relations.proofs.hashes.chained.Given as goal

-- the places so far are chained
abbrev pub invariant-loop-hash : goal.invariant-loop-hash
invariant-loop-hash l = AreChainedTo l.hashes l.size l.hash-index l.heads.items l.nexts.items
