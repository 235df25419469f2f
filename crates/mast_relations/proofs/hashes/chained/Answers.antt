use Rattle.std.proofs.Common.{get_or, refl}
use Rattle.mast_relations.proofs.HashLemmas.{chained_more}
use Rattle.mast_relations.proofs.hashes.chained.Goals as goal

pub loop-hash-preserved : goal.loop-hash-preserved
loop-hash-preserved c =
    let l = c.loop-hash in
    chained_more c.args.hashes.now c.args.size l.hash-index l.heads.items l.nexts.items c.link.new.heads.items c.link.new.nexts.items (get_or c.args.hashes.now l.hash-index 0)
    l.invariant refl c.requires.some c.in_ok-link.ensures.nexts c.in_ok-link.ensures.heads
