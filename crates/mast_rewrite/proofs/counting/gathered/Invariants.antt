use Rattle.mast_rewrite.proofs.WayLemmas.{Gathered}
use Rattle.mast_rewrite.proofs.counting.gathered.Given as goal

abbrev pub invariant-loop-way : goal.invariant-loop-way
invariant-loop-way l = Gathered l.normal l.g l.h l.all l.ways l.way-index l.counting.items
