use Rattle.mast_violate.proofs.SeenLemmas.{IsCounted}
use Rattle.mast_violate.proofs.count.ranges.Given as goal

abbrev pub invariant-loop-line : goal.invariant-loop-line
invariant-loop-line l = IsCounted l.lines l.line-index l.tally l.count
