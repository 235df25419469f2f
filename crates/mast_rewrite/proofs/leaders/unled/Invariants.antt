use Rattle.std.proofs.Common.{Contains}
use Rattle.mast_tbox.specs.Laws.{IsClosed}
use Rattle.mast_rewrite.proofs.SweepLemmas.{Swept}
use Rattle.mast_rewrite.proofs.leaders.unled.Given as goal

abbrev pub invariant-loop-atom : goal.invariant-loop-atom
invariant-loop-atom l = record {
  swept : Swept l.normal l.atoms l.atom-index l.below.keys l.unled.items;
  closed : IsClosed l.normal (Contains l.below.keys);
}
