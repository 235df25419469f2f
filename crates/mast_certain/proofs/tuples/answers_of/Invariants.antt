use Rattle.std.proofs.Common.{take}
use Rattle.mast_join.specs.Answers.{IsOverSame}
use Rattle.mast_certain.specs.LargeClosures.{NoneIsTooLarge}
use Rattle.mast_certain.proofs.UnionLemmas.{AreSoFar}
use Rattle.mast_certain.proofs.tuples.answers_of.Given as goal

abbrev pub invariant-loop-number : goal.invariant-loop-number
invariant-loop-number g l = record {
  over : IsOverSame l.fn.extensions l.extensions;
  tuples : AreSoFar l.spec l.fn.extensions.over.rows l.blocks l.number l.tuples.items;
  none : NoneIsTooLarge l.spec (take l.number l.blocks);
}
