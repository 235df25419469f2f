-- What is kept of atoms stays right, over the same.
use Rattle.mast_join.specs.Answers.{IsOverSame}
use Rattle.mast_check.specs.inside.Possible.{IsPossible}
use Rattle.mast_check.proofs.possible.Possible.all.Given as goal

abbrev pub invariant-loop-atom : goal.invariant-loop-atom
invariant-loop-atom l = record {
  right : IsPossible l.fn.extensions.over l.self;
  same : IsOverSame l.fn.extensions l.extensions;
}
