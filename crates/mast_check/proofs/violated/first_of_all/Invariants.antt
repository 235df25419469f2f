-- What is told of the violations that are left is told of all of them.
use Rattle.std.proofs.Common.{drop}
use Rattle.mast_join.specs.Answers.{IsOverSame}
use Rattle.mast_check.specs.inside.Possible.{IsPossible}
use Rattle.mast_check.proofs.FirstLemmas.{TellsRest}
use Rattle.mast_check.proofs.violated.first_of_all.Given as goal

abbrev pub invariant-loop-violation : goal.invariant-loop-violation
invariant-loop-violation g l = record {
  same : IsOverSame l.fn.extensions l.extensions;
  possible : IsPossible l.fn.extensions.over l.possible;
  told : TellsRest l.spec l.fn.extensions.over l.violations (drop l.violation-index l.violations);
}
