-- What is told of the violations that are left is told of all of them.
use Rattle.std.proofs.Common.{drop}
use Rattle.mast_join.specs.Answers.{IsOverSame}
use Rattle.mast_check.proofs.AllLemmas.{TellsBehind}
use Rattle.mast_check.proofs.all.all_of_all.Given as goal

abbrev pub invariant-loop-violation : goal.invariant-loop-violation
invariant-loop-violation g l = record {
  same : IsOverSame l.fn.extensions l.extensions;
  told : TellsBehind l.spec l.fn.extensions.over l.violations (drop l.violation-index l.violations) l.all.items;
}
