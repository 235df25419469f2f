-- What is left and what was looked at are the whole list.
use Rattle.std.proofs.Common.{drop}
use Rattle.std.specs.List.{AllByRecursion}
use Rattle.mast_canon.specs.Theories.{theory_of}
use Rattle.mast_check.specs.declared.breach.CheckLimit.{CheckLimit}
use Rattle.mast_check.specs.Limits.{IsSmallEnough}
use Rattle.mast_check.specs.inside.Limited.{IsOfFirst}
use Rattle.mast_check.proofs.limits.closures_fit.Given as goal

abbrev pub invariant-loop-violation : goal.invariant-loop-violation
invariant-loop-violation l = record {
  small : AllByRecursion (IsSmallEnough (theory_of l.spec)) (drop l.violation-index l.list) → AllByRecursion (IsSmallEnough (theory_of l.spec)) l.list;
  first : (its : CheckLimit) → IsOfFirst (theory_of l.spec) (drop l.violation-index l.list) its → IsOfFirst (theory_of l.spec) l.list its;
}
