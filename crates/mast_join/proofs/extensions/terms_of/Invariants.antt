-- The terms of the numbers so far, and each number that is left has one.
use Rattle.std.proofs.Common.{◌<◌, drop, length, take}
use Rattle.std.specs.List.{AllByRecursion}
use Rattle.mast_join.specs.Answers.{AreNumbersOf}
use Rattle.mast_join.proofs.extensions.terms_of.Given as goal

abbrev pub invariant-loop-number : goal.invariant-loop-number
invariant-loop-number l = record {
  terms : AreNumbersOf l.all.terms (take l.number-index l.numbers) l.terms;
  left : AllByRecursion (λ number. number < length l.all.terms) (drop l.number-index l.numbers);
}
