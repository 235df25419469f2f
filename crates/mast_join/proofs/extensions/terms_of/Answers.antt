use Rattle.std.proofs.Common.{ℕ, ◌+◌, ◌<◌, List, length, take, arith, subst, sym}
use Rattle.mast_terms.specs.declared.term.Term.{Term}
use Rattle.mast_join.specs.Answers.{AreNumbersOf}
use Rattle.mast_join.proofs.NumberedLemmas.{left_more, numbers_more}
use Rattle.mast_join.proofs.extensions.terms_of.Goals as goal

pub loop-number-preserved : goal.loop-number-preserved
loop-number-preserved c =
    let all = c.args.all.now.terms in
    let i = c.loop-number.number-index in
    record {
      terms = subst (λ (ts : List Term). AreNumbersOf all (take (i + 1) c.args.numbers.now) ts) (sym c.in_ok-push.ensures.ok)
          (numbers_more all c.args.numbers.now i 0 c.loop-number.terms c.in_ok-term.field-0 (omega (arith, c.loop-number-test.true)) c.loop-number.invariant.terms c.in_ok-term.ensures);
      left = left_more (λ (number : ℕ). number < length all) c.args.numbers.now i c.loop-number.invariant.left;
    }
