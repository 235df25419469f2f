-- The steps of the loop.
use Rattle.std.proofs.Common.{length, ap, refl, sym, subst, ◌∙◌, arith, length-append}
use Rattle.mast_tbox.specs.Numbers.{numbers, IsNumbered}
use Rattle.mast_rewrite_tests.specs.Lines.{on_one_line}
use Rattle.mast_rewrite_tests.proofs.PushLemmas.{next_more, count_more}
use Rattle.mast_rewrite_tests.proofs.tests.fillers.Goals as goal

pub loop-k-preserved : goal.loop-k-preserved
loop-k-preserved c = record {
  numbered = subst (λ v. IsNumbered (on_one_line v)) (sym c.in_ok-push.ensures.items) (next_more c.loop-k.fillers.items _ c.loop-k.k refl c.loop-k.invariant.many c.loop-k.invariant.numbered);
  many = ap (λ v. length (numbers (on_one_line v))) c.in_ok-push.ensures.items ∙ count_more c.loop-k.fillers.items _ c.loop-k.k refl c.loop-k.invariant.many;
  count = let h = c.loop-k.invariant.count in let e = ap length c.in_ok-push.ensures.items in omega (arith, simp length-append at e);
}
