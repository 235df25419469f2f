-- The steps of the loop.
use Rattle.std.proofs.Common.{length, ap, refl, ◌∙◌, arith, length-append}
use Rattle.mast_tbox.specs.Numbers.{numbers}
use Rattle.mast_tbox.proofs.NumberLemmas.{numbered_none}
use Rattle.mast_rewrite_tests.specs.Lines.{on_one_line}
use Rattle.mast_rewrite_tests.proofs.PushLemmas.{plain_more}
use Rattle.mast_rewrite_tests.proofs.tests.hierarchies.Goals as goal

pub loop-name-preserved : goal.loop-name-preserved
loop-name-preserved c = record {
  plain = ap (λ v. numbers (on_one_line v)) c.in_ok-push.ensures.items ∙ plain_more c.loop-name.below.items _ refl c.loop-name.invariant.plain;
  count = let h = c.loop-name.invariant.count in let e = ap length c.in_ok-push.ensures.items in omega (arith, simp length-append at e);
  few =
      let h = c.loop-name.invariant.count in
      let e = ap length c.in_ok-push.ensures.items in
      let here = c.loop-name-test.true in
      let most = c.requires in
      omega (arith, h, here, most, simp length-append at e);
}

pub returns-clause-numbered : goal.returns-clause-numbered
returns-clause-numbered c = numbered_none (on_one_line c.loop-name.below.items) c.loop-name.invariant.plain
