-- The steps of the loop.
use Rattle.std.proofs.Common.{length, ap, refl, ◌∙◌, arith, length-append}
use Rattle.mast_tbox.specs.Numbers.{numbers}
use Rattle.mast_tbox.proofs.NumberLemmas.{numbered_plain}
use Rattle.mast_tbox_tests.proofs.tests.roles.Goals as goal

pub loop-line-preserved : goal.loop-line-preserved
loop-line-preserved c = record {
  plain = ap numbers c.in_ok-push.ensures.items ∙ (numbered_plain c.loop-line.inclusions.items _ refl ∙ c.loop-line.invariant.plain);
  count = ap length c.in_ok-push.ensures.items ∙ (let h = c.loop-line.invariant.count in simp length-append (omega arith));
}
