use Rattle.std.proofs.Common.{arith, sym, ◌∙◌, true≢false}
use Rattle.mast_rewrite.proofs.WalkLemmas.{skip_more, skip_here}
use Rattle.mast_rewrite.proofs.meetings.skip.Goals as goal

pub loop-at-preserved : goal.loop-at-preserved
loop-at-preserved c = record {
  there = omega arith;
  before = skip_more c.args.rights.now c.loop-at.at _ c.args.left (omega arith) c.loop-at.invariant.before (c.is_earlier.ensures.0 c.if-not-is_earlier.false);
}

pub returns-then-not-is_earlier-clause-after : goal.returns-then-not-is_earlier-clause-after
returns-then-not-is_earlier-clause-after c =
    skip_here c.args.rights.now c.loop-at.at _ c.args.left (omega arith) c.requires.order (λ e. true≢false (sym (c.is_earlier.ensures.1 e) ∙ c.if-not-is_earlier.true))
