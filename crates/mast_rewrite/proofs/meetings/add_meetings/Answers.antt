use Rattle.std.proofs.Common.{arith, sym, ◌∙◌, true≢false}
use Rattle.mast_rewrite.proofs.WalkLemmas.{add_stop}
use Rattle.mast_rewrite.proofs.meetings.add_meetings.Goals as goal

pub returns-then-not-has_one_name : goal.returns-then-not-has_one_name
returns-then-not-has_one_name c =
    add_stop c.args.answer.now c.args.left c.args.rights.now c.loop-right.right-index _ _ c.loop-right.meetings.items (omega arith) c.requires.order c.requires.start
    (λ h. true≢false (sym (c.has_one_name.ensures.1 h) ∙ c.if-not-has_one_name.true)) c.loop-right.invariant
