use Rattle.std.proofs.Common.{◌++◌, map, subst, sym, ap, ◌∙◌}
use Rattle.mast_cq.specs.NormalForms.{Ordered}
use Rattle.mast_rewrite.specs.inside.MeetingLists.{met_value, meetings_with, NoneEarlier}
use Rattle.mast_rewrite.proofs.NameLemmas.{ordered_drop, skip_with}
use Rattle.mast_rewrite.proofs.meetings.add_all.Goals as goal

pub add_meetings-requires-clause-order : goal.add_meetings-requires-clause-order
add_meetings-requires-clause-order c = subst Ordered (sym c.split_at.ensures.back) (ordered_drop c.args.rights.now c.skip-end.result c.requires.order)

pub add_meetings-requires-clause-start : goal.add_meetings-requires-clause-start
add_meetings-requires-clause-start c = subst (λ v. NoneEarlier v c.args.left) (sym c.split_at.ensures.back) c.skip-end.ensures.after

pub returns-clause-added : goal.returns-clause-added
returns-clause-added c = c.in_ok-add_meetings.ensures
    ∙ ap (λ v. map met_value c.args.meetings.now.items ++ v) (ap (meetings_with c.args.answer.now c.args.left) c.split_at.ensures.back ∙ skip_with c.args.answer.now c.args.left c.args.rights.now c.skip-end.result c.skip-end.ensures.before)
