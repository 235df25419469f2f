use Rattle.std.proofs.Common.{◌≡◌, ◌++◌, map, drop}
use Rattle.mast_rewrite.specs.inside.MeetingLists.{met_value, meetings_with}
use Rattle.mast_rewrite.proofs.meetings.add_meetings.Given as goal

abbrev pub invariant-loop-right : goal.invariant-loop-right
invariant-loop-right l = map met_value l.meetings.items ++ meetings_with l.answer l.left (drop l.right-index l.rights) ≡ map met_value l.fn.meetings.items ++ meetings_with l.answer l.left l.rights
