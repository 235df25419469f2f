use Rattle.std.proofs.Common.{◌≤◌, ◌-◌, length, take}
use Rattle.mast_rewrite.specs.inside.MeetingLists.{AllEarlier}
use Rattle.mast_rewrite.proofs.meetings.skip.Given as goal

abbrev pub invariant-loop-at : goal.invariant-loop-at
invariant-loop-at l = record {
  there : l.at ≤ length l.rights;
  before : AllEarlier (take l.at l.rights) l.left;
}

abbrev pub decreases-loop-at : goal.decreases-loop-at
decreases-loop-at l = length l.rights - l.at
