use Rattle.std.proofs.Common.{◌≡◌, ◌≤◌, ◌++◌, length, map, take, drop, Contains}
use Rattle.mast_cq.specs.declared.atom.Atom.{Atom}
use Rattle.mast_rewrite.specs.inside.MeetingLists.{met_value, all_meetings, AllEarlier}
use Rattle.mast_rewrite.proofs.meetings.meetings.Given as goal

abbrev pub invariant-loop-left : goal.invariant-loop-left
invariant-loop-left l = record {
  there : l.start ≤ length l.rights;
  before : (m : Atom) → Contains (drop l.left-index l.lefts) m → AllEarlier (take l.start l.rights) m;
  all : map met_value l.meetings.items ++ all_meetings l.answer (drop l.left-index l.lefts) l.rights ≡ all_meetings l.answer l.lefts l.rights;
}
