use Rattle.std.proofs.Common.{sym}
use Rattle.mast_numbers.proofs.JoinLemmas.{each_once, joins, found}
use Rattle.mast_numbers.proofs.terms.join.Goals as goal
use Rattle.mast_numbers.proofs.terms.join.Goals.{in-Some, in-None}

pub returns-then-len-ge-MOST-clause-place : goal.returns-then-len-ge-MOST-clause-place
returns-then-len-ge-MOST-clause-place g c = elim c.match-get_index_of.branch [
  | in-Some w ↦ rw w.result-is (found g.T.PartialEq.eq c.requires.tests c.args.set.now.keys w.in-Some.place c.args.item (sym w.in-Some.ensures.index))
  | in-None w ↦ rw w.result-is tt
]

pub returns-then-len-ge-MOST-clause-once : goal.returns-then-len-ge-MOST-clause-once
returns-then-len-ge-MOST-clause-once g c = each_once g.T.PartialEq.eq c.requires.tests c.args.set.now.keys c.len.ensures.unique

pub returns-in_err-place-clause-once : goal.returns-in_err-place-clause-once
returns-in_err-place-clause-once g c = each_once g.T.PartialEq.eq c.requires.tests c.insert_full.new.self.keys c.in_err-place.ensures.unique

pub returns-clause-once : goal.returns-clause-once
returns-clause-once g c = each_once g.T.PartialEq.eq c.requires.tests c.insert_full.new.self.keys c.in_ok-place.ensures.unique

pub returns-clause-joined : goal.returns-clause-joined
returns-clause-joined g c = joins g.T.PartialEq.eq c.requires.tests c.args.set.now.keys c.insert_full.new.self.keys c.args.item c.in_ok-place.ensures.keys
