use Rattle.std.proofs.Common.{drop}
use Rattle.mast_expressions.specs.Reads.{page}
use Rattle.mast_onto.specs.Axioms.{member_judged, IsMember}
use Rattle.mast_onto.specs.inside.Reads.{Leads}
use Rattle.mast_onto.proofs.reader.Reader.members.Given as goal

-- what is read of the items that are left leads to the whole
abbrev pub invariant-loop-item : goal.invariant-loop-item
invariant-loop-item l =
    Leads (member_judged (page l.self.places) l.place) (IsMember (page l.self.places) l.place) l.fn.vocab l.items l.vocab (drop l.item-index l.items) l.members
