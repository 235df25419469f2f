use Rattle.std.proofs.Common.{drop}
use Rattle.mast_expressions.specs.Reads.{page}
use Rattle.mast_onto.specs.inside.Stating.{LeadsOn}
use Rattle.mast_onto.proofs.reader.Reader.axioms.Given as goal

-- what is read of the axioms that are left leads to the whole
abbrev pub invariant-loop-item : goal.invariant-loop-item
invariant-loop-item l = LeadsOn (page l.self.places) l.fn.vocab l.items l.vocab l.statements.list (drop l.item-index l.items)
