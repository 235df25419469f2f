-- The constraints so far, and those of the items to come.
use Rattle.std.proofs.Common.{drop}
use Rattle.mast_constr.specs.inside.Rules.{page_in, SoFar}
use Rattle.mast_constr.proofs.reader.Reader.constraints.Given as goal

abbrev pub invariant-loop-item : goal.invariant-loop-item
invariant-loop-item l = SoFar (page_in l.self) l.items (drop l.item-index l.items) l.fn.vocab l.vocab l.list
