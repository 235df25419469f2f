use Rattle.std.proofs.Common.{◌≡◌, ◌++◌, drop}
use Rattle.mast_onto.specs.Stated.{pairs}
use Rattle.mast_onto.proofs.statements.Statements.pairs.Given as goal

-- what is added and the pairs of those that are left make the whole
abbrev pub invariant-loop-at : goal.invariant-loop-at
invariant-loop-at l = l.self.list ++ pairs l.line (drop l.at l.members) ≡ l.fn.self.list ++ pairs l.line l.members
