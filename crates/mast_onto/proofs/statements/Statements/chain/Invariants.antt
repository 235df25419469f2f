use Rattle.std.proofs.Common.{◌≡◌, ◌++◌, ◌∷◌, [], drop}
use Rattle.mast_onto.specs.Stated.{chain}
use Rattle.mast_onto.proofs.statements.Statements.chain.Given as goal

-- what is added and what is left of the chain make the whole
abbrev pub invariant-loop-member : goal.invariant-loop-member
invariant-loop-member l = l.self.list ++ chain l.line l.previous (drop l.member-index l.members ++ l.end ∷ []) ≡ l.fn.self.list ++ chain l.line l.fn.first (l.members ++ l.end ∷ [])
