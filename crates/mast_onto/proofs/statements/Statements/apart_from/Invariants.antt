use Rattle.std.proofs.Common.{◌≡◌, ◌++◌, drop}
use Rattle.mast_onto.specs.Stated.{apart_from}
use Rattle.mast_onto.proofs.statements.Statements.apart_from.Given as goal

-- what is added and the pairs with the others that are left make the whole
abbrev pub invariant-loop-other : goal.invariant-loop-other
invariant-loop-other l = l.self.list ++ apart_from l.line l.first (drop l.other-index l.others) ≡ l.fn.self.list ++ apart_from l.line l.first l.others
