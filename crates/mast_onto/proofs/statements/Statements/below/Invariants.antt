use Rattle.std.proofs.Common.{◌≡◌, ◌++◌, drop}
use Rattle.mast_onto.specs.Stated.{below_parts}
use Rattle.mast_onto.proofs.statements.Statements.below.Given as goal

-- what is added and what the parts that are left state make the whole
abbrev pub invariant-loop-part : goal.invariant-loop-part
invariant-loop-part l = l.self.list ++ below_parts l.line l.sub (drop l.part-index l.parts) ≡ l.fn.self.list ++ below_parts l.line l.sub l.parts
