use Rattle.mast_relations.specs.inside.Planning.{AreNumbersTo}
use Rattle.mast_relations.proofs.planning.numbers_to.Given as goal

-- the numbers so far
abbrev pub invariant-loop-number : goal.invariant-loop-number
invariant-loop-number l = AreNumbersTo l.number l.numbers.items
