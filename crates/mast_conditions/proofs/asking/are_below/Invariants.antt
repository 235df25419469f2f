use Rattle.std.proofs.Common.{drop}
use Rattle.mast_relations.specs.Plans.{AreBelow}
use Rattle.mast_conditions.proofs.asking.are_below.Given as goal

-- those that were passed are below the bound
abbrev pub invariant-loop-number : goal.invariant-loop-number
invariant-loop-number l = AreBelow l.bound (drop l.number-index l.numbers) → AreBelow l.bound l.numbers
