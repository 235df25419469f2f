use Rattle.std.proofs.Common.{length}
use Rattle.mast_conditions.specs.Choices.{AsksAs}
use Rattle.mast_conditions.proofs.condition.Select.has_row.Given as goal

-- what is left to choose leads to the condition so far as the select does to its own
abbrev pub invariant-loop-entry : goal.invariant-loop-entry
invariant-loop-entry l = AsksAs l.fn.self.entries l.fn.self.condition l.entries l.condition

abbrev pub decreases-loop-entry : goal.decreases-loop-entry
decreases-loop-entry l = length l.entries
