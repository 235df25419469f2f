use Rattle.std.proofs.Common.{◌≡◌, ◌++◌, drop}
use Rattle.mast_mapping.proofs.copies.copy_conditions.Given as goal

-- what is copied and what is left make the whole
abbrev pub invariant-loop-condition : goal.invariant-loop-condition
invariant-loop-condition l = l.copy ++ drop l.condition-index l.conditions ≡ l.conditions
