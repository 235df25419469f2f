use Rattle.std.proofs.Common.{◌≡◌, ◌++◌, drop}
use Rattle.mast_tables.proofs.cells.copied_values.Given as goal

-- what is copied and what is left make the whole
abbrev pub invariant-loop-value : goal.invariant-loop-value
invariant-loop-value l = l.copy.keys ++ drop l.value-index l.values.keys ≡ l.values.keys
