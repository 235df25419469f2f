use Rattle.std.proofs.Common.{◌≡◌, ◌++◌, drop}
use Rattle.mast_terms.proofs.constants.copy_of.Given as goal

-- what is copied and what is left make the whole
abbrev pub invariant-loop-value : goal.invariant-loop-value
invariant-loop-value l = l.copy.keys ++ drop l.value-index l.set.keys ≡ l.set.keys
