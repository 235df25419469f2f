use Rattle.std.proofs.Common.{◌≡◌, ◌++◌, drop}
use Rattle.mast_mapping.proofs.copies.copy_entries.Given as goal

-- what is copied and what is left make the whole
abbrev pub invariant-loop-entry : goal.invariant-loop-entry
invariant-loop-entry l = l.copy ++ drop l.entry-index l.entries ≡ l.entries
