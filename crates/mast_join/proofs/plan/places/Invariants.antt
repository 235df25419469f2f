use Rattle.std.proofs.Common.{◌≡◌, ◌++◌, drop, map}
use Rattle.mast_canon.specs.Choices.{table_number}
use Rattle.mast_join.proofs.plan.places.Given as goal

-- what is there and what is left make the whole
abbrev pub invariant-loop-entry : goal.invariant-loop-entry
invariant-loop-entry l = l.places.items ++ map (λ entry. table_number entry.table l.decls) (drop l.entry-index l.entries) ≡ map (λ entry. table_number entry.table l.decls) l.entries
