use Rattle.std.proofs.Common.{◌≡◌, take}
use Rattle.mast_canon.specs.Facts.{chosen_rows}
use Rattle.mast_join.proofs.facts.rows_of.Given as goal

-- the rows so far
abbrev pub invariant-loop-place : goal.invariant-loop-place
invariant-loop-place l = l.rows ≡ chosen_rows l.decls (take l.place l.entries) (take l.place l.choice)
