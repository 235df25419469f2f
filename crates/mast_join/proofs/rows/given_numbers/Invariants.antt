use Rattle.std.proofs.Common.{◌≡◌, ◌++◌, drop}
use Rattle.mast_join.specs.inside.RowLists.{given}
use Rattle.mast_join.proofs.rows.given_numbers.Given as goal

-- what is there and what is left make the whole
abbrev pub invariant-loop-row : goal.invariant-loop-row
invariant-loop-row l = l.numbers.items ++ given l.place l.count (drop l.row-index l.rows) ≡ given l.place l.count l.rows
