use Rattle.std.proofs.Common.{◌≡◌}
use Rattle.mast_join.specs.inside.RowLists.{numbers_to}
use Rattle.mast_join.proofs.rows.all_rows.Given as goal

-- the numbers so far
abbrev pub invariant-loop-row : goal.invariant-loop-row
invariant-loop-row l = l.rows.items ≡ numbers_to l.row
