use Rattle.std.proofs.Common.{◌≡◌, length}
use Rattle.mast_join.specs.inside.Filling.{AreColumns}
use Rattle.mast_join.proofs.fill.make_columns.Given as goal

-- the columns so far
abbrev pub invariant-loop-column : goal.invariant-loop-column
invariant-loop-column l = record {
  long : length l.row.items ≡ l.column;
  are : AreColumns l.asked l.first l.second l.row.items;
}
