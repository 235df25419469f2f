-- What is written and the rows that are left make the whole.
use Rattle.std.proofs.Common.{◌≡◌, ◌++◌, drop, map}
use Rattle.std.specs.List.{AllByRecursion}
use Rattle.mast_write.specs.ConflictLines.{IsOfTables, row_line}
use Rattle.mast_write.specs.LineText.{lines_text}
use Rattle.mast_write.proofs.conflicts.push_rows.Given as goal

abbrev pub invariant-loop-row : goal.invariant-loop-row
invariant-loop-row l = record {
  text : l.text.items ++ lines_text (map (row_line l.tables) (drop l.row-index l.rows)) ≡ l.fn.text.items ++ lines_text (map (row_line l.tables) l.rows);
  left : AllByRecursion (IsOfTables l.tables) (drop l.row-index l.rows);
}
