-- The lines so far and those of the rows that are left are the lines of all rows.
use Rattle.std.proofs.Common.{◌≡◌, ◌++◌, [], map, drop}
use Rattle.mast_write.specs.AnswerLines.{tuple_line}
use Rattle.mast_write.proofs.answers.answer_text.Given as goal

abbrev pub invariant-loop-row : goal.invariant-loop-row
invariant-loop-row l = record {
  lines : l.lines.lines ++ map tuple_line (drop l.row-index l.rows) ≡ map tuple_line l.rows;
  begun : l.lines.begun ≡ [];
}
