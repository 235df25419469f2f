-- What is written and the terms that are left make the whole.
use Rattle.std.proofs.Common.{◌≡◌, ◌++◌, drop, map}
use Rattle.mast_terms.specs.Printed.{term_text}
use Rattle.mast_write.specs.AnswerLines.{after_tabs}
use Rattle.mast_write.proofs.answers.push_later.Given as goal

abbrev pub invariant-loop-term : goal.invariant-loop-term
invariant-loop-term l = record {
  lines : l.lines.lines ≡ l.fn.lines.lines;
  begun : l.lines.begun ++ after_tabs (map term_text (drop l.term-index l.terms)) ≡ l.fn.lines.begun ++ after_tabs (map term_text l.terms);
}
