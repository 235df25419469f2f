-- What is written and the terms that are left make the whole.
use Rattle.std.proofs.Common.{◌≡◌, ◌++◌, drop}
use Rattle.mast_write.specs.FactLines.{later_terms}
use Rattle.mast_write.proofs.fact_lines.push_later.Given as goal

abbrev pub invariant-loop-term : goal.invariant-loop-term
invariant-loop-term l = record {
  lines : l.lines.lines ≡ l.fn.lines.lines;
  begun : l.lines.begun ++ later_terms (drop l.term-index l.terms) ≡ l.fn.lines.begun ++ later_terms l.terms;
}
