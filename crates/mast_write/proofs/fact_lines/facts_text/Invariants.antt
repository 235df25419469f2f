-- The lines so far and those of the facts that are left are the lines of all facts.
use Rattle.std.proofs.Common.{◌≡◌, ◌++◌, [], map, drop}
use Rattle.std.specs.List.{AllByRecursion}
use Rattle.mast_write.specs.FactLines.{IsFactOf, fact_line}
use Rattle.mast_write.proofs.fact_lines.facts_text.Given as goal

abbrev pub invariant-loop-fact : goal.invariant-loop-fact
invariant-loop-fact l = record {
  lines : l.lines.lines ++ map (fact_line l.vocab) (drop l.fact-index l.facts) ≡ map (fact_line l.vocab) l.facts;
  begun : l.lines.begun ≡ [];
  left : AllByRecursion (IsFactOf l.vocab) (drop l.fact-index l.facts);
}
