-- The lines are those of all facts.
use Rattle.std.proofs.Common.{List, ℕ, subst}
use Rattle.std.proofs.lemmas.Result.{IfOk-weaker}
use Rattle.mast_write.specs.FactLines.{IsFactLine, fact_line}
use Rattle.mast_write.specs.LineText.{IsTextOf, StandsIn}
use Rattle.mast_write.proofs.WrittenLemmas.{lines_whole}
use Rattle.mast_write.proofs.fact_lines.facts_text.Goals as goal

pub returns : goal.returns
returns c =
    let vocab = c.args.vocab.now in
    let facts = c.args.facts.now in
    let whole = lines_whole (fact_line vocab) facts c.loop-fact.lines.lines c.loop-fact.fact-index c.loop-fact-test.false c.loop-fact.invariant.lines in
    IfOk-weaker c.into_text.result _ (λ text. IsTextOf (IsFactLine c.args.vocab.now c.args.facts.now) text.items)
    (λ text h. subst (λ (ls : List (List ℕ)). IsTextOf (StandsIn ls) text.items) whole h)
    c.into_text.ensures
