use Rattle.std.proofs.Common.{sym, ◌∙◌, ◌+◌, ap}
use Rattle.mast_sql.specs.declared.query.SqlBreachKind.TheVariants.{Grammar, Aliases}
use Rattle.mast_sql.proofs.ReaderLemmas.{breach_answer, query_answer, token_placed, ninth_told, grammar_told, step_keeps, end_told, whole_told}
use Rattle.mast_sql.proofs.reader.read_source_query.Goals as goal

pub returns-then-is_ninth : goal.returns-then-is_ninth
returns-then-is_ninth c =
    let l = c.loop-token in
    let b = c.as_bytes-bytes in
    let placed = token_placed c.args.text.now b.result.now c.args.tokens.now l.token-index _ c.requires.tokens b.ensures.value c.loop-token-test.true in
    breach_answer c.args.text.now b.result.now c.args.tokens.now l.at l.token-index Aliases c.breach.result c.requires.tokens b.ensures.value c.breach.ensures l.invariant.1
    (ninth_told b.result.now c.args.tokens.now l.state l.query l.token-index _ c.in_ok-symbol.symbol l.invariant.0 c.loop-token-test.true (c.in_ok-symbol.ensures b.ensures.utf8 placed) (sym c.is_ninth.ensures ∙ c.if-is_ninth.true))

pub returns-in-None : goal.returns-in-None
returns-in-None c =
    let l = c.loop-token in
    let b = c.as_bytes-bytes in
    let placed = token_placed c.args.text.now b.result.now c.args.tokens.now l.token-index _ c.requires.tokens b.ensures.value c.loop-token-test.true in
    breach_answer c.args.text.now b.result.now c.args.tokens.now l.at l.token-index Grammar c.breach-in-None.result c.requires.tokens b.ensures.value c.breach-in-None.ensures l.invariant.1
    (grammar_told b.result.now c.args.tokens.now l.state l.query c.read.new.self l.token-index _ c.in_ok-symbol.symbol c.in_ok-read.field-0 l.invariant.0 c.loop-token-test.true (c.in_ok-symbol.ensures b.ensures.utf8 placed) (sym c.is_ninth.ensures ∙ c.if-is_ninth.false) c.in_ok-read.ensures c.in-None.is)

pub loop-token-preserved : goal.loop-token-preserved
loop-token-preserved c =
    let l = c.loop-token in
    let b = c.as_bytes-bytes in
    let placed = token_placed c.args.text.now b.result.now c.args.tokens.now l.token-index _ c.requires.tokens b.ensures.value c.loop-token-test.true in (
      step_keeps b.result.now c.args.tokens.now l.state c.in-Some.next l.query c.read.new.self l.token-index _ c.in_ok-symbol.symbol c.in_ok-read.field-0 l.invariant.0 c.loop-token-test.true (c.in_ok-symbol.ensures b.ensures.utf8 placed) (sym c.is_ninth.ensures ∙ c.if-is_ninth.false) c.in_ok-read.ensures c.in-Some.is,
      ap (λ n. n + 1) l.invariant.1,
    )

pub returns-in-None-2 : goal.returns-in-None-2
returns-in-None-2 c =
    let l = c.loop-token in
    let b = c.as_bytes-bytes in
    breach_answer c.args.text.now b.result.now c.args.tokens.now l.at l.token-index Grammar c.breach-in-None-2.result c.requires.tokens b.ensures.value c.breach-in-None-2.ensures l.invariant.1
    (end_told b.result.now c.args.tokens.now l.state l.query l.token-index c.in_ok-finish.field-0 l.invariant.0 c.loop-token-test.false c.in_ok-finish.ensures c.in-None-2.is)

pub returns-in-Some-2 : goal.returns-in-Some-2
returns-in-Some-2 c =
    let l = c.loop-token in
    let b = c.as_bytes-bytes in
    query_answer c.args.text.now b.result.now c.args.tokens.now c.in-Some-2.whole c.requires.tokens b.ensures.value
    (whole_told b.result.now c.args.tokens.now l.state l.query c.in-Some-2.whole l.token-index c.in_ok-finish.field-0 l.invariant.0 c.loop-token-test.false c.in_ok-finish.ensures c.in-Some-2.is)
