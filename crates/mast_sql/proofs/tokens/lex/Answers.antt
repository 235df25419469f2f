use Rattle.std.proofs.Common.{sym, ◌∙◌, arith, length}
use Rattle.mast_sql.proofs.LexedLemmas.{all_read, breach_read, pushed, token_read, turns_over}
use Rattle.mast_sql.proofs.tokens.lex.Goals as goal

pub returns-then-is_empty : goal.returns-then-is_empty
returns-then-is_empty c =
    let l = c.turns in
    let s = c.split_at.ensures in
    all_read c.args.text.now l.tokens (length c.args.text.now) l.count l.at l.rest.now c.split_at.result.0.now c.split_at.result.1.now
    (record { told = l.invariant.0; within = c.turns-test.true; ends = c.gap_of.result; found = c.gap_of.ensures.value; size = s.front_len; after_is = s.back })
    (sym c.is_empty.ensures ∙ c.if-is_empty.true)

pub returns-in-None : goal.returns-in-None
returns-in-None c =
    let l = c.turns in
    let s = c.split_at.ensures in
    breach_read c.args.text.now l.tokens (length c.args.text.now) l.count l.at l.rest.now c.split_at.result.0.now c.split_at.result.1.now c.longest_token.result
    (record { told = l.invariant.0; within = c.turns-test.true; ends = c.gap_of.result; found = c.gap_of.ensures.value; size = s.front_len; after_is = s.back })
    l.invariant.2 (sym c.is_empty.ensures ∙ c.if-is_empty.false) c.longest_token.ensures.value c.in-None.is

pub turns-preserved : goal.turns-preserved
turns-preserved c =
    let l = c.turns in
    let s = c.split_at.ensures in
    let t = c.split_at-in-Some.ensures in
    let size = l.invariant.1 in
    let count = l.invariant.2 in
    let a = s.front_len in
    let b = s.back_len in
    let d = t.front_len in
    let e = t.back_len in (
      token_read c.args.text.now l.tokens c.push.new.self (length c.args.text.now) l.count l.at l.rest.now c.split_at.result.0.now c.split_at.result.1.now c.split_at-in-Some.result.1.now c.longest_token.result c.in-Some.found
          (record { told = l.invariant.0; within = c.turns-test.true; ends = c.gap_of.result; found = c.gap_of.ensures.value; size = s.front_len; after_is = s.back })
          (sym c.is_empty.ensures ∙ c.if-is_empty.false) c.longest_token.ensures.value c.in-Some.is t.back c.in_ok-push-in-Some.ensures.ok,
      omega arith,
      pushed c.push.new.self l.tokens _ l.count c.in_ok-push-in-Some.ensures.ok count,
    )

pub returns : goal.returns
returns c =
    let l = c.turns in
    turns_over c.args.text.now l.tokens (length c.args.text.now) l.count l.at l.rest.now l.invariant.0 c.turns-test.false
