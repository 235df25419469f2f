use Rattle.std.proofs.Common.{sym, ◌∙◌, arith, length}
use Rattle.mast_tree.proofs.TokenListLemmas.{started, all_read, breach_read, token_read, turns_over}
use Rattle.mast_tree.proofs.token_list.lex.Goals as goal

pub turns-init : goal.turns-init
turns-init c =
    let s = c.behind_bom-rest.ensures in
    (started c.args.source.now c.new-tokens.result c.bom_length-start.result c.behind_bom-rest.result.now c.new-tokens.ensures c.bom_length-start.ensures.value s.value, omega (arith, s.size, c.bom_length-start.ensures.value), omega arith)

pub returns-then-is_empty : goal.returns-then-is_empty
returns-then-is_empty c =
    let l = c.turns in
    let s = c.split_at.ensures in
    all_read c.args.source.now l.tokens (length c.args.source.now) l.counter l.at l.line l.rest.now c.split_at.result.0.now c.split_at.result.1.now
    (record { told = l.invariant.0; within = c.turns-test.true; ends = c.scan_blank.result; found = c.scan_blank.ensures.value; gap_is = s.front; after_is = s.back })
    (sym c.is_empty.ensures ∙ c.if-is_empty.true)

pub returns-in-Wrong : goal.returns-in-Wrong
returns-in-Wrong c =
    let l = c.turns in
    let s = c.split_at.ensures in
    breach_read c.args.source.now l.tokens (length c.args.source.now) l.counter l.at l.line l.rest.now c.split_at.result.0.now c.split_at.result.1.now c.longest_token.result c.in-Wrong.kind c.in-Wrong.n
    (record { told = l.invariant.0; within = c.turns-test.true; ends = c.scan_blank.result; found = c.scan_blank.ensures.value; gap_is = s.front; after_is = s.back })
    (sym c.is_empty.ensures ∙ c.if-is_empty.false) c.longest_token.ensures.value c.in-Wrong.is

pub turns-preserved : goal.turns-preserved
turns-preserved c =
    let l = c.turns in
    let s = c.split_at.ensures in
    let t = c.split_at-in-Token.ensures in
    let size = l.invariant.1 in
    let lines = l.invariant.2 in
    let here = c.line_after-here.ensures.within in
    let next = c.line_after-line.ensures.within in
    let a = s.front_len in
    let b = s.back_len in
    let d = t.front_len in
    let e = t.back_len in (
      token_read c.args.source.now l.tokens c.push.new.self (length c.args.source.now) l.counter l.at l.line l.rest.now c.split_at.result.0.now c.split_at.result.1.now c.split_at-in-Token.result.0.now c.split_at-in-Token.result.1.now c.longest_token.result c.in-Token.kind c.in-Token.n c.line_after-here.result c.line_after-line.result
          (record { told = l.invariant.0; within = c.turns-test.true; ends = c.scan_blank.result; found = c.scan_blank.ensures.value; gap_is = s.front; after_is = s.back })
          (sym c.is_empty.ensures ∙ c.if-is_empty.false) c.longest_token.ensures.value c.in-Token.is c.line_after-here.ensures.value t.front t.back c.line_after-line.ensures.value c.in_ok-push-in-Token.ensures.ok,
      omega arith,
      omega arith,
    )

pub returns : goal.returns
returns c =
    let l = c.turns in
    turns_over c.args.source.now l.tokens (length c.args.source.now) l.counter l.at l.line l.rest.now l.invariant.0 c.turns-test.false
