use Rattle.mast_sparsql.specs.Terminals.{terminals}
use Rattle.mast_sparsql.proofs.TerminalLemmas.{more_seen, all_seen}
use Rattle.mast_sparsql.proofs.terminals.terminals_of.Goals as goal

pub loop-token-preserved : goal.loop-token-preserved
loop-token-preserved c =
    let l = c.loop-token in
    let text = c.args.text.now in
    let tokens = c.args.tokens.now in
    more_seen text tokens l.token-index _ l.behind l.lines c.see.new.lines l.terminals c.push.new.self (terminals text tokens) c.between-bytes.result.now c.plain-terminal.result c.in_ok-see.field-0 c.eq-behind.result c.loop-token-test.true c.between-bytes.ensures c.plain-terminal.ensures c.in_ok-see.ensures c.in_ok-push.ensures.ok c.eq-behind.ensures l.invariant

pub returns : goal.returns
returns c =
    let l = c.loop-token in
    all_seen c.args.text.now c.args.tokens.now l.token-index l.behind l.lines l.terminals (terminals c.args.text.now c.args.tokens.now) c.loop-token-test.false l.invariant
