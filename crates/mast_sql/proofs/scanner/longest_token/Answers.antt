use Rattle.std.proofs.Common.{sym, ◌∙◌}
use Rattle.mast_sql.proofs.FrontLemmas.{stopped_within, ended_within}
use Rattle.mast_sql.proofs.scanner.longest_token.Goals as goal

pub returns-in-None-clause-within : goal.returns-in-None-clause-within
returns-in-None-clause-within c =
    let l = c.loop-b in
    stopped_within c.args.bytes.now l.b-index l.state l.size l.best l.invariant.0 c.loop-b-test.true (sym c.step.ensures ∙ c.in-None.is)

pub returns-clause-within : goal.returns-clause-within
returns-clause-within c =
    let l = c.loop-b in
    ended_within c.args.bytes.now l.b-index l.state l.size l.best l.invariant.0 c.loop-b-test.false
