use Rattle.std.proofs.Common.{sym, ◌∙◌}
use Rattle.mast_sql.proofs.GapLemmas.{stopped_within, ended_within}
use Rattle.mast_sql.proofs.scanner.gap_of.Goals as goal

pub returns-in-None-clause-within : goal.returns-in-None-clause-within
returns-in-None-clause-within c =
    let l = c.loop-b in
    stopped_within c.args.bytes.now l.b-index l.gap l.size l.invariant.0 c.loop-b-test.true (sym c.between.ensures.value ∙ c.in-None.is)

pub returns-clause-within : goal.returns-clause-within
returns-clause-within c =
    let l = c.loop-b in
    ended_within c.args.bytes.now l.b-index l.gap l.size l.invariant.0 c.loop-b-test.false
