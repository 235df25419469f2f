use Rattle.mast_sparsql.proofs.TerminalLemmas.{last_colon}
use Rattle.mast_sparsql.proofs.terminals.ends_with_colon.Goals as goal

pub returns-in-Some : goal.returns-in-Some
returns-in-Some c = last_colon c.args.bytes.now c.in-Some.b.now c.in-Some.ensures.value
