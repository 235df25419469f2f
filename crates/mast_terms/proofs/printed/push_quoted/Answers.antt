use Rattle.mast_terms.proofs.GrowthLemmas.{grows_then, on_err}
use Rattle.mast_terms.proofs.printed.push_quoted.Goals as goal

pub returns-in_err-push_escaped-clause-err : goal.returns-in_err-push_escaped-clause-err
returns-in_err-push_escaped-clause-err c = on_err _ _ (grows_then c.args.out.now.items c.loop-byte.out.items c.push_escaped.new.out.items c.loop-byte.invariant.grows c.in_err-push_escaped.ensures.err)

pub returns-in_err-push_bytes-2-clause-err : goal.returns-in_err-push_bytes-2-clause-err
returns-in_err-push_bytes-2-clause-err c = on_err _ _ (grows_then c.args.out.now.items c.loop-byte.out.items c.push_bytes-2.new.out.items c.loop-byte.invariant.grows c.in_err-push_bytes-2.ensures.err)
