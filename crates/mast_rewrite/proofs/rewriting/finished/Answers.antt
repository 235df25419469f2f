use Rattle.mast_cq.specs.contracts.query.CqRefPartialEq.TheImpl as view
use Rattle.mast_cq.specs.Queries.{viewed}
use Rattle.mast_rewrite.proofs.DistinctLemmas.{each_once}
use Rattle.mast_rewrite.proofs.rewriting.finished.Goals as goal

pub returns-clause-once : goal.returns-clause-once
returns-clause-once c = each_once viewed view.eq-value.it c.view_laws.ensures.equal c.args.set.keys c.len-count.ensures.unique
