use Rattle.mast_cq.proofs.ContentLemmas.{both_law}
use Rattle.mast_cq.proofs.HashLemmas.{query_tells}
use Rattle.mast_cq.proofs.TotalOrderLemmas.{query_orders}
use Rattle.mast_cq.proofs.query.query_laws.Goals as goal

pub returns-clause-equal : goal.returns-clause-equal
returns-clause-equal c = λ q r. both_law _ _ c.arg_laws.ensures.equal c.atom_laws.ensures.equal _ _ _ _

pub returns-clause-total : goal.returns-clause-total
returns-clause-total c = query_orders

pub returns-clause-hash : goal.returns-clause-hash
returns-clause-hash c = query_tells
