use Rattle.mast_cq.proofs.HashLemmas.{arg_tells}
use Rattle.mast_cq.proofs.TotalOrderLemmas.{arg_orders}
use Rattle.mast_cq.proofs.atom.arg_laws.Goals as goal

pub returns-clause-total : goal.returns-clause-total
returns-clause-total c = arg_orders

pub returns-clause-hash : goal.returns-clause-hash
returns-clause-hash c = arg_tells
