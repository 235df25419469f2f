use Rattle.mast_cq.proofs.HashLemmas.{atom_tells}
use Rattle.mast_cq.proofs.TotalOrderLemmas.{atom_orders}
use Rattle.mast_cq.proofs.atom.atom_laws.Goals as goal

pub returns-clause-total : goal.returns-clause-total
returns-clause-total c = atom_orders

pub returns-clause-hash : goal.returns-clause-hash
returns-clause-hash c = atom_tells
