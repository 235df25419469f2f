use Rattle.mast_cq.proofs.PropertyLemmas.{pair_in, pair_out}
use Rattle.mast_cq.proofs.laws.property_law.Goals as goal

pub returns-clause-inward : goal.returns-clause-inward
returns-clause-inward g c = pair_in

pub returns-clause-outward : goal.returns-clause-outward
returns-clause-outward g c = pair_out
