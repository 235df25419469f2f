use Rattle.mast_tbox.proofs.HashLemmas.{prop_tells}
use Rattle.mast_tbox.proofs.expression.prop_laws.Goals as goal

pub returns-clause-hash : goal.returns-clause-hash
returns-clause-hash c = prop_tells
