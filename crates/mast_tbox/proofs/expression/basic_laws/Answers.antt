use Rattle.mast_tbox.proofs.HashLemmas.{basic_tells}
use Rattle.mast_tbox.proofs.expression.basic_laws.Goals as goal

pub returns-clause-hash : goal.returns-clause-hash
returns-clause-hash c = basic_tells
