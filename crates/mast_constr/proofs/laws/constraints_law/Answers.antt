-- The law is a lemma.
use Rattle.mast_constr.proofs.LawLemmas.{has_one}
use Rattle.mast_constr.proofs.laws.constraints_law.Goals as goal

pub returns : goal.returns
returns c = has_one
