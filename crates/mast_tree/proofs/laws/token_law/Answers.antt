use Rattle.mast_tree.proofs.TokenLawLemmas.{has_one_reading}
use Rattle.mast_tree.proofs.laws.token_law.Goals as goal

pub returns : goal.returns
returns c = λ source. has_one_reading source
