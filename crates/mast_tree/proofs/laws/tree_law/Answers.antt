use Rattle.mast_tree.proofs.LawLemmas.{has_one_tree}
use Rattle.mast_tree.proofs.laws.tree_law.Goals as goal

pub returns : goal.returns
returns c = λ tokens. has_one_tree tokens
