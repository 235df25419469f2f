use Rattle.mast_tree.proofs.PrologueLemmas.{has_one_prologue}
use Rattle.mast_tree.proofs.laws.prologue_law.Goals as goal

pub returns : goal.returns
returns c = λ source tokens word items. has_one_prologue source tokens word items
