use Rattle.mast_relations.proofs.SliceLemmas.{slices_law}
use Rattle.mast_relations.proofs.laws.slices_give_answers.Goals as goal

pub returns : goal.returns
returns c = slices_law
