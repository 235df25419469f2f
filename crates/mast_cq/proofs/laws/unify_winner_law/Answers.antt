use Rattle.mast_cq.proofs.WinnerLemmas.{best}
use Rattle.mast_cq.proofs.laws.unify_winner_law.Goals as goal

pub returns : goal.returns
returns c = λ answer left right m n e. best answer left right m e n
