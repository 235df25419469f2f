use Rattle.mast_cq.specs.UnifierMeanings.{IsBelow}
use Rattle.mast_cq.proofs.JoinLemmas.{join}
use Rattle.mast_cq.proofs.UnifiedLemmas.{unified_into}
use Rattle.mast_cq.proofs.laws.unify_complete_law.Goals as goal

pub returns-clause-meeting : goal.returns-clause-meeting
returns-clause-meeting g c = λ constant bound answer s left right f apart kl kr both. join constant (IsBelow bound) apart answer s left right f kl kr both.first both.second

pub returns-clause-query : goal.returns-clause-query
returns-clause-query g c = λ constant w bound q i j tuple left right f s apart ea eb kl kr both.
    unified_into constant (IsBelow bound) apart (g.W.Truth.holds w) q i j tuple left right f s ea eb kl kr both.first both.second
