use Rattle.mast_cq.specs.UnifierMeanings.{IsBelow}
use Rattle.mast_cq.proofs.UnifiedLemmas.{none_unifiable, unifiable_none}
use Rattle.mast_cq.proofs.laws.unify_none_law.Goals as goal

pub returns : goal.returns
returns g c = λ constant bound answer left right apart kl kr. (none_unifiable constant (IsBelow bound) apart answer left right kl kr, unifiable_none constant (IsBelow bound) apart answer left right)
