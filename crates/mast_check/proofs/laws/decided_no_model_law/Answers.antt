use Rattle.mast_check.proofs.ModelLemmas.{is_decided}
use Rattle.mast_check.proofs.laws.decided_no_model_law.Goals as goal

pub returns : goal.returns
returns g c = λ facts. is_decided (g.S.Truth.holds facts)
