use Rattle.mast_canon.proofs.ModelsLemmas.{models_law}
use Rattle.mast_canon.proofs.laws.decided_models_law.Goals as goal

pub returns : goal.returns
returns g c = λ theory facts formed. models_law theory (g.S.Truth.holds facts) formed.listed formed.restricted formed.sorted
