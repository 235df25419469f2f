use Rattle.mast_violate.proofs.BreachLemmas.{are_breaches}
use Rattle.mast_violate.proofs.laws.violation_law.Goals as goal

pub returns : goal.returns
returns g c = λ facts theory formed. are_breaches theory (g.S.Truth.holds facts) formed
