use Rattle.mast_canon.specs.Interpretations.{decided}
use Rattle.mast_canon.proofs.WorldLemmas.{world_law}
use Rattle.mast_canon.proofs.laws.decided_world_law.Goals as goal

pub returns : goal.returns
returns g c = λ w theory facts world. world_law (decided w) theory (g.S.Truth.holds facts) world
