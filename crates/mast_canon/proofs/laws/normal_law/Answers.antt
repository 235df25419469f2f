use Rattle.mast_canon.proofs.NormalFactLemmas.{normal_same}
use Rattle.mast_canon.proofs.laws.normal_law.Goals as goal

pub returns : goal.returns
returns g c = λ facts theory f is_stated range in_range. normal_same theory.inclusions (g.S.Truth.holds facts) is_stated.numbered is_stated.inclusions range f in_range
