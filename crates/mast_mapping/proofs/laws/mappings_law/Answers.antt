use Rattle.mast_mapping.proofs.LawLemmas.{has_one_meaning}
use Rattle.mast_mapping.proofs.laws.mappings_law.Goals as goal

pub returns : goal.returns
returns c = λ doc old lawful. has_one_meaning doc old lawful
