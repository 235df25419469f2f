use Rattle.mast_cq.proofs.TakesLemmas.{places_of, at_places}
use Rattle.mast_cq.proofs.laws.places_law.Goals as goal

pub returns : goal.returns
returns c = λ atoms rest left right. (places_of, at_places atoms left right rest)
