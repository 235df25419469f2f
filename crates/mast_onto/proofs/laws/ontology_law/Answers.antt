use Rattle.mast_onto.proofs.KnownLemmas.{ontology_known}
use Rattle.mast_onto.proofs.WholeLemmas.{has_one_ontology}
use Rattle.mast_onto.proofs.laws.ontology_law.Goals as goal

pub returns : goal.returns
returns c = record { outcome = has_one_ontology; names = ontology_known }
