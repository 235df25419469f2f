-- The names of axioms: each is one of the vocabulary.
use Rattle.mast_terms.specs.Vocabularies.{Lists}
use Rattle.mast_tbox.specs.declared.tbox.Ontology.{Ontology}
use Rattle.mast_tbox.specs.Vocabularies.{AxiomsInRange}
use Rattle.mast_tree.specs.Seen.{Document}
use Rattle.mast_onto.specs.Ontologies.{HasOntology}

-- the names of the axioms stand in the vocabulary
abbrev pub HasNames : Ontology → Type 0
HasNames o = AxiomsInRange o.vocab o.tbox.inclusions o.tbox.negatives o.tbox.functional

-- so they do of each ontology of a document
abbrev pub HasKnownNames : Document → Lists → Type 0
HasKnownNames doc old = (ontology : Ontology) → HasOntology doc old ontology → HasNames ontology
