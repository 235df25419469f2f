-- What is kept by the answer of a reading.
use Rattle.std.proofs.Common.{◌≡◌}
use Rattle.std.specs.Prelude.{Result, Ok, Err, IfOk}
use Rattle.mast_terms.specs.Answers.{Answers}
use Rattle.mast_terms.specs.declared.memory.Stop.{Stop}
use Rattle.mast_terms.specs.Vocabularies.{Lists}
use Rattle.mast_tbox.specs.declared.tbox.Ontology.{Ontology}
use Rattle.mast_tree.specs.declared.shape.ShapeBreach.{ShapeBreach}
use Rattle.mast_tree.specs.Growing.{Begins}
use Rattle.mast_tree.specs.Seen.{Document}
use Rattle.mast_tree.proofs.GrowingLemmas.{right_begins}
use Rattle.mast_onto.specs.Known.{HasNames}
use Rattle.mast_onto.specs.Ontologies.{HasOntology, IsOntologyBreach}
use Rattle.mast_onto.proofs.ConstantLemmas.{same_constants}
use Rattle.mast_onto.proofs.KnownLemmas.{ontology_known}

-- the document was read
abbrev pub Reads : Document → Lists → Result Ontology (Stop ShapeBreach) → Type 0
Reads doc old result = Answers result (HasOntology doc old) (IsOntologyBreach doc old)

-- the vocabulary begins with that before
pub outcome_begins : (doc : Document) (old : Lists) (result : Result Ontology (Stop ShapeBreach)) → Reads doc old result → IfOk result (λ o. Begins o.vocab old)
outcome_begins doc old (Ok o) h = right_begins old o.vocab _ h.right.right
outcome_begins doc old (Err why) h = tt

-- the constants are the same
pub outcome_constants : (doc : Document) (old : Lists) (result : Result Ontology (Stop ShapeBreach)) → Reads doc old result → IfOk result (λ o. o.vocab.constants ≡ old.constants)
outcome_constants doc old (Ok o) h = same_constants doc old o h
outcome_constants doc old (Err why) h = tt

-- the vocabulary has all names
pub outcome_names : (doc : Document) (old : Lists) (result : Result Ontology (Stop ShapeBreach)) → Reads doc old result → IfOk result HasNames
outcome_names doc old (Ok o) h = ontology_known doc old o h
outcome_names doc old (Err why) h = tt
