-- What the reading of documents tells.
use Rattle.std.specs.Prelude.{◌≡◌, ℕ, List}
use Rattle.mast_canon.specs.Conditions.{HasNumbers}
use Rattle.mast_canon.specs.Premises.{AreMappings}
use Rattle.mast_constr.specs.Kept.{AreKept}
use Rattle.mast_constr.specs.Whole.{HasConstraints, IsConstraintsBreach}
use Rattle.mast_files.specs.Outside.{Contents, Reading}
use Rattle.mast_mapping.specs.declared.map.Mappings.{Mappings}
use Rattle.mast_mapping.specs.Documents.{HasMappings, IsMappingsBreach}
use Rattle.mast_onto.specs.Ontologies.{HasOntology, IsOntologyBreach}
use Rattle.mast_tbox.specs.declared.constraint.Constraints.{Constraints}
use Rattle.mast_tbox.specs.declared.tbox.Ontology.{Ontology}
use Rattle.mast_terms.specs.Vocabularies.{Lists}
use Rattle.mast_tree.specs.declared.document.DocName.TheVariants as doc
use Rattle.mast_tree.specs.Growing.{Begins}
use Rattle.mast_write.specs.declared.refusals.Refusal.{Refusal}
use Rattle.mast_cli.specs.declared.judged.Part.{Part}
use Rattle.mast_cli.specs.stage.Document.{Axioms, axioms_of, BytesEvent, ConstraintsStage, HasValue, MappingsStage, OntologyStage, nothing_named}
use Rattle.mast_cli.specs.inside.Telling.{TellsAs, TellsPart}

-- bytes that are an ontology, and what they say
abbrev pub HoldOntology : List ℕ → Ontology → Type 0
HoldOntology bytes ontology = HasValue (λ document. HasOntology document nothing_named) bytes ontology

-- bytes that are a constraint document over names and constants, and the constraints that they say
abbrev pub HoldConstraints : Lists → List ℕ → Constraints → Type 0
HoldConstraints old bytes constraints = HasValue (λ document. HasConstraints document old) bytes constraints

-- bytes that are a mapping document over names and constants, and the mappings that they say
abbrev pub HoldMappings : Lists → List ℕ → Mappings → Type 0
HoldMappings old bytes mappings = HasValue (λ document. HasMappings document old) bytes mappings

-- the first event of the bytes of an ontology, but for their number
abbrev pub OntologyEvent : List ℕ → Refusal → Type 0
OntologyEvent bytes event = BytesEvent (λ document. IsOntologyBreach document nothing_named) doc.Ontology bytes event

-- that of the bytes of a constraint document
abbrev pub ConstraintsEvent : Lists → List ℕ → Refusal → Type 0
ConstraintsEvent old bytes event = BytesEvent (λ document. IsConstraintsBreach document old) doc.Constraints bytes event

-- that of the bytes of a mapping document
abbrev pub MappingsEvent : Lists → List ℕ → Refusal → Type 0
MappingsEvent old bytes event = BytesEvent (λ document. IsMappingsBreach document old) doc.Mappings bytes event

-- constraints that were read over names and constants, and are fit for a specification
pub record AreFitConstraints (old : Lists) (constraints : Constraints) : Type 0 where
  pub begins : Begins constraints.vocab old
  pub kept : AreKept constraints
  pub numbered : HasNumbers constraints.list

-- mappings that were read over names and constants, and are fit for a specification
pub record AreFitMappings (old : Lists) (mappings : Mappings) : Type 0 where
  pub begins : Begins mappings.vocab old
  pub maps : AreMappings mappings

-- the axioms are those of the ontology
abbrev pub AreAxiomsOf : Axioms → Ontology → Type 0
AreAxiomsOf axioms ontology = axioms ≡ axioms_of ontology

-- the stage of an ontology in a file
abbrev pub TellsOntology : List ℕ → Reading → Contents → Part Ontology → Type 0
TellsOntology file reading contents what = TellsAs AreAxiomsOf (OntologyStage contents file) reading what

-- the stage of a constraint document in a file
abbrev pub TellsConstraints : Lists → List ℕ → Reading → Contents → Part Constraints → Type 0
TellsConstraints old file reading contents what = TellsPart (ConstraintsStage old contents file) reading what

-- the stage of a mapping document in a file
abbrev pub TellsMappings : Lists → List ℕ → Reading → Contents → Part Mappings → Type 0
TellsMappings old file reading contents what = TellsPart (MappingsStage old contents file) reading what
