-- The documents of a specification, one after the other, and then the stage of the restrictions.
use Rattle.std.specs.Prelude.{◌≡◌, ℕ, List, Option, Some, None}
use Rattle.mast_canon.specs.Facts.{IsFactOf}
use Rattle.mast_canon.specs.Theories.{Theory}
use Rattle.mast_canon.specs.declared.rows.RowId.{RowId}
use Rattle.mast_cq.specs.Meanings.{Fact}
use Rattle.mast_files.specs.Outside.{Contents}
use Rattle.mast_mapping.specs.declared.map.Mappings.{Mappings}
use Rattle.mast_mapping.specs.Split.{split_maps}
use Rattle.mast_tables.specs.Rows.{Row}
use Rattle.mast_tbox.specs.declared.constraint.Constraints.{Constraints}
use Rattle.mast_tbox.specs.declared.restriction.RestrictionBreach.{RestrictionBreach}
use Rattle.mast_tbox.specs.Restrictions.{IsRestrictionBreach}
use Rattle.mast_terms.specs.declared.term.Term.{Term}
use Rattle.mast_terms.specs.Vocabularies.{Lists}
use Rattle.mast_write.specs.declared.refusals.Refusal.{Refusal}
use Rattle.mast_write.specs.declared.refusals.Refusal.TheVariants as refusal
use Rattle.mast_cli.specs.FirstEvent.{Trail, Made, Then, Weighed}
use Rattle.mast_cli.specs.stage.Document.{Axioms, OntologyStage, ConstraintsStage, MappingsStage}

-- the files of a specification's documents
pub record Files : Type 0 where
  pub ontology : List ℕ
  pub constraints : List ℕ
  pub mappings : List ℕ

-- these files
abbrev pub files_of : (ontology constraints mappings : List ℕ) → Files
files_of ontology constraints mappings = record { ontology = ontology; constraints = constraints; mappings = mappings }

-- what the documents say
pub record Documents : Type 0 where
  pub axioms : Axioms
  pub constraints : Constraints
  pub mappings : Mappings

-- their theory: the axioms, the constraints, and the values of the constants
abbrev pub theory_in : Documents → Theory
theory_in documents = record {
  inclusions = documents.axioms.inclusions;
  negatives = documents.axioms.negatives;
  functional = documents.axioms.functional;
  constraints = documents.constraints.list;
  constants = documents.mappings.vocab.constants;
}

-- Facts(X), by their mappings
abbrev pub FactsIn : Documents → List (List Row) → (RowId → Type 0) → Fact Term → Type 0
FactsIn documents tables X = IsFactOf documents.mappings.tables tables (split_maps documents.mappings.maps) X

-- the documents, of which one after the other was read
abbrev pub read_in_turn : Axioms × (Constraints × Mappings) → Documents
read_in_turn read = record { axioms = read.0; constraints = read.1.0; mappings = read.1.1 }

-- the constraints and then the mappings, each over the names and constants of the documents before
abbrev pub RestStages : Lists → Contents → (constraints mappings : List ℕ) → Trail → Option (Constraints × Mappings) → Type 0
RestStages old contents constraints mappings =
    Then (ConstraintsStage old contents constraints) (λ read. MappingsStage read.vocab contents mappings)

-- the stages of the documents: the ontology, the constraints, the mappings
abbrev pub DocumentsStages : Contents → Files → Trail → Option Documents → Type 0
DocumentsStages contents files =
    Made read_in_turn
    (Then (OntologyStage contents files.ontology)
    (λ axioms. RestStages axioms.vocab contents files.constraints files.mappings))

-- the axioms or the constraints breach a restriction, and this is the first breach
unfoldable pub RestrictionEvent : Documents → Refusal → Type 0
RestrictionEvent documents event =
    (breach : RestrictionBreach)
    × IsRestrictionBreach documents.axioms.inclusions documents.axioms.functional documents.constraints.list (Some breach)
    × (event ≡ refusal.Restriction breach)

-- they breach none
unfoldable pub IsRestricted : Documents → Type 0
IsRestricted documents =
    IsRestrictionBreach documents.axioms.inclusions documents.axioms.functional documents.constraints.list None

-- the stages of a specification: its documents, and then the restrictions
abbrev pub SpecificationStages : Contents → Files → Trail → Option Documents → Type 0
SpecificationStages contents files = Weighed (DocumentsStages contents files) RestrictionEvent IsRestricted
