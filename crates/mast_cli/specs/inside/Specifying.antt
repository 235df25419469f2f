-- What the stages of a specification, and the check of its tables, tell.
use Rattle.std.specs.Prelude.{◌≡◌, ℕ, List}
use Rattle.mast_canon.specs.declared.spec.Spec.{Spec}
use Rattle.mast_canon.specs.declared.rows.Tables.{Tables}
use Rattle.mast_canon.specs.Premises.{AreOneSpecification}
use Rattle.mast_canon.specs.Theories.{theory_of}
use Rattle.mast_check.specs.Limits.{IsFirstLimit, MeetsNoLimit}
use Rattle.mast_check.specs.declared.breach.CheckLimit.{CheckLimit}
use Rattle.mast_files.specs.Outside.{Contents, Reading}
use Rattle.mast_mapping.specs.declared.map.Mappings.{Mappings}
use Rattle.mast_mapping.specs.Split.{split_maps}
use Rattle.mast_tbox.specs.declared.constraint.Constraints.{Constraints}
use Rattle.mast_terms.specs.Vocabularies.{Lists}
use Rattle.mast_cli.specs.command.Check.{PrintsConflict, TellsWhether}
use Rattle.mast_cli.specs.declared.judged.Judged.{Judged}
use Rattle.mast_cli.specs.declared.judged.Part.{Part}
use Rattle.mast_cli.specs.declared.specification.ReadDocuments.{ReadDocuments}
use Rattle.mast_cli.specs.stage.Closures.{LimitedStages, limit_event}
use Rattle.mast_cli.specs.stage.Document.{axioms_of}
use Rattle.mast_cli.specs.stage.Restrictions.{Documents, DocumentsStages, Files, IsRestricted, RestrictionEvent, RestStages, SpecificationStages}
use Rattle.mast_cli.specs.inside.Readings.{AreFitConstraints, AreFitMappings}
use Rattle.mast_cli.specs.inside.Telling.{TellsAs, TellsBytes, TellsPart}

-- the constraints and the mappings of a specification
abbrev pub TellsRest : Lists → (constraints mappings : List ℕ) → Reading → Contents → Part (Constraints × Mappings) → Type 0
TellsRest old constraints mappings reading contents what =
    TellsPart (RestStages old contents constraints mappings) reading what

-- they were read over names and constants, and are fit for a specification
abbrev pub AreFitRest : Lists → Constraints × Mappings → Type 0
AreFitRest old rest = AreFitConstraints old rest.0 × AreFitMappings rest.0.vocab rest.1

-- what documents that were read say
abbrev pub documents_of : ReadDocuments → Documents
documents_of read = record {
  axioms = axioms_of read.ontology;
  constraints = read.constraints;
  mappings = read.mappings;
}

-- the documents are those that were read
abbrev pub AreDocumentsOf : Documents → ReadDocuments → Type 0
AreDocumentsOf documents read = documents ≡ documents_of read

-- the documents that were read are one specification
abbrev pub AreOne : ReadDocuments → Type 0
AreOne read = AreOneSpecification read.ontology read.constraints read.mappings

-- the documents of a specification
abbrev pub TellsDocuments : Files → Reading → Contents → Part ReadDocuments → Type 0
TellsDocuments files reading contents what = TellsAs AreDocumentsOf (DocumentsStages contents files) reading what

-- the specification is that of the documents
pub record IsSpecOf (documents : Documents) (spec : Spec) : Type 0 where
  pub vocab : spec.vocab ≡ documents.mappings.vocab
  pub inclusions : spec.tbox.inclusions ≡ documents.axioms.inclusions
  pub negatives : spec.tbox.negatives ≡ documents.axioms.negatives
  pub functional : spec.tbox.functional ≡ documents.axioms.functional
  pub constraints : spec.constraints ≡ documents.constraints.list
  pub tables : spec.tables ≡ documents.mappings.tables
  pub maps : spec.maps ≡ split_maps documents.mappings.maps

-- the stages of a specification
abbrev pub TellsSpecification : Files → Reading → Contents → Part Spec → Type 0
TellsSpecification files reading contents what = TellsAs IsSpecOf (SpecificationStages contents files) reading what

-- the specification of documents that breach no restriction, or their first breach
abbrev pub TellsRestricted : Documents → Part Spec → Type 0
TellsRestricted documents what =
    TellsBytes (λ spec. IsRestricted documents × IsSpecOf documents spec) (RestrictionEvent documents) what

-- the same specification, whose violation queries are above no limit, or their first one
abbrev pub TellsLimits : Spec → Part Spec → Type 0
TellsLimits spec what =
    TellsBytes (λ same. (same ≡ spec) × MeetsNoLimit spec)
    (λ event. (above : CheckLimit) × IsFirstLimit spec above × (event ≡ limit_event above)) what

-- the stages of a specification, and then the limits of its violation queries
abbrev pub TellsLimited : Files → Reading → Contents → Part Spec → Type 0
TellsLimited files reading contents what = TellsAs IsSpecOf (LimitedStages contents files) reading what

-- the text of a conflict, or `consistent`, of the tables of a specification
abbrev pub TellsWhetherOf : Spec → Tables → Judged → Type 0
TellsWhetherOf spec tables judged =
    TellsWhether (theory_of spec) spec.tables spec.maps tables.list judged.status judged.text.items

-- the text of a conflict
abbrev pub IsConflictOf : Spec → Tables → Judged → Type 0
IsConflictOf spec tables judged =
    PrintsConflict (theory_of spec) spec.tables spec.maps tables.list judged.status judged.text.items
