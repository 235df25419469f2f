-- The stage of a document: its bytes, its tokens, its tree, and then what a reader of documents says of the tree.
use Rattle.std.specs.Prelude.{◌≡◌, ◌⊎◌, ◌<◌, ◌≤◌, ℕ, List, [], length, Option}
use Rattle.mast_files.specs.Outside.{Contents}
use Rattle.mast_constr.specs.Whole.{HasConstraints, IsConstraintsBreach}
use Rattle.mast_mapping.specs.declared.map.Mappings.{Mappings}
use Rattle.mast_mapping.specs.Documents.{HasMappings, IsMappingsBreach}
use Rattle.mast_onto.specs.Ontologies.{HasOntology, IsOntologyBreach}
use Rattle.mast_tbox.specs.declared.axiom.Inclusion.{Inclusion}
use Rattle.mast_tbox.specs.declared.axiom.Lined.{Lined}
use Rattle.mast_tbox.specs.declared.axiom.Negative.{Negative}
use Rattle.mast_tbox.specs.declared.constraint.Constraints.{Constraints}
use Rattle.mast_tbox.specs.declared.expression.Prop.{Prop}
use Rattle.mast_tbox.specs.declared.tbox.Ontology.{Ontology}
use Rattle.mast_terms.specs.Vocabularies.{Lists, lists_of}
use Rattle.mast_tree.specs.declared.document.DocName.{DocName}
use Rattle.mast_tree.specs.declared.document.DocName.TheVariants as doc
use Rattle.mast_tree.specs.declared.item.TreeBreach.{TreeBreach}
use Rattle.mast_tree.specs.declared.shape.ShapeBreach.{ShapeBreach}
use Rattle.mast_tree.specs.declared.token.LexBreach.{LexBreach}
use Rattle.mast_tree.specs.declared.token.Token.{Token}
use Rattle.mast_tree.specs.Seen.{Document}
use Rattle.mast_tree.specs.Source.{AreTokens, IsLexBreach}
use Rattle.mast_tree.specs.Trees.{IsTree, IsTreeBreach}
use Rattle.mast_write.specs.declared.refusals.Refusal.{Refusal}
use Rattle.mast_write.specs.declared.refusals.Refusal.TheVariants as refusal
use Rattle.mast_cli.specs.FirstEvent.{Trail, Reads}
use Rattle.mast_cli.specs.Limits.{document_bytes}

-- a document of these bytes: its tokens are theirs, and its items stand for these
pub record IsDocumentOf (bytes : List ℕ) (document : Document) : Type 0 where
  pub source : document.source ≡ bytes
  pub tokens : AreTokens bytes document.tokens
  pub tree : IsTree document.tokens document.items

-- bytes of a document that has this value
abbrev pub HasValue : {A : Type 0} → (Document → A → Type 0) → List ℕ → A → Type 0
HasValue Has bytes value = (document : Document) × IsDocumentOf bytes document × Has document value

-- the bytes are no list of tokens: their first lexical breach
abbrev pub IsLexical : DocName → List ℕ → Refusal → Type 0
IsLexical name bytes event = (breach : LexBreach) × IsLexBreach bytes breach × (event ≡ refusal.Lex name breach)

-- their tokens are no tree: their first breach
abbrev pub IsGrammatical : DocName → List ℕ → Refusal → Type 0
IsGrammatical name bytes event =
    (tokens : List Token) × (breach : TreeBreach)
    × AreTokens bytes tokens × IsTreeBreach tokens breach × (event ≡ refusal.Tree name breach)

-- the tree is not what the reader reads: the first breach of the document
abbrev pub IsShaped : (Document → ShapeBreach → Type 0) → DocName → List ℕ → Refusal → Type 0
IsShaped Breaks name bytes event =
    (document : Document) × (breach : ShapeBreach)
    × IsDocumentOf bytes document × Breaks document breach × (event ≡ refusal.Shape name breach)

-- the first event of a document's bytes, but for their number
abbrev pub BytesEvent : (Document → ShapeBreach → Type 0) → DocName → List ℕ → Refusal → Type 0
BytesEvent Breaks name bytes event =
    IsLexical name bytes event ⊎ (IsGrammatical name bytes event ⊎ IsShaped Breaks name bytes event)

-- the first event of a document: that it has too many bytes, or that of its bytes
abbrev pub DocumentEvent : (Document → ShapeBreach → Type 0) → DocName → List ℕ → Refusal → Type 0
DocumentEvent Breaks name content event =
    ((document_bytes name < length content) × (event ≡ refusal.DocBytes name))
    ⊎ ((length content ≤ document_bytes name) × BytesEvent Breaks name content event)

-- a document without an event, and what it is read as
abbrev pub IsDocument : {A : Type 0} → (Document → A → Type 0) → DocName → List ℕ → A → Type 0
IsDocument Has name content value = (length content ≤ document_bytes name) × HasValue Has content value

-- the stage of a document in a file
abbrev pub DocumentStage : {A : Type 0} → (Document → A → Type 0) → (Document → ShapeBreach → Type 0)
    → DocName → Contents → List ℕ → Trail → Option A → Type 0
DocumentStage Has Breaks name contents file stages end =
    Reads file (DocumentEvent Breaks name (contents file)) (IsDocument Has name (contents file)) stages end

-- a vocabulary without names and constants
abbrev pub nothing_named : Lists
nothing_named = lists_of [] [] [] []

-- what an ontology says: its names, and its axioms, each with its line
pub record Axioms : Type 0 where
  pub vocab : Lists
  pub inclusions : List (Lined Inclusion)
  pub negatives : List (Lined Negative)
  pub functional : List (Lined Prop)

-- the axioms of an ontology
abbrev pub axioms_of : Ontology → Axioms
axioms_of ontology = record {
  vocab = ontology.vocab;
  inclusions = ontology.tbox.inclusions;
  negatives = ontology.tbox.negatives;
  functional = ontology.tbox.functional;
}

-- the document is an ontology that says these axioms
abbrev pub SaysAxioms : Document → Axioms → Type 0
SaysAxioms document axioms =
    (ontology : Ontology) × HasOntology document nothing_named ontology × (axioms ≡ axioms_of ontology)

-- the stage of an ontology in a file
unfoldable pub OntologyStage : Contents → List ℕ → Trail → Option Axioms → Type 0
OntologyStage contents file stages end =
    DocumentStage SaysAxioms (λ document. IsOntologyBreach document nothing_named) doc.Ontology contents file stages end

-- the stage of a constraint document in a file, which is read over names and constants
unfoldable pub ConstraintsStage : Lists → Contents → List ℕ → Trail → Option Constraints → Type 0
ConstraintsStage old contents file stages end =
    DocumentStage (λ document. HasConstraints document old) (λ document. IsConstraintsBreach document old)
    doc.Constraints contents file stages end

-- the stage of a mapping document in a file, which is read over names and constants
unfoldable pub MappingsStage : Lists → Contents → List ℕ → Trail → Option Mappings → Type 0
MappingsStage old contents file stages end =
    DocumentStage (λ document. HasMappings document old) (λ document. IsMappingsBreach document old)
    doc.Mappings contents file stages end
