-- What the bytes of a file tell is told of its stage.
use Rattle.std.proofs.Common.{◌≡◌, ◌∙◌, ◌≤◌, inl, inr, ℕ, List, Option, Some, None, Result, Ok, Err, IfOk, IfSome, length, subst, sym, refl}
use Rattle.std.specs.Prelude.{Vec}
use Rattle.std.specs.declared.alloc.Global.{Global}
use Rattle.mast_files.specs.Outside.{Contents, Reading}
use Rattle.mast_onto.specs.Ontologies.{HasOntology, IsOntologyBreach}
use Rattle.mast_tbox.specs.declared.tbox.Ontology.{Ontology}
use Rattle.mast_terms.specs.Answers.{Answers}
use Rattle.mast_terms.specs.declared.memory.NoMemory.{NoMemory}
use Rattle.mast_terms.specs.declared.memory.Stop.{Stop}
use Rattle.mast_terms.specs.declared.memory.Stop.TheVariants as stop
use Rattle.mast_tree.specs.declared.document.DocName.{DocName}
use Rattle.mast_tree.specs.declared.document.DocName.TheVariants as doc
use Rattle.mast_tree.specs.declared.shape.ShapeBreach.{ShapeBreach}
use Rattle.mast_tree.specs.declared.document.Doc.{Doc}
use Rattle.mast_tree.specs.Seen.{Document, seen}
use Rattle.mast_write.specs.declared.refusals.Refusal.{Refusal}
use Rattle.mast_write.specs.declared.refusals.Refusal.TheVariants as refusal
use Rattle.mast_cli.specs.declared.judged.Judged.{Judged}
use Rattle.mast_cli.specs.declared.judged.Part.{Part}
use Rattle.mast_cli.specs.declared.judged.Part.TheVariants as part
use Rattle.mast_cli.specs.Limits.{document_bytes}
use Rattle.mast_cli.specs.stage.Document.{Axioms, axioms_of, BytesEvent, DocumentEvent, DocumentStage, HasValue, IsDocument, IsDocumentOf, IsGrammatical, OntologyStage, nothing_named}
use Rattle.mast_cli.specs.inside.Readings.{TellsOntology}
use Rattle.mast_cli.specs.inside.Telling.{Ends, HasContent, IfRead, IsTooLong, IsValueOf, JudgesIn, TellsBytes, TellsContent, TellsPart}
use Rattle.mast_cli.specs.Outcome.{EndsIn}
use Rattle.mast_cli.proofs.EventLemmas.{document_answers}
use Rattle.mast_cli.specs.FirstEvent.{Trail}
use Rattle.mast_cli.proofs.MappingsLemmas.{one_ontology}
use Rattle.mast_cli.proofs.TellingLemmas.{ends_more, reads_ended, reads_told}

-- documents

-- the content that was read
pub content_of : (told : Option Contents) (file : List ℕ) (most : ℕ) (event : Refusal) (reading : Reading) (what : Part (Vec ℕ Global)) (bytes : Vec ℕ Global) → what ≡ part.Read bytes
    → IfSome told (λ c. TellsContent most event file reading c what) → IfSome told (λ c. HasContent most (c file) bytes)
content_of None file most event reading what bytes e h = tt
content_of (Some contents) file most event reading what bytes e h =
    subst (TellsContent most event file reading contents) e h

module _ {A : Type 0} (Has : Document → A → Type 0) (Breaks : Document → ShapeBreach → Type 0) (name : DocName) where
  -- what a reader says of the tree of bytes is what they say
  pub value_told : (bytes : List ℕ) (document : Document) (read : Result A (Stop ShapeBreach)) (r : Result (Part A) NoMemory)
      → IsDocumentOf bytes document → Answers read (Has document) (Breaks document) → IfOk r (IsValueOf name read)
      → IfOk r (TellsBytes (HasValue Has bytes) (BytesEvent Breaks name bytes))
  value_told bytes document read (Err e) is answers h = tt
  value_told bytes document (Ok value) (Ok (part.Read x)) is answers h = (document, is, subst (Has document) (sym h) answers)
  value_told bytes document (Ok value) (Ok (part.Ended judged)) is answers h = absurd h
  value_told bytes document (Err (stop.Named breach)) (Ok (part.Read x)) is answers h = absurd h
  value_told bytes document (Err (stop.Named breach)) (Ok (part.Ended judged)) is answers h =
      (refusal.Shape name breach, inr (inr (document, breach, is, answers, refl)), h)
  value_told bytes document (Err stop.NoMemory) (Ok what) is answers h = absurd h

  -- and keeps what is known of it
  pub value_kept : (P : A → Type 0) (read : Result A (Stop ShapeBreach)) (r : Result (Part A) NoMemory) → IfOk read P → IfOk r (IsValueOf name read) → IfOk r (IfRead P)
  value_kept P read (Err e) known h = tt
  value_kept P (Ok value) (Ok (part.Read x)) known h = subst P (sym h) known
  value_kept P (Ok value) (Ok (part.Ended judged)) known h = absurd h
  value_kept P (Err (stop.Named breach)) (Ok (part.Read x)) known h = absurd h
  value_kept P (Err (stop.Named breach)) (Ok (part.Ended judged)) known h = tt
  value_kept P (Err stop.NoMemory) (Ok what) known h = absurd h

  -- a tree that was read is a document of the bytes
  pub is_document : (bytes : List ℕ) (tree : Part Doc) (document : Doc) → tree ≡ part.Read document → TellsBytes (λ d. IsDocumentOf bytes (seen d)) (IsGrammatical name bytes) tree → IsDocumentOf bytes (seen document)
  is_document bytes tree document e h = subst (TellsBytes (λ d. IsDocumentOf bytes (seen d)) (IsGrammatical name bytes)) e h

  module _ (one : (contents : Contents) (file : List ℕ) → (stages : Trail) × (end : Option A) × DocumentStage Has Breaks name contents file stages end) where
    -- what the content of a document tells is told of its stage
    pub document_told : (told : Option Contents) (file slice : List ℕ) (most : ℕ) (reading : Reading) (bytes : Vec ℕ Global) (r : Result (Part A) NoMemory)
        → slice ≡ bytes.items → most ≡ document_bytes name → IfSome told (λ c. HasContent most (c file) bytes)
        → IfOk r (TellsBytes (HasValue Has slice) (BytesEvent Breaks name slice)) → IfOk r (λ what. IfSome told (λ c. TellsPart (DocumentStage Has Breaks name c file) reading what))
    document_told told file slice most reading bytes (Err e) same limit has h = tt
    document_told None file slice most reading bytes (Ok what) same limit has h = tt
    document_told (Some contents) file slice most reading bytes (Ok what) same limit has h =
        let content = contents file in
        let whole : slice ≡ content = same ∙ has.1 in
        let within : length content ≤ document_bytes name = subst (λ n. length content ≤ n) limit has.0 in
        let moved = subst (λ b. TellsBytes (HasValue Has b) (BytesEvent Breaks name b) what) whole h in
        reads_told file (DocumentEvent Breaks name content) (IsDocument Has name content) (one contents file)
        (HasValue Has content) (BytesEvent Breaks name content) reading what
        (λ x k. (within, k)) (λ event k. inr (within, k)) (λ event k. document_answers Breaks name content event k) moved

    -- a document that is too long, or whose file fails, ends its stage
    pub document_unread : (told : Option Contents) (file : List ℕ) (most : ℕ) (reading : Reading) (what : Part (Vec ℕ Global)) (judged : Judged)
        → most ≡ document_bytes name → what ≡ part.Ended judged
        → IfSome told (λ c. TellsContent most (refusal.DocBytes name) file reading c what)
        → IfSome told (λ c. Ends (EndsIn (DocumentStage Has Breaks name c file)) (JudgesIn (DocumentStage Has Breaks name c file)) reading judged)
    document_unread None file most reading what judged limit ended h = tt
    document_unread (Some contents) file most reading what judged limit ended h =
        let content = contents file in
        let too_long = refusal.DocBytes name in
        let moved = subst (λ n. TellsContent n too_long file reading contents what) limit h in
        reads_ended file (DocumentEvent Breaks name content) (IsDocument Has name content) (one contents file)
        (IsTooLong (document_bytes name) too_long content) reading judged (λ event k. inl k)
        (subst (TellsContent (document_bytes name) too_long file reading contents) ended moved)

-- the axioms of an ontology

-- the document has this ontology
abbrev pub IsOntology : Document → Ontology → Type 0
IsOntology document ontology = HasOntology document nothing_named ontology

-- its first breach as an ontology
abbrev pub BreaksOntology : Document → ShapeBreach → Type 0
BreaksOntology document breach = IsOntologyBreach document nothing_named breach

abbrev pub OfOntology : Contents → List ℕ → Trail → Option Ontology → Type 0
OfOntology contents file = DocumentStage IsOntology BreaksOntology doc.Ontology contents file

-- an end of the stage that says the axioms, or the whole ontology
ontology_end : (contents : Contents) (file : List ℕ) (stages : Trail) (end : Option Axioms) → OntologyStage contents file stages end → (last : Option Ontology) × OfOntology contents file stages last
unfolding OntologyStage
ontology_end contents file stages None h = (None, h)
ontology_end contents file stages (Some axioms) h =
    let says = h.0.1.2 in
    (Some says.0, ((h.0.0, (h.0.1.0, h.0.1.1, says.1)), h.1))

-- the stage of an ontology has an end
pub ontology_some : (contents : Contents) (file : List ℕ) → (stages : Trail) × (end : Option Ontology) × OfOntology contents file stages end
ontology_some contents file =
    let some = (one_ontology contents file).some in
    let last = ontology_end contents file some.0 some.1 some.2 in
    (some.0, last.0, last.1)

as_axioms : (contents : Contents) (file : List ℕ) (stages : Trail) (end : Option Ontology) → OfOntology contents file stages end → (last : Option Axioms) × OntologyStage contents file stages last
unfolding OntologyStage
as_axioms contents file stages None h = (None, h)
as_axioms contents file stages (Some ontology) h =
    (Some (axioms_of ontology), ((h.0.0, (h.0.1.0, h.0.1.1, (ontology, h.0.1.2, refl))), h.1))

-- the run ends in the stage that says axioms where it does in the one that says the ontology
pub axioms_ended : (contents : Contents) (file : List ℕ) (reading : Reading) (judged : Judged)
    → Ends (EndsIn (OfOntology contents file)) (JudgesIn (OfOntology contents file)) reading judged
    → Ends (EndsIn (OntologyStage contents file)) (JudgesIn (OntologyStage contents file)) reading judged
unfolding OntologyStage
axioms_ended contents file reading judged h =
    ends_more (EndsIn (OfOntology contents file)) (EndsIn (OntologyStage contents file)) (JudgesIn (OfOntology contents file)) (JudgesIn (OntologyStage contents file))
    reading judged.status judged.text.items
    (λ status text k. (k.0, k.1, k.2, k.3, k.4))
    (λ name k. let last = as_axioms contents file k.0 k.1 k.2 in (k.0, last.0, last.1, k.3)) h

axioms_part : (contents : Contents) (file : List ℕ) (reading : Reading) (what : Part Ontology) → TellsPart (OfOntology contents file) reading what → TellsOntology file reading contents what
unfolding OntologyStage
axioms_part contents file reading (part.Read ontology) h =
    (axioms_of ontology, refl, h.0, ((h.1.0.0, (h.1.0.1.0, h.1.0.1.1, (ontology, h.1.0.1.2, refl))), h.1.1))
axioms_part contents file reading (part.Ended judged) h = axioms_ended contents file reading judged h

-- what is told of the ontology is told of its axioms
pub axioms_told : (told : Option Contents) (file : List ℕ) (reading : Reading) (r : Result (Part Ontology) NoMemory)
    → IfOk r (λ what. IfSome told (λ c. TellsPart (OfOntology c file) reading what)) → IfOk r (λ what. IfSome told (λ c. TellsOntology file reading c what))
axioms_told told file reading (Err e) h = tt
axioms_told None file reading (Ok what) h = tt
axioms_told (Some contents) file reading (Ok what) h = axioms_part contents file reading what h

-- the same of an end
pub axioms_end : (told : Option Contents) (file : List ℕ) (reading : Reading) (judged : Judged)
    → IfSome told (λ c. Ends (EndsIn (OfOntology c file)) (JudgesIn (OfOntology c file)) reading judged)
    → IfSome told (λ c. Ends (EndsIn (OntologyStage c file)) (JudgesIn (OntologyStage c file)) reading judged)
axioms_end None file reading judged h = tt
axioms_end (Some contents) file reading judged h = axioms_ended contents file reading judged h
