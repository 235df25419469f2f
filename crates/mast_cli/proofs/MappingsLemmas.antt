-- The stages of the documents have one end each, and what they read is fit for a specification.
use Rattle.std.proofs.Common.{◌≡◌, ◌⊎◌, inl, inr, ◌<◌, ◌∙◌, ℕ, List, [], ◌++◌, Some, Result, Ok, Err, IfOk, length, slice_get, refl, sym, subst, arith}
use Rattle.mast_canon.specs.Conditions.{places}
use Rattle.mast_canon.specs.Premises.{AreMappings}
use Rattle.mast_files.specs.Outside.{Contents}
use Rattle.mast_mapping.specs.declared.map.Mappings.{Mappings}
use Rattle.mast_mapping.specs.InRange.{AreInRange}
use Rattle.mast_mapping.specs.Documents.{HasMappings, IsMappingsBreach}
use Rattle.mast_mapping.specs.OverTables.{AreOverTables}
use Rattle.mast_mapping.proofs.LawLemmas.{has_one_meaning}
use Rattle.mast_constr.specs.Kept.{AreKept}
use Rattle.mast_constr.specs.Whole.{HasConstraints, IsConstraintsBreach}
use Rattle.mast_constr.proofs.LawLemmas.{has_one as has_one_constraints}
use Rattle.mast_onto.specs.Ontologies.{AreSame, HasOntology, IsOntologyBreach}
use Rattle.mast_onto.proofs.WholeLemmas.{has_one_ontology}
use Rattle.mast_tbox.specs.declared.constraint.Constraints.{Constraints}
use Rattle.mast_tbox.specs.declared.tbox.Ontology.{Ontology}
use Rattle.mast_tree.specs.declared.item.Item.{Item}
use Rattle.mast_tree.specs.Growing.{Begins}
use Rattle.mast_tree.specs.Judged.{Judging, IsRight, after_judged}
use Rattle.mast_tree.specs.MainNode.{Prefixes}
use Rattle.mast_tree.proofs.VocabularyLemmas.{after_lawful}
use Rattle.mast_terms.specs.Answers.{Answers}
use Rattle.mast_terms.specs.declared.memory.NoMemory.{NoMemory}
use Rattle.mast_terms.specs.declared.memory.Stop.{Stop}
use Rattle.mast_terms.specs.Vocabularies.{IsNumbered, IsVocabulary, Lists}
use Rattle.mast_tree.specs.declared.document.DocName.TheVariants as doc
use Rattle.mast_tree.specs.declared.shape.ShapeBreach.{ShapeBreach}
use Rattle.mast_tree.specs.Seen.{Document}
use Rattle.mast_tree.specs.Trees.{IsTree}
use Rattle.mast_cli.specs.stage.Document.{Axioms, axioms_of, SaysAxioms, OntologyStage, ConstraintsStage, MappingsStage, nothing_named}
use Rattle.mast_cli.proofs.DocumentLemmas.{HasOneAnswer, one_document}
use Rattle.mast_cli.proofs.FirstEventLemmas.{HasOneEnd}
use Rattle.mast_cli.specs.declared.judged.Part.{Part}
use Rattle.mast_cli.specs.declared.judged.Part.TheVariants as part
use Rattle.mast_cli.specs.FirstEvent.{Trail}
use Rattle.mast_cli.specs.inside.Telling.{IfRead}
use Rattle.mast_cli.specs.inside.Readings.{AreFitConstraints, AreFitMappings}
use Rattle.mast_cli.proofs.SizeLemmas.{constraints_numbered, have_numbers}

-- no elements, which are numbered
no_elements : {A : Type 0} → IsNumbered {A = A} []
no_elements = record { once = λ i j x h g. absurd (none i x h); few = omega arith }
  where
    none : {A : Type 0} (i : ℕ) (x : A) → slice_get [] i ≡ Some x → ⊥
    none i x h = cc

-- no names and no constants are a vocabulary
pub nothing_is_lawful : IsVocabulary nothing_named
nothing_is_lawful = record { classes = no_elements; roles = no_elements; attributes = no_elements; constants = no_elements; apart = λ iri h. refl }

-- what is read over lawful names is lawful
right_lawful : (document : Document) (word : List ℕ) (judged : Judging) (old new : Lists) (P : Prefixes → List Item → Type 0) → IsRight document word judged old new P → IsVocabulary old → IsVocabulary new
right_lawful document word judged old new P h lawful =
    subst IsVocabulary (sym h.right.then) (after_lawful old (judged h.prefixes h.inside ++ after_judged document h.after) lawful h.right.none)

-- the names of an ontology are lawful
axioms_lawful : (document : Document) (axioms : Axioms) → SaysAxioms document axioms → IsVocabulary axioms.vocab
axioms_lawful document axioms h =
    subst (λ a. IsVocabulary a.vocab) (sym h.2)
    (right_lawful document _ _ nothing_named h.0.vocab _ h.1.right nothing_is_lawful)

-- those of constraints over lawful names are
constraints_lawful : (document : Document) (old : Lists) (constraints : Constraints) → IsVocabulary old → HasConstraints document old constraints → IsVocabulary constraints.vocab
constraints_lawful document old constraints lawful h = right_lawful document _ _ old constraints.vocab _ h.2 lawful

-- a document has one answer of the reader of ontologies

says : (document : Document) (ontology : Ontology) → HasOntology document nothing_named ontology → (axioms : Axioms) × SaysAxioms document axioms
says document ontology h = (axioms_of ontology, (ontology, h, refl))

same_axioms : (a b : Ontology) → AreSame a b → axioms_of a ≡ axioms_of b
same_axioms a b same = λ i. record { vocab = same.vocab i; inclusions = same.inclusions i; negatives = same.negatives i; functional = same.functional i }

axioms_or_breach : (document : Document) → ((ontology : Ontology) × HasOntology document nothing_named ontology) ⊎ ((breach : ShapeBreach) × IsOntologyBreach document nothing_named breach)
    → ((axioms : Axioms) × SaysAxioms document axioms) ⊎ ((breach : ShapeBreach) × IsOntologyBreach document nothing_named breach)
axioms_or_breach document (inl h) = inl (says document h.0 h.1)
axioms_or_breach document (inr h) = inr h

one_ontology_answer : HasOneAnswer SaysAxioms (λ document. IsOntologyBreach document nothing_named)
one_ontology_answer = record {
  either = λ d. axioms_or_breach d (has_one_ontology d nothing_named nothing_is_lawful).either;
  not_both = λ d x b h g. (has_one_ontology d nothing_named nothing_is_lawful).not_both h.0 b h.1 g;
  one_value = λ d x y h g. h.2 ∙ same_axioms h.0 g.0 ((has_one_ontology d nothing_named nothing_is_lawful).one h.0 g.0 h.1 g.1) ∙ sym g.2;
  one_breach = λ d b c h g. (has_one_ontology d nothing_named nothing_is_lawful).one_breach b c h g;
}

-- the stage of an ontology has one end
pub one_ontology : (contents : Contents) (file : List ℕ) → HasOneEnd (OntologyStage contents file)
unfolding OntologyStage
one_ontology contents file = one_document _ _ one_ontology_answer doc.Ontology contents file

-- and lawful names
pub ontology_lawful : (contents : Contents) (file : List ℕ) (stages : Trail) (axioms : Axioms) → OntologyStage contents file stages (Some axioms) → IsVocabulary axioms.vocab
unfolding OntologyStage
ontology_lawful contents file stages axioms h = axioms_lawful h.0.1.0 axioms h.0.1.2

module _ (old : Lists) (lawful : IsVocabulary old) where
  constraints_answer : HasOneAnswer (λ document. HasConstraints document old) (λ document. IsConstraintsBreach document old)
  constraints_answer = record {
    either = λ d. (has_one_constraints d old lawful).either;
    not_both = λ d x b h g. (has_one_constraints d old lawful).not_both x b h g;
    one_value = λ d x y h g. (has_one_constraints d old lawful).one x y h g;
    one_breach = λ d b c h g. (has_one_constraints d old lawful).one_breach b c h g;
  }

  -- the stage of a constraint document over lawful names has one end
  pub one_constraints : (contents : Contents) (file : List ℕ) → HasOneEnd (ConstraintsStage old contents file)
  unfolding ConstraintsStage
  one_constraints contents file = one_document _ _ constraints_answer doc.Constraints contents file

  -- and lawful names
  pub constraints_named : (contents : Contents) (file : List ℕ) (stages : Trail) (constraints : Constraints) → ConstraintsStage old contents file stages (Some constraints) → IsVocabulary constraints.vocab
  unfolding ConstraintsStage
  constraints_named contents file stages constraints h = constraints_lawful h.0.1.0 old constraints lawful h.0.1.2

  mappings_answer : HasOneAnswer (λ document. HasMappings document old) (λ document. IsMappingsBreach document old)
  mappings_answer = record {
    either = λ d. (has_one_meaning d old lawful).either;
    not_both = λ d x b h g. (has_one_meaning d old lawful).not_both x b h g;
    one_value = λ d x y h g. (has_one_meaning d old lawful).one_meaning x y h g;
    one_breach = λ d b c h g. (has_one_meaning d old lawful).one_breach b c h g;
  }

  -- the stage of a mapping document over lawful names has one end
  pub one_mappings : (contents : Contents) (file : List ℕ) → HasOneEnd (MappingsStage old contents file)
  unfolding MappingsStage
  one_mappings contents file = one_document _ _ mappings_answer doc.Mappings contents file

-- mappings that were read are fit for a specification
pub are_mappings : (document : Document) (old : Lists) (read : Result Mappings (Stop ShapeBreach)) → IsTree document.tokens document.items → length document.tokens < places
    → Answers read (HasMappings document old) (IsMappingsBreach document old)
    → IfOk read (λ m. Begins m.vocab old) → IfOk read (λ m. AreOverTables m.tables m.maps) → IfOk read (λ m. AreInRange m.vocab m.maps) → IfOk read (AreFitMappings old)
are_mappings document old (Err stopped) tree few answers begins over names = tt
are_mappings document old (Ok m) tree few answers begins over names =
    let numbers = have_numbers document old m tree few answers in
    record { begins = begins; maps = record { names = names; over = over; tables = numbers.0; heads = numbers.1 } }

-- and so are constraints
pub are_constraints : (document : Document) (old : Lists) (read : Result Constraints (Stop ShapeBreach)) → IsTree document.tokens document.items → length document.tokens < places
    → Answers read (HasConstraints document old) (IsConstraintsBreach document old)
    → IfOk read (λ cs. Begins cs.vocab old) → IfOk read AreKept → IfOk read (AreFitConstraints old)
are_constraints document old (Err stopped) tree few answers begins kept = tt
are_constraints document old (Ok cs) tree few answers begins kept =
    record { begins = begins; kept = kept; numbered = constraints_numbered document old cs tree few answers }

-- what a part read is fit for a specification of mappings alone
pub maps_of : (old : Lists) (r : Result (Part Mappings) NoMemory) → IfOk r (IfRead (AreFitMappings old)) → IfOk r (IfRead AreMappings)
maps_of old (Err none) h = tt
maps_of old (Ok (part.Read m)) h = h.maps
maps_of old (Ok (part.Ended judged)) h = tt
