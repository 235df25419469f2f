-- The stages of a specification have one end, and what their parts tell together.
use Rattle.std.proofs.Common.{◌≡◌, ◌⊎◌, inl, inr, ◌∙◌, ℕ, List, [], ◌∷◌, ◌++◌, Option, Some, None, Result, Ok, Err, IfOk, IfSome, subst, sym, ap, refl}
use Rattle.std.proofs.lemmas.Option.{none-some, same_Some}
use Rattle.std.specs.Prelude.{⊤}
use Rattle.mast_canon.specs.declared.spec.Spec.{Spec}
use Rattle.mast_canon.specs.Theories.{theory_of}
use Rattle.mast_check.specs.declared.breach.CheckLimit.{CheckLimit}
use Rattle.mast_check.specs.declared.breach.CheckLimit.TheVariants as limit
use Rattle.mast_check.specs.Limits.{HasFirstLimit, HasNoLimit, IsFirstLimit, MeetsNoLimit}
use Rattle.mast_check.proofs.LimitLemmas.{not_both, one_limit}
use Rattle.mast_check.proofs.SomeLimitLemmas.{some_limit}
use Rattle.mast_files.specs.Outside.{Contents, Reading}
use Rattle.mast_mapping.specs.declared.map.Mappings.{Mappings}
use Rattle.mast_onto.specs.Known.{HasNames}
use Rattle.mast_mapping.specs.Split.{split_maps}
use Rattle.mast_tbox.specs.declared.constraint.Constraints.{Constraints}
use Rattle.mast_tbox.specs.declared.restriction.RestrictionBreach.{RestrictionBreach}
use Rattle.mast_tbox.specs.declared.tbox.TBox.{TBox}
use Rattle.mast_tbox.specs.Restrictions.{IsRestrictionBreach}
use Rattle.mast_tbox.proofs.OneBreachLemmas.{one_breach}
use Rattle.mast_tbox.specs.declared.tbox.Ontology.{Ontology}
use Rattle.mast_terms.specs.declared.memory.NoMemory.{NoMemory}
use Rattle.mast_terms.specs.Vocabularies.{IsVocabulary, Lists}
use Rattle.mast_write.specs.declared.refusals.Refusal.{Refusal}
use Rattle.mast_write.specs.declared.refusals.Refusal.TheVariants as refusal
use Rattle.mast_cli.specs.declared.judged.Judged.{Judged}
use Rattle.mast_cli.specs.declared.judged.Part.{Part}
use Rattle.mast_cli.specs.declared.judged.Part.TheVariants as part
use Rattle.mast_cli.specs.declared.specification.ReadDocuments.{ReadDocuments}
use Rattle.mast_cli.specs.declared.status.Status.{Status}
use Rattle.mast_cli.specs.declared.status.Status.TheVariants as st
use Rattle.mast_cli.specs.FirstEvent.{Trail, Then, Weighed, Weighs, fine}
use Rattle.mast_cli.specs.Limits.{status_of}
use Rattle.mast_cli.specs.Outcome.{EndsIn}
use Rattle.mast_cli.specs.Run.{IsAnswer}
use Rattle.mast_cli.specs.stage.Closures.{AreWithinLimits, LimitedStages, ViolationsEvent, limit_event}
use Rattle.mast_cli.specs.stage.Document.{Axioms, axioms_of, ConstraintsStage, MappingsStage, OntologyStage}
use Rattle.mast_cli.specs.stage.Restrictions.{Documents, DocumentsStages, Files, IsRestricted, RestrictionEvent, RestStages, SpecificationStages, read_in_turn, theory_in}
use Rattle.mast_cli.specs.inside.Causes.{HasCause, PartHasCause}
use Rattle.mast_cli.specs.inside.Readings.{AreAxiomsOf, AreFitConstraints, AreFitMappings, TellsConstraints, TellsMappings, TellsOntology}
use Rattle.mast_cli.specs.inside.Specifying.{AreDocumentsOf, AreFitRest, AreOne, IsSpecOf, TellsDocuments, TellsLimited, TellsLimits, TellsRest, TellsRestricted, TellsSpecification, documents_of}
use Rattle.mast_cli.specs.inside.Telling.{AtEvent, Ends, IfRead, JudgesIn, TellsAs, TellsBytes}
use Rattle.mast_cli.proofs.FirstEventLemmas.{HasOneEnd, one_made, one_then, one_weighed, one_weighs}
use Rattle.mast_cli.proofs.MappingsLemmas.{one_constraints, one_mappings, one_ontology, constraints_named, ontology_lawful}
use Rattle.mast_cli.proofs.PartsLemmas.{Itself, ReadsBoth, as_itself, both_read, first_ends, made_ends, next_ends, weighs_ends}

-- what holds of the contents, where they are told
pub if_told : (told : Option Contents) (P Q : Contents → Type 0) → ((c : Contents) → P c → Q c) → IfSome told P → IfSome told Q
if_told None P Q more h = tt
if_told (Some c) P Q more h = more c h

nothing_told : (told : Option Contents) → IfSome told (λ c. ⊤)
nothing_told None = tt
nothing_told (Some c) = tt

-- the constraints and then the mappings

module _ (old : Lists) (lawful : IsVocabulary old) (cs_file ms_file : List ℕ) where
  abbrev Constrained : Contents → Trail → Option Constraints → Type 0
  Constrained c = ConstraintsStage old c cs_file

  abbrev Mapped : Contents → Constraints → Trail → Option Mappings → Type 0
  Mapped c read = MappingsStage read.vocab c ms_file

  first_rest : (c : Contents) → HasOneEnd (Constrained c)
  first_rest c = one_constraints old lawful c cs_file

  next_rest : (c : Contents) (s : Trail) (x : Constraints) → Constrained c s (Some x) → HasOneEnd (Mapped c x)
  next_rest c s x h = one_mappings x.vocab (constraints_named old lawful c cs_file s x h) c ms_file

  -- they have one end
  pub one_rest : (c : Contents) → HasOneEnd (RestStages old c cs_file ms_file)
  one_rest c = one_then (Constrained c) (Mapped c) (first_rest c) (next_rest c)

  abbrev pub RestEnds : Reading → Judged → Contents → Type 0
  RestEnds reading judged c = Ends (EndsIn (RestStages old c cs_file ms_file)) (JudgesIn (RestStages old c cs_file ms_file)) reading judged

  constraints_as : (told : Option Contents) (reading : Reading) (what : Part Constraints) → IfSome told (λ c. TellsConstraints old cs_file reading c what) → IfSome told (λ c. TellsAs Itself (Constrained c) reading what)
  constraints_as told reading what h = if_told told _ _ (λ c k. as_itself (Constrained c) reading what k) h

  mappings_as : (reading : Reading) (x : Constraints) (vocab : Lists) (more : Part Mappings) → vocab ≡ x.vocab → (c : Contents) (read : Constraints) → Itself read x
      → TellsMappings vocab ms_file reading c more → TellsAs Itself (Mapped c read) reading more
  mappings_as reading x vocab more named c read is h =
      as_itself (Mapped c read) reading more (subst (λ v. TellsMappings v ms_file reading c more) (named ∙ ap (λ (k : Constraints). k.vocab) (sym is)) h)

  -- the constraints end the run
  pub constraints_end : (told : Option Contents) (reading : Reading) (what : Part Constraints) (judged : Judged) → what ≡ part.Ended judged
      → IfSome told (λ c. TellsConstraints old cs_file reading c what) → IfSome told (RestEnds reading judged)
  constraints_end told reading what judged e h =
      first_ends Constrained Mapped first_rest next_rest Itself (Itself {T = Mappings}) told reading what judged e (constraints_as told reading what h)

  -- the mappings end it
  pub mappings_end : (told later : Option Contents) (before reading : Reading) (what : Part Constraints) (x : Constraints) (vocab : Lists) (more : Part Mappings) (judged : Judged)
      → later ≡ told → vocab ≡ x.vocab → what ≡ part.Read x → more ≡ part.Ended judged
      → IfSome told (λ c. TellsConstraints old cs_file before c what) → IfSome later (λ c. TellsMappings vocab ms_file reading c more) → IfSome told (RestEnds reading judged)
  mappings_end told later before reading what x vocab more judged kept named e f h g =
      next_ends Constrained Mapped first_rest next_rest Itself Itself told later before reading what x more judged (λ c. TellsMappings vocab ms_file reading c more)
      kept e f (mappings_as reading x vocab more named) (constraints_as told before what h) g

  rest_of : (reading : Reading) (x : Constraints) (y : Mappings) (c : Contents) → ReadsBoth Constrained Mapped first_rest next_rest Itself Itself x y c → TellsRest old cs_file ms_file reading c (part.Read (x, y))
  rest_of reading x y c r =
      (r.stages, subst (λ (k : Mappings). RestStages old c cs_file ms_file r.stages (Some (x, k))) r.gives (subst (λ (k : Constraints). RestStages old c cs_file ms_file r.stages (Some (k, r.more))) r.is r.both))

  -- both are read
  pub rest_read : (told later : Option Contents) (before reading : Reading) (what : Part Constraints) (x : Constraints) (vocab : Lists) (more : Part Mappings) (y : Mappings)
      → later ≡ told → vocab ≡ x.vocab → what ≡ part.Read x → more ≡ part.Read y
      → IfSome told (λ c. TellsConstraints old cs_file before c what) → IfSome later (λ c. TellsMappings vocab ms_file reading c more)
      → IfSome told (λ c. TellsRest old cs_file ms_file reading c (part.Read (x, y)))
  rest_read told later before reading what x vocab more y kept named e f h g =
      if_told told _ _ (rest_of reading x y)
      (both_read Constrained Mapped first_rest next_rest Itself Itself told later before reading what x more y (λ c. TellsMappings vocab ms_file reading c more)
      kept e f (mappings_as reading x vocab more named) (constraints_as told before what h) g)

-- the documents of a specification

module _ (files : Files) where
  abbrev Stated : Contents → Trail → Option Axioms → Type 0
  Stated c = OntologyStage c files.ontology

  abbrev Rest : Contents → Axioms → Trail → Option (Constraints × Mappings) → Type 0
  Rest c axioms = RestStages axioms.vocab c files.constraints files.mappings

  first_documents : (c : Contents) → HasOneEnd (Stated c)
  first_documents c = one_ontology c files.ontology

  next_documents : (c : Contents) (s : Trail) (x : Axioms) → Stated c s (Some x) → HasOneEnd (Rest c x)
  next_documents c s x h = one_rest x.vocab (ontology_lawful c files.ontology s x h) files.constraints files.mappings c

  -- they have one end
  pub one_documents : (c : Contents) → HasOneEnd (DocumentsStages c files)
  one_documents c = one_made (Then (Stated c) (Rest c)) read_in_turn (one_then (Stated c) (Rest c) (first_documents c) (next_documents c))

  abbrev pub DocumentsEnd : Reading → Judged → Contents → Type 0
  DocumentsEnd reading judged c = Ends (EndsIn (DocumentsStages c files)) (JudgesIn (DocumentsStages c files)) reading judged

  rest_as : (reading : Reading) (x : Ontology) (vocab : Lists) (more : Part (Constraints × Mappings)) → vocab ≡ x.vocab → (c : Contents) (axioms : Axioms) → AreAxiomsOf axioms x
      → TellsRest vocab files.constraints files.mappings reading c more → TellsAs Itself (Rest c axioms) reading more
  rest_as reading x vocab more named c axioms is h =
      as_itself (Rest c axioms) reading more (subst (λ v. TellsRest v files.constraints files.mappings reading c more) (named ∙ ap (λ (a : Axioms). a.vocab) (sym is)) h)

  -- the ontology ends the run
  pub ontology_ends : (told : Option Contents) (reading : Reading) (what : Part Ontology) (judged : Judged) → what ≡ part.Ended judged
      → IfSome told (λ c. TellsOntology files.ontology reading c what) → IfSome told (DocumentsEnd reading judged)
  ontology_ends told reading what judged e h =
      if_told told _ _ (λ c k. made_ends read_in_turn (Then (Stated c) (Rest c)) reading judged k)
      (first_ends Stated Rest first_documents next_documents AreAxiomsOf (Itself {T = Constraints × Mappings}) told reading what judged e h)

  -- the rest ends it
  pub rest_ends : (told later : Option Contents) (before reading : Reading) (what : Part Ontology) (x : Ontology) (vocab : Lists) (more : Part (Constraints × Mappings)) (judged : Judged)
      → later ≡ told → vocab ≡ x.vocab → what ≡ part.Read x → more ≡ part.Ended judged
      → IfSome told (λ c. TellsOntology files.ontology before c what) → IfSome later (λ c. TellsRest vocab files.constraints files.mappings reading c more)
      → IfSome told (DocumentsEnd reading judged)
  rest_ends told later before reading what x vocab more judged kept named e f h g =
      if_told told _ _ (λ c k. made_ends read_in_turn (Then (Stated c) (Rest c)) reading judged k)
      (next_ends Stated Rest first_documents next_documents AreAxiomsOf Itself told later before reading what x more judged (λ c. TellsRest vocab files.constraints files.mappings reading c more)
      kept e f (rest_as reading x vocab more named) h g)

  documents_of_both : (reading : Reading) (read : ReadDocuments) (c : Contents)
      → ReadsBoth Stated Rest first_documents next_documents AreAxiomsOf Itself read.ontology (read.constraints, read.mappings) c → TellsDocuments files reading c (part.Read read)
  documents_of_both reading read c r =
      let both = subst (λ (k : Constraints × Mappings). Then (Stated c) (Rest c) r.stages (Some (axioms_of read.ontology, k))) r.gives
      (subst (λ (k : Axioms). Then (Stated c) (Rest c) r.stages (Some (k, r.more))) r.is r.both) in
      (documents_of read, refl, r.stages, (Some (axioms_of read.ontology, (read.constraints, read.mappings)), both, refl))

  -- all are read
  pub documents_read : (told later : Option Contents) (before reading : Reading) (what : Part Ontology) (read : ReadDocuments) (vocab : Lists) (more : Part (Constraints × Mappings))
      → later ≡ told → vocab ≡ read.ontology.vocab → what ≡ part.Read read.ontology → more ≡ part.Read (read.constraints, read.mappings)
      → IfSome told (λ c. TellsOntology files.ontology before c what) → IfSome later (λ c. TellsRest vocab files.constraints files.mappings reading c more)
      → IfSome told (λ c. TellsDocuments files reading c (part.Read read))
  documents_read told later before reading what read vocab more kept named e f h g =
      if_told told _ _ (documents_of_both reading read)
      (both_read Stated Rest first_documents next_documents AreAxiomsOf Itself told later before reading what read.ontology more (read.constraints, read.mappings)
      (λ c. TellsRest vocab files.constraints files.mappings reading c more) kept e f (rest_as reading read.ontology vocab more named) h g)

-- events that are no fault

-- a breach of a restriction is answered
restriction_answers : (documents : Documents) (event : Refusal) → RestrictionEvent documents event → IsAnswer (status_of event)
unfolding RestrictionEvent
restriction_answers documents event h = subst (λ e. IsAnswer (status_of e)) (sym h.2) tt

limit_answers : (above : CheckLimit) → IsAnswer (status_of (limit_event above))
limit_answers limit.Violations = tt
limit_answers (limit.Closure origin count) = tt

-- and so is a limit of violation queries
violations_answer : (documents : Documents) (event : Refusal) → ViolationsEvent documents event → IsAnswer (status_of event)
unfolding ViolationsEvent
violations_answer documents event h = subst (λ e. IsAnswer (status_of e)) (sym h.2) (limit_answers h.0)

-- the theory of the specification of documents
pub same_theory : (documents : Documents) (spec : Spec) → IsSpecOf documents spec → theory_of spec ≡ theory_in documents
same_theory documents spec is = λ i. record {
  inclusions = is.inclusions i;
  negatives = is.negatives i;
  functional = is.functional i;
  constraints = is.constraints i;
  constants = ap (λ (v : Lists). v.constants) is.vocab i;
}

-- a part, and then a stage that weighs what it read, of which a specification is made

module _ (Stages : Contents → Trail → Option Documents → Type 0) (HasEvent : Documents → Refusal → Type 0) (IsRight : Documents → Type 0)
    (one : (c : Contents) → HasOneEnd (Stages c)) (weighs : (c : Contents) (s : Trail) (x : Documents) → Stages c s (Some x) → HasOneEnd (Weighs (HasEvent x) (IsRight x)))
    (answers : (x : Documents) (event : Refusal) → HasEvent x event → IsAnswer (status_of event)) where
  abbrev Judged_ : Contents → Documents → Trail → Option ⊤ → Type 0
  Judged_ c x = Weighs (HasEvent x) (IsRight x)

  abbrev pub WeighedEnds : Reading → Judged → Contents → Type 0
  WeighedEnds reading judged c = Ends (EndsIn (Weighed (Stages c) HasEvent IsRight)) (JudgesIn (Weighed (Stages c) HasEvent IsRight)) reading judged

  made : (reading : Reading) (judged : Judged) (c : Contents)
      → Ends (EndsIn (Then (Stages c) (Judged_ c))) (JudgesIn (Then (Stages c) (Judged_ c))) reading judged → WeighedEnds reading judged c
  made reading judged c k = made_ends (λ both. both.0) (Then (Stages c) (Judged_ c)) reading judged k

  module _ {T : Type 0} (Is : Documents → T → Type 0) where
    -- the part ends the run
    pub part_ends : (told : Option Contents) (reading : Reading) (what : Part T) (judged : Judged) → what ≡ part.Ended judged
        → IfSome told (λ c. TellsAs Is (Stages c) reading what) → IfSome told (WeighedEnds reading judged)
    part_ends told reading what judged e h =
        if_told told _ _ (made reading judged) (first_ends Stages Judged_ one weighs Is (Itself {T = ⊤}) told reading what judged e h)

    -- its event ends the run
    pub stage_ends : (told : Option Contents) (reading : Reading) (what : Part T) (x : T) (judged : Judged) → what ≡ part.Read x
        → ((read : Documents) → Is read x → AtEvent (HasEvent read) judged.status judged.text.items)
        → IfSome told (λ c. TellsAs Is (Stages c) reading what) → IfSome told (WeighedEnds reading judged)
    stage_ends told reading what x judged e at h =
        if_told told _ _ (made reading judged)
        (next_ends Stages Judged_ one weighs Is (Itself {T = ⊤}) told told reading reading what x (part.Ended judged) judged (λ c. ⊤)
        refl e refl (λ c read is k. weighs_ends (HasEvent read) (IsRight read) (answers read) reading judged (at read is)) h (nothing_told told))

    -- all is right
    pub stage_read : (told : Option Contents) (reading : Reading) (what : Part T) (x : T) (spec : Spec) → what ≡ part.Read x
        → ((read : Documents) → Is read x → IsRight read × IsSpecOf read spec)
        → IfSome told (λ c. TellsAs Is (Stages c) reading what)
        → IfSome told (λ c. TellsAs IsSpecOf (Weighed (Stages c) HasEvent IsRight) reading (part.Read spec))
    stage_read told reading what x spec e right h =
        if_told told _ _ (λ c k. (k.0, (right k.0 k.1).1, k.2 ++ fine ∷ [], (Some (k.0, tt), (k.2, fine ∷ [], k.3, ((right k.0 k.1).0, refl), refl), refl)))
        (if_told told _ _ (λ c k. subst (TellsAs Is (Stages c) reading) e k) h)

-- the restrictions

module _ (documents : Documents) where
  restriction_not_both : (event : Refusal) → IsRestricted documents → RestrictionEvent documents event → ⊥
  unfolding IsRestricted RestrictionEvent
  restriction_not_both event h g = none-some g.0 ((one_breach documents.axioms.inclusions documents.axioms.functional documents.constraints.list).one None (Some g.0) h g.1)

  one_restriction_event : (e f : Refusal) → RestrictionEvent documents e → RestrictionEvent documents f → e ≡ f
  unfolding RestrictionEvent
  one_restriction_event e f h g =
      let same = same_Some h.0 g.0 ((one_breach documents.axioms.inclusions documents.axioms.functional documents.constraints.list).one (Some h.0) (Some g.0) h.1 g.1) in
      h.2 ∙ ap (λ b. refusal.Restriction b) same ∙ sym g.2

restricted_or : (documents : Documents) (o : Option RestrictionBreach) → IsRestrictionBreach documents.axioms.inclusions documents.axioms.functional documents.constraints.list o
    → IsRestricted documents ⊎ ((event : Refusal) × RestrictionEvent documents event)
unfolding IsRestricted RestrictionEvent
restricted_or documents None h = inl h
restricted_or documents (Some breach) h = inr (refusal.Restriction breach, (breach, h, refl))

-- the stage of the restrictions has one end
one_restrictions : (documents : Documents) → HasOneEnd (Weighs (RestrictionEvent documents) (IsRestricted documents))
one_restrictions documents =
    let answer = one_breach documents.axioms.inclusions documents.axioms.functional documents.constraints.list in
    one_weighs (RestrictionEvent documents) (IsRestricted documents) (restricted_or documents answer.answer answer.is) (restriction_not_both documents) (one_restriction_event documents)

-- and so have the stages of a specification
pub one_specification : (files : Files) (c : Contents) → HasOneEnd (SpecificationStages c files)
one_specification files c = one_weighed (DocumentsStages c files) RestrictionEvent IsRestricted (one_documents files c) (λ s x h. one_restrictions x)

-- the limits of violation queries

limits_or : (documents : Documents) → HasNoLimit (theory_in documents) ⊎ ((above : CheckLimit) × HasFirstLimit (theory_in documents) above)
    → AreWithinLimits documents ⊎ ((event : Refusal) × ViolationsEvent documents event)
unfolding AreWithinLimits ViolationsEvent
limits_or documents (inl h) = inl h
limits_or documents (inr h) = inr (limit_event h.0, (h.0, h.1, refl))

one_limits : (documents : Documents) → HasOneEnd (Weighs (ViolationsEvent documents) (AreWithinLimits documents))
unfolding AreWithinLimits ViolationsEvent
one_limits documents =
    one_weighs (ViolationsEvent documents) (AreWithinLimits documents) (limits_or documents (some_limit (theory_in documents)))
    (λ event h g. not_both (theory_in documents) g.0 h g.1)
    (λ e f h g. h.2 ∙ ap limit_event (one_limit (theory_in documents) h.0 g.0 h.1 g.1) ∙ sym g.2)

-- a specification of documents that meets no limit
within_limits : (documents : Documents) (spec : Spec) → IsSpecOf documents spec → MeetsNoLimit spec → AreWithinLimits documents
unfolding AreWithinLimits
within_limits documents spec is h = subst HasNoLimit (same_theory documents spec is) h

-- the event of its first limit
limit_in : (documents : Documents) (spec : Spec) (above : CheckLimit) (event : Refusal) → IsSpecOf documents spec → IsFirstLimit spec above → event ≡ limit_event above → ViolationsEvent documents event
unfolding ViolationsEvent
limit_in documents spec above event is h e = (above, subst (λ t. HasFirstLimit t above) (same_theory documents spec is) h, e)

-- the stages up to these have one end
pub one_limited : (files : Files) (c : Contents) → HasOneEnd (LimitedStages c files)
one_limited files c = one_weighed (SpecificationStages c files) ViolationsEvent AreWithinLimits (one_specification files c) (λ s x h. one_limits x)

-- what the code tells

module _ (files : Files) (told : Option Contents) where
  -- the documents end the run
  pub documents_ended : (reading : Reading) (what : Part ReadDocuments) (judged : Judged) → what ≡ part.Ended judged
      → IfSome told (λ c. TellsDocuments files reading c what) → IfSome told (λ c. TellsSpecification files reading c (part.Ended judged))
  documents_ended reading what judged e h =
      part_ends (λ c. DocumentsStages c files) RestrictionEvent IsRestricted (one_documents files) (λ c s x k. one_restrictions x) restriction_answers AreDocumentsOf told reading what judged e h

  restricted_part : (reading : Reading) (first : Part ReadDocuments) (read : ReadDocuments) (what : Part Spec) → first ≡ part.Read read → TellsRestricted (documents_of read) what
      → IfSome told (λ c. TellsDocuments files reading c first) → IfSome told (λ c. TellsSpecification files reading c what)
  restricted_part reading first read (part.Read spec) e h g =
      stage_read (λ c. DocumentsStages c files) RestrictionEvent IsRestricted (one_documents files) (λ c s x k. one_restrictions x) restriction_answers AreDocumentsOf told reading first read spec e
      (λ d is. (subst IsRestricted (sym is) h.0, subst (λ k. IsSpecOf k spec) (sym is) h.1)) g
  restricted_part reading first read (part.Ended judged) e h g =
      stage_ends (λ c. DocumentsStages c files) RestrictionEvent IsRestricted (one_documents files) (λ c s x k. one_restrictions x) restriction_answers AreDocumentsOf told reading first read judged e
      (λ d is. subst (λ k. AtEvent (RestrictionEvent k) judged.status judged.text.items) (sym is) h) g

  -- what is told of the restrictions of documents is told of the specification
  pub restricted_told : (reading : Reading) (first : Part ReadDocuments) (read : ReadDocuments) (r : Result (Part Spec) NoMemory) → first ≡ part.Read read
      → IfOk r (TellsRestricted (documents_of read)) → IfSome told (λ c. TellsDocuments files reading c first)
      → IfOk r (λ what. IfSome told (λ c. TellsSpecification files reading c what))
  restricted_told reading first read (Err none) e h g = tt
  restricted_told reading first read (Ok what) e h g = restricted_part reading first read what e h g

  -- the specification ends the run
  pub specification_ended : (reading : Reading) (what : Part Spec) (judged : Judged) → what ≡ part.Ended judged
      → IfSome told (λ c. TellsSpecification files reading c what) → IfSome told (λ c. TellsLimited files reading c (part.Ended judged))
  specification_ended reading what judged e h =
      part_ends (λ c. SpecificationStages c files) ViolationsEvent AreWithinLimits (one_specification files) (λ c s x k. one_limits x) violations_answer IsSpecOf told reading what judged e h

  limited_part : (reading : Reading) (first : Part Spec) (spec : Spec) (what : Part Spec) → first ≡ part.Read spec → TellsLimits spec what
      → IfSome told (λ c. TellsSpecification files reading c first) → IfSome told (λ c. TellsLimited files reading c what)
  limited_part reading first spec (part.Read same) e h g =
      stage_read (λ c. SpecificationStages c files) ViolationsEvent AreWithinLimits (one_specification files) (λ c s x k. one_limits x) violations_answer IsSpecOf told reading first spec same e
      (λ d is. (within_limits d spec is h.1, subst (IsSpecOf d) (sym h.0) is)) g
  limited_part reading first spec (part.Ended judged) e h g =
      stage_ends (λ c. SpecificationStages c files) ViolationsEvent AreWithinLimits (one_specification files) (λ c s x k. one_limits x) violations_answer IsSpecOf told reading first spec judged e
      (λ d is. (h.0, limit_in d spec h.1.0 h.0 is h.1.1 h.1.2, h.2)) g

  -- what is told of the limits of a specification is told of the stages up to these
  pub limited_told : (reading : Reading) (first : Part Spec) (spec : Spec) (r : Result (Part Spec) NoMemory) → first ≡ part.Read spec
      → IfOk r (TellsLimits spec) → IfSome told (λ c. TellsSpecification files reading c first)
      → IfOk r (λ what. IfSome told (λ c. TellsLimited files reading c what))
  limited_told reading first spec (Err none) e h g = tt
  limited_told reading first spec (Ok what) e h g = limited_part reading first spec what e h g

-- the causes of what the code tells

-- an answer is no fault
answer_cause : (before now : ℕ) (reading : Reading) (status : Status) (text : List ℕ) → IsAnswer status → now ≡ before → HasCause before now reading status text
answer_cause before now reading st.Done text a e = e
answer_cause before now reading st.Usage text a e = e
answer_cause before now reading st.Refused text a e = e
answer_cause before now reading st.Conflict text a e = e
answer_cause before now reading st.Limit text a e = e
answer_cause before now reading st.ReadFault text a e = absurd a
answer_cause before now reading st.WriteFault text a e = absurd a
answer_cause before now reading st.NoMemory text a e = absurd a

module _ {T : Type 0} (Has : T → Type 0) (HasEvent : Refusal → Type 0) (answers : (event : Refusal) → HasEvent event → IsAnswer (status_of event)) (before now : ℕ) (reading : Reading) where
  -- nor is what a part that goes over bytes tells
  bytes_cause : (r : Result (Part T) NoMemory) → IfOk r (TellsBytes Has HasEvent) → now ≡ before → IfOk r (PartHasCause before now reading)
  bytes_cause (Err none) h e = tt
  bytes_cause (Ok (part.Read x)) h e = e
  bytes_cause (Ok (part.Ended judged)) h e = answer_cause before now reading judged.status judged.text.items (subst IsAnswer (sym h.2.0) (answers h.0 h.1)) e

-- nor a breach of a restriction
pub restricted_cause : (documents : Documents) (before now : ℕ) (reading : Reading) (r : Result (Part Spec) NoMemory) → IfOk r (TellsRestricted documents) → now ≡ before → IfOk r (PartHasCause before now reading)
restricted_cause documents before now reading r h e =
    bytes_cause (λ (spec : Spec). IsRestricted documents × IsSpecOf documents spec) (RestrictionEvent documents) (restriction_answers documents) before now reading r h e

-- nor a limit
pub limits_cause : (spec : Spec) (before now : ℕ) (reading : Reading) (r : Result (Part Spec) NoMemory) → IfOk r (TellsLimits spec) → now ≡ before → IfOk r (PartHasCause before now reading)
limits_cause spec before now reading r h e =
    bytes_cause (λ (same : Spec). (same ≡ spec) × MeetsNoLimit spec) (λ event. (above : CheckLimit) × IsFirstLimit spec above × (event ≡ limit_event above))
    (λ event k. subst (λ f. IsAnswer (status_of f)) (sym k.2) (limit_answers k.0)) before now reading r h e

-- a specification that was read meets no limit
pub limits_met : (spec : Spec) (r : Result (Part Spec) NoMemory) → IfOk r (TellsLimits spec) → IfOk r (IfRead MeetsNoLimit)
limits_met spec (Err none) h = tt
limits_met spec (Ok (part.Read same)) h = subst MeetsNoLimit (sym h.0) h.1
limits_met spec (Ok (part.Ended judged)) h = tt

-- the specification that was made is that of the documents
pub is_spec_of : (read : ReadDocuments) (spec : Spec) → spec.vocab ≡ read.mappings.vocab → spec.tbox ≡ read.ontology.tbox → spec.constraints ≡ read.constraints.list
    → spec.tables ≡ read.mappings.tables → spec.maps ≡ split_maps read.mappings.maps → IsSpecOf (documents_of read) spec
is_spec_of read spec vocab axioms constraints tables maps = record {
  vocab = vocab;
  inclusions = ap (λ (t : TBox). t.inclusions) axioms;
  negatives = ap (λ (t : TBox). t.negatives) axioms;
  functional = ap (λ (t : TBox). t.functional) axioms;
  constraints = constraints;
  tables = tables;
  maps = maps;
}

-- the constraints and the mappings are fit for a specification
pub rest_fit : (old vocab : Lists) (what : Part Constraints) (more : Part Mappings) (x : Constraints) (y : Mappings) → vocab ≡ x.vocab → what ≡ part.Read x → more ≡ part.Read y
    → IfRead (AreFitConstraints old) what → IfRead (AreFitMappings vocab) more → AreFitRest old (x, y)
rest_fit old vocab what more x y named e f h g =
    (subst (IfRead (AreFitConstraints old)) e h, subst (λ v. AreFitMappings v y) named (subst (IfRead (AreFitMappings vocab)) f g))

-- the documents are one specification
pub are_one : (read : ReadDocuments) (vocab : Lists) (what : Part Ontology) (more : Part (Constraints × Mappings)) → vocab ≡ read.ontology.vocab → what ≡ part.Read read.ontology
    → more ≡ part.Read (read.constraints, read.mappings) → IfRead HasNames what → IfRead (AreFitRest vocab) more → AreOne read
are_one read vocab what more named e f h g =
    let names = subst (IfRead HasNames) e h in
    let rest = subst (λ v. AreFitRest v (read.constraints, read.mappings)) named (subst (IfRead (AreFitRest vocab)) f g) in
    record {
      first = rest.0.begins;
      second = rest.1.begins;
      axioms = names;
      names = rest.0.kept.names;
      formed = rest.0.kept.formed;
      numbered = rest.0.numbered;
      maps = rest.1.maps;
    }
