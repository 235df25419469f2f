-- The documents of a run are one specification, and what they say makes one.
use Rattle.std.proofs.Common.{◌≡◌, ◌<◌, ◌≤◌, ◌++◌, ℕ, List, Option, Some, None, length, subst, sym, ap, refl, arith}
use Rattle.std.specs.Prelude.{⊤, option_map}
use Rattle.std.proofs.lemmas.Option.{same_Some}
use Rattle.mast_canon.specs.declared.spec.Spec.{Spec}
use Rattle.mast_canon.specs.Conditions.{places}
use Rattle.mast_canon.proofs.MakingLemmas.{made_axioms, made_constraints, made_maps, made_numbers, made_over}
use Rattle.mast_constr.proofs.KeptLemmas.{has_begins, has_kept}
use Rattle.mast_files.specs.Outside.{Contents}
use Rattle.mast_mapping.specs.declared.map.Mappings.{Mappings}
use Rattle.mast_mapping.specs.Documents.{HasMappings, inside_judged}
use Rattle.mast_mapping.specs.Split.{split_maps}
use Rattle.mast_mapping.proofs.WholeLemmas.{says_begins, says_names, says_over}
use Rattle.mast_onto.proofs.KnownLemmas.{ontology_known}
use Rattle.mast_tbox.specs.declared.constraint.Constraints.{Constraints}
use Rattle.mast_tbox.specs.Inclusions.{normal}
use Rattle.mast_tbox.specs.Lists.{items}
use Rattle.mast_terms.specs.Vocabularies.{IsVocabulary, Lists}
use Rattle.mast_tree.specs.declared.document.DocName.{DocName}
use Rattle.mast_tree.specs.declared.document.DocName.TheVariants as doc
use Rattle.mast_tree.specs.Growing.{Begins}
use Rattle.mast_tree.specs.Judged.{after_judged}
use Rattle.mast_tree.specs.Seen.{Document}
use Rattle.mast_tree.proofs.VocabularyLemmas.{after_lawful}
use Rattle.mast_cli.specs.declared.specification.ReadDocuments.{ReadDocuments}
use Rattle.mast_write.specs.declared.refusals.Refusal.{Refusal}
use Rattle.mast_cli.specs.FirstEvent.{Trail, Then, Weighed, Weighs}
use Rattle.mast_cli.specs.Limits.{document_bytes}
use Rattle.mast_cli.specs.stage.Closures.{AreWithinLimits, LimitedStages, ViolationsEvent}
use Rattle.mast_cli.specs.stage.Document.{Axioms, ConstraintsStage, IsDocumentOf, MappingsStage, OntologyStage, nothing_named}
use Rattle.mast_cli.specs.stage.Restrictions.{Documents, DocumentsStages, Files, IsRestricted, RestrictionEvent, RestStages, SpecificationStages, read_in_turn}
use Rattle.mast_cli.specs.inside.Specifying.{AreOne, IsSpecOf, documents_of}
use Rattle.mast_cli.proofs.MappingsLemmas.{constraints_named, ontology_lawful}
use Rattle.mast_cli.proofs.SizeLemmas.{constraints_numbered, have_numbers}
use Rattle.mast_cli.proofs.TokensLemmas.{tokens_few}

-- documents that are one specification, over the names of a vocabulary
record AreRead (documents : Documents) : Type 0 where
  read : ReadDocuments
  is : documents ≡ documents_of read
  one : AreOne read
  lawful : IsVocabulary documents.mappings.vocab

-- a document within its limit has few tokens
few_tokens : (name : DocName) (content : List ℕ) (document : Document) → length content ≤ document_bytes name → IsDocumentOf content document → length document.tokens < places
few_tokens doc.Ontology content document within is = let few = tokens_few content document.tokens is.tokens in omega (few, within, arith)
few_tokens doc.Constraints content document within is = let few = tokens_few content document.tokens is.tokens in omega (few, within, arith)
few_tokens doc.Mappings content document within is = let few = tokens_few content document.tokens is.tokens in omega (few, within, arith)

-- mappings over lawful names have lawful names
mappings_lawful : (document : Document) (old : Lists) (m : Mappings) → IsVocabulary old → HasMappings document old m → IsVocabulary m.vocab
mappings_lawful document old m lawful h =
    let says = h.2 in
    subst IsVocabulary (sym says.right.then)
    (after_lawful old (inside_judged h.0 document says.prefixes says.inside ++ after_judged document says.after) lawful says.right.none)

-- the three documents

module _ (contents : Contents) (files : Files) (axioms : Axioms) (cs : Constraints) (ms : Mappings) where
  are_read : (before b a : Trail) → OntologyStage contents files.ontology before (Some axioms) → ConstraintsStage axioms.vocab contents files.constraints b (Some cs)
      → MappingsStage cs.vocab contents files.mappings a (Some ms) → AreRead (record { axioms = axioms; constraints = cs; mappings = ms })
  unfolding OntologyStage ConstraintsStage MappingsStage
  are_read before b a h k l =
      let says = h.0.1.2 in
      let c = k.0.1.2 in
      let m = l.0.1.2 in
      let ontology_few = few_tokens doc.Ontology (contents files.ontology) h.0.1.0 h.0.0 h.0.1.1 in
      let constraints_few = few_tokens doc.Constraints (contents files.constraints) k.0.1.0 k.0.0 k.0.1.1 in
      let mappings_few = few_tokens doc.Mappings (contents files.mappings) l.0.1.0 l.0.0 l.0.1.1 in
      let kept = has_kept c.0 k.0.1.0 axioms.vocab cs c.2 in
      let numbers = have_numbers l.0.1.0 cs.vocab ms l.0.1.1.tree mappings_few m in
      let named = ontology_lawful contents files.ontology before axioms h in
      let lawful = constraints_named axioms.vocab named contents files.constraints b cs k in
      record {
        read = record { ontology = says.0; constraints = cs; mappings = ms };
        is = ap (λ (x : Axioms). record { axioms = x; constraints = cs; mappings = ms }) says.2;
        one = record {
          first = subst (λ (x : Axioms). Begins cs.vocab x.vocab) says.2 (has_begins c.0 k.0.1.0 axioms.vocab cs.vocab cs.list c.2);
          second = says_begins m.0 l.0.1.0 cs.vocab ms m.2;
          axioms = ontology_known h.0.1.0 nothing_named says.0 says.1;
          names = kept.names;
          formed = kept.formed;
          numbered = constraints_numbered k.0.1.0 axioms.vocab cs k.0.1.1.tree constraints_few c;
          maps = record {
            names = says_names m.0 l.0.1.0 cs.vocab ms m.2;
            over = says_over m.0 l.0.1.0 cs.vocab ms m.2;
            tables = numbers.0;
            heads = numbers.1;
          };
        };
        lawful = mappings_lawful l.0.1.0 cs.vocab ms lawful m;
      }

module _ (contents : Contents) (files : Files) where
  in_turn : (stages : Trail) (documents : Documents) (end : Option (Axioms × (Constraints × Mappings)))
      → Then (OntologyStage contents files.ontology) (λ axioms. RestStages axioms.vocab contents files.constraints files.mappings) stages end
      → Some documents ≡ option_map read_in_turn end → AreRead documents
  in_turn stages documents None h e = absurd (cc)
  in_turn stages documents (Some r) h e =
      let same = same_Some documents (read_in_turn r) e in
      subst AreRead (sym same) (are_read contents files r.0 r.1.0 r.1.1 h.0 h.3.0 h.3.1 h.2 h.3.2 h.3.3)

  all_read : (stages : Trail) (documents : Documents) → DocumentsStages contents files stages (Some documents) → AreRead documents
  all_read stages documents h = in_turn stages documents h.0 h.1 h.2

-- the specification

-- a specification of the documents, over the names of a vocabulary
pub record IsMade (documents : Documents) : Type 0 where
  pub spec : Spec
  pub is : IsSpecOf documents spec
  pub lawful : IsVocabulary spec.vocab

made_of : (read : ReadDocuments) → AreOne read → IsRestricted (documents_of read) → Spec
unfolding IsRestricted
made_of read one restricted = record {
  vocab = read.mappings.vocab;
  tbox = read.ontology.tbox;
  normal = normal (items read.ontology.tbox.inclusions);
  constraints = read.constraints.list;
  tables = read.mappings.tables;
  maps = split_maps read.mappings.maps;
  axioms_in_range = made_axioms read.ontology read.constraints read.mappings one;
  constraints_in_range = made_constraints read.ontology read.constraints read.mappings one;
  maps_in_range = made_maps read.mappings (split_maps read.mappings.maps) one.maps refl;
  formed = ∣ one.formed ∣₁;
  over_tables = made_over read.mappings (split_maps read.mappings.maps) one.maps refl;
  is_normal = refl;
  unbreached = ∣ restricted ∣₁;
  tables_numbered = ∣ one.maps.tables ∣₁;
  constraints_numbered = one.numbered;
  maps_numbered = made_numbers read.mappings (split_maps read.mappings.maps) one.maps refl;
}

is_made : (documents : Documents) → AreRead documents → IsRestricted documents → IsMade documents
unfolding made_of
is_made documents w restricted = record {
  spec = made_of w.read w.one (subst IsRestricted w.is restricted);
  is = subst (λ d. IsSpecOf d (made_of w.read w.one (subst IsRestricted w.is restricted))) (sym w.is)
      (record { vocab = refl; inclusions = refl; negatives = refl; functional = refl; constraints = refl; tables = refl; maps = refl });
  lawful = subst (λ d. IsVocabulary d.mappings.vocab) w.is w.lawful;
}

-- what a part read, and a stage that weighs it found right

module _ {A : Type 0} (P : Trail → Option A → Type 0) (HasEvent : A → Refusal → Type 0) (IsRight : A → Type 0) (stages : Trail) (x : A) where
  weighed_end : (end : Option (A × ⊤)) → Then P (λ read. Weighs (HasEvent read) (IsRight read)) stages end → Some x ≡ option_map (λ both. both.0) end
      → (s : Trail) × P s (Some x) × IsRight x
  weighed_end None k e = absurd (cc)
  weighed_end (Some both) k e =
      let same : x ≡ both.0 = same_Some x both.0 e in
      subst (λ y. (s : Trail) × P s (Some y) × IsRight y) (sym same) (k.0, k.2, k.3.0)

  weighed_read : Weighed P HasEvent IsRight stages (Some x) → (s : Trail) × P s (Some x) × IsRight x
  weighed_read h = weighed_end h.0 h.1 h.2

-- the documents of a run that meets no limit make a specification
pub documents_made : (contents : Contents) (files : Files) (stages : Trail) (documents : Documents) → LimitedStages contents files stages (Some documents) → IsMade documents
documents_made contents files stages documents h =
    let limited = weighed_read (SpecificationStages contents files) ViolationsEvent AreWithinLimits stages documents h in
    let restricted = weighed_read (DocumentsStages contents files) RestrictionEvent IsRestricted limited.0 documents limited.1 in
    is_made documents (all_read contents files restricted.0 documents restricted.1) restricted.2
