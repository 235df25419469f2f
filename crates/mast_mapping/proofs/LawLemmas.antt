-- A document has mappings or a first breach, not both, and only one.
use Rattle.std.proofs.Common.{◌≡◌, ◌⊎◌, inl, inr, ap, sym, ◌∙◌, subst, List, [], ◌++◌}
use Rattle.std.specs.Prelude.{Result, Ok, Err, ⊤}
use Rattle.mast_terms.specs.Answers.{Answers}
use Rattle.mast_terms.specs.declared.memory.Stop.{Stop}
use Rattle.mast_terms.specs.declared.memory.Stop.TheVariants as stop
use Rattle.mast_terms.specs.Vocabularies.{Lists, IsVocabulary}
use Rattle.mast_tree.specs.declared.item.Item.{Item}
use Rattle.mast_tree.specs.declared.shape.ShapeBreach.{ShapeBreach}
use Rattle.mast_tree.specs.Growing.{Begins}
use Rattle.mast_tree.specs.Judged.{after_judged, Judging, IsRight, IsFirstBreach}
use Rattle.mast_tree.specs.Judgements.{Judgement, after}
use Rattle.mast_tree.specs.Seen.{Document}
use Rattle.mast_tree.proofs.GrowingLemmas.{after_begins}
use Rattle.mast_tree.proofs.JudgementLemmas.{after-append}
use Rattle.mast_tree.proofs.JudgedLemmas.{one_prefixes, one_inside, right_or_breach, right_not_breach, one_first_breach, one_vocabulary}
use Rattle.mast_mapping.specs.declared.map.Mappings.{Mappings}
use Rattle.mast_mapping.specs.Documents.{ItemsSay, inside_judged, main_word, SaysMappings, BreaksFirst, AnswersMappings, HasMappings, IsMappingsBreach, HasOneMeaning}
use Rattle.mast_mapping.specs.Readings.{Texts, AreTexts}
use Rattle.mast_mapping.proofs.OneLemmas.{one_said}
use Rattle.mast_mapping.proofs.TextLemmas.{the_texts, are_texts, one_texts}
use Rattle.mast_mapping.proofs.ThereLemmas.{none_in, items_there}
use Rattle.mast_tree.proofs.VocabularyLemmas.{after_lawful}

-- what is answered by what each text is, is answered of the document
pub has_answer : (doc : Document) (old : Lists) (answer : Result Mappings (Stop ShapeBreach))
    → ((texts : Texts) → AreTexts texts → AnswersMappings texts doc old answer) → Answers answer (HasMappings doc old) (IsMappingsBreach doc old)
has_answer doc old (Ok m) h = (the_texts, are_texts, h the_texts are_texts)
has_answer doc old (Err (stop.Named b)) h = (the_texts, are_texts, h the_texts are_texts)
has_answer doc old (Err stop.NoMemory) h = tt

module _ (doc : Document) (old : Lists) where
  says_something : (new : Lists) (r : IsRight doc main_word (inside_judged the_texts doc) old new (λ x y. ⊤)) → (m : Mappings) × SaysMappings the_texts doc old m
  says_something new r =
      let inner : List Judgement = inside_judged the_texts doc r.prefixes r.inside in
      let outer : List Judgement = after_judged doc r.after in
      let none = none_in old inner outer r.right.none in
      let said = items_there the_texts doc r.prefixes r.inside old [] none.0 in
      let begins : Begins new (after old inner) = subst (λ x. Begins x (after old inner)) (sym (after-append old inner outer) ∙ sym r.right.then) (after_begins (after old inner) outer) in (
        record { vocab = new; tables = said.0.0; maps = said.0.1 },
        record { prefixes = r.prefixes; inside = r.inside; after = r.after; parts = r.parts; right = r.right; gives = said.1 new begins },
      )

  some_meaning : ((new : Lists) × IsRight doc main_word (inside_judged the_texts doc) old new (λ x y. ⊤)) ⊎ ((breach : ShapeBreach) × IsFirstBreach doc main_word (inside_judged the_texts doc) old breach)
      → ((m : Mappings) × HasMappings doc old m) ⊎ ((breach : ShapeBreach) × IsMappingsBreach doc old breach)
  some_meaning (inl r) = let m = says_something r.0 r.1 in inl (m.0, (the_texts, are_texts, m.1))
  some_meaning (inr b) = inr (b.0, (the_texts, are_texts, b.1))

  not_two : (m : Mappings) (breach : ShapeBreach) → HasMappings doc old m → IsMappingsBreach doc old breach → ⊥
  not_two m breach h k =
      right_not_breach doc main_word (inside_judged k.0 doc) old m.vocab (λ p i. ItemsSay m.vocab k.0 doc p [] i m.tables m.maps) breach
      (subst (λ t. SaysMappings t doc old m) (one_texts h.0 k.0 h.1 k.1) h.2) k.2

  same_mappings : (a b : Mappings) → a.vocab ≡ b.vocab → a.tables ≡ b.tables → a.maps ≡ b.maps → a ≡ b
  same_mappings a b v t m = λ i. record { vocab = v i; tables = t i; maps = m i }

  one_by_texts : (texts : Texts) (a b : Mappings) → IsVocabulary old → SaysMappings texts doc old a → SaysMappings texts doc old b → a ≡ b
  one_by_texts texts a b lawful x y =
      let judged : Judging = inside_judged texts doc in
      let v : a.vocab ≡ b.vocab = one_vocabulary doc main_word judged old a.vocab b.vocab (λ p i. ItemsSay a.vocab texts doc p [] i a.tables a.maps) (λ p i. ItemsSay b.vocab texts doc p [] i b.tables b.maps) x y in
      let p : x.prefixes ≡ y.prefixes = one_prefixes doc main_word x.prefixes y.prefixes x.inside y.inside x.after y.after x.parts y.parts in
      let i : x.inside ≡ y.inside = ap (λ (z : List Item × List Item). z.0) (one_inside doc main_word x.prefixes y.prefixes x.inside y.inside x.after y.after x.parts y.parts) in
      let moved : ItemsSay b.vocab texts doc y.prefixes [] y.inside a.tables a.maps =
      subst (λ z. ItemsSay b.vocab texts doc y.prefixes [] z a.tables a.maps) i
      (subst (λ z. ItemsSay b.vocab texts doc z [] x.inside a.tables a.maps) p
      (subst (λ z. ItemsSay z texts doc x.prefixes [] x.inside a.tables a.maps) v x.gives)) in
      let whole : List Judgement = judged y.prefixes y.inside ++ after_judged doc y.after in
      let kept : IsVocabulary b.vocab = subst IsVocabulary (sym y.right.then) (after_lawful old whole lawful y.right.none) in
      let one = one_said b.vocab kept texts doc y.prefixes y.inside [] a.tables b.tables a.maps b.maps moved y.gives in
      same_mappings a b v one.0 one.1

  one_of_each : (a b : Mappings) → IsVocabulary old → HasMappings doc old a → HasMappings doc old b → a ≡ b
  one_of_each a b lawful h k = one_by_texts k.0 a b lawful (subst (λ t. SaysMappings t doc old a) (one_texts h.0 k.0 h.1 k.1) h.2) k.2

  one_breach_alone : (a b : ShapeBreach) → IsMappingsBreach doc old a → IsMappingsBreach doc old b → a ≡ b
  one_breach_alone a b h k =
      one_first_breach doc main_word (inside_judged k.0 doc) old a b (subst (λ t. BreaksFirst t doc old a) (one_texts h.0 k.0 h.1 k.1) h.2) k.2

  -- a document over a lawful vocabulary has one meaning
  pub has_one_meaning : IsVocabulary old → HasOneMeaning doc old
  has_one_meaning lawful = record {
    either = some_meaning (right_or_breach doc main_word (inside_judged the_texts doc) old);
    not_both = not_two;
    one_meaning = λ a b h k. one_of_each a b lawful h k;
    one_breach = one_breach_alone;
  }
