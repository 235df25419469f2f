-- A document has an ontology or a first breach, not both, and only one of it.
use Rattle.std.proofs.Common.{◌≡◌, ◌⊎◌, inl, inr, refl, sym, ◌∙◌, subst, ℕ, ◌+◌, ◌<◌, ◌≤◌, List, [], ◌∷◌, ◌++◌, length, append_assoc, Option, arith}
use Rattle.std.specs.Prelude.{None, Some}
use Rattle.std.specs.List.{flat_map}
use Rattle.std.proofs.lemmas.Bool.Decides.{leb_tells}
use Rattle.std.proofs.lemmas.List.{length-append}
use Rattle.mast_terms.specs.Vocabularies.{Lists, IsVocabulary}
use Rattle.mast_tbox.specs.declared.axiom.Lined.{Lined}
use Rattle.mast_tbox.specs.Lists.{AreEach}
use Rattle.mast_tree.specs.declared.item.Item.{Item}
use Rattle.mast_tree.specs.declared.shape.ShapeBreach.{ShapeBreach}
use Rattle.mast_tree.specs.Judged.{after_judged}
use Rattle.mast_tree.specs.Judgements.{Judgement, after, first_breach, AreRight}
use Rattle.mast_tree.specs.Said.{line}
use Rattle.mast_tree.proofs.GrowingLemmas.{right_begins}
use Rattle.mast_tree.proofs.JudgementLemmas.{after-append, right_parts}
use Rattle.mast_tree.specs.Pages.{Page, says}
use Rattle.mast_expressions.proofs.FoundLemmas.{none_parts}
use Rattle.mast_tree.proofs.VocabularyLemmas.{after_lawful}
use Rattle.mast_onto.specs.Axioms.{axiom_judged}
use Rattle.mast_onto.specs.Lists.{together}
use Rattle.mast_onto.specs.Ontologies.{IsStated, items_at}
use Rattle.mast_onto.specs.declared.statement.Statement.{Statement}
use Rattle.mast_onto.specs.declared.statements.TheConstants.{MOST_ITEMS}
use Rattle.mast_onto.specs.inside.Stating.{IsBreachFrom}
use Rattle.mast_onto.proofs.FoundAxiomLemmas.{stated_found}
use Rattle.mast_onto.proofs.KeptLemmas.{stated_kept}
use Rattle.mast_onto.proofs.OneAxiomLemmas.{stated_one}

-- axioms behind which so many items are stated are right, and what follows them
pub record RightFrom (page : Page) (now : Lists) (count : ℕ) (items behind : List Item) (new : Lists) (of_each : List (List (Lined Statement))) : Type 0 where
  pub right : AreRight now (flat_map (axiom_judged page) items ++ after_judged page.doc behind) new
  pub states : AreEach (IsStated page new) items of_each
  pub few : count + length (together of_each) ≤ MOST_ITEMS

-- the vocabulary after what is right
pub then_vocabulary : (old new : Lists) (js : List Judgement) → IsVocabulary old → AreRight old js new → IsVocabulary new
then_vocabulary old new js v h = subst IsVocabulary (sym h.then) (after_lawful old js v h.none)

right_after : (old : Lists) (js : List Judgement) → first_breach old js ≡ None → AreRight old js (after old js)
right_after old js h = record { none = h; then = refl }

-- a count is within a bound or beyond it
within_or : (m n : ℕ) → (m ≤ n) ⊎ (n < m)
within_or m n = elim (leb_tells m n) [ inl p ↦ inl p.1 | inr p ↦ inr p.1 ]

-- what is right in two parts
pub split_right : (old new : Lists) (first second : List Judgement) → AreRight old (first ++ second) new → AreRight old first (after old first) × AreRight (after old first) second new
split_right old new first second h =
    let parts = none_parts old first second h.none in
    (right_after old first parts.0, record { none = parts.1; then = h.then ∙ after-append old first second })

-- the first axiom, the others and what follows
next_right : (page : Page) (now mid new : Lists) (item : Item) (items behind : List Item) → AreRight now (axiom_judged page item) mid
    → AreRight mid (flat_map (axiom_judged page) items ++ after_judged page.doc behind) new → AreRight now (flat_map (axiom_judged page) (item ∷ items) ++ after_judged page.doc behind) new
next_right page now mid new item items behind h g =
    subst (λ js. AreRight now js new) (sym (append_assoc (axiom_judged page item) (flat_map (axiom_judged page) items) (after_judged page.doc behind)))
    (right_parts now mid new (axiom_judged page item) (flat_map (axiom_judged page) items ++ after_judged page.doc behind) h g)

split_next : (page : Page) (now new : Lists) (item : Item) (items behind : List Item) → AreRight now (flat_map (axiom_judged page) (item ∷ items) ++ after_judged page.doc behind) new
    → AreRight now (axiom_judged page item) (after now (axiom_judged page item)) × AreRight (after now (axiom_judged page item)) (flat_map (axiom_judged page) items ++ after_judged page.doc behind) new
split_next page now new item items behind h =
    split_right now new (axiom_judged page item) (flat_map (axiom_judged page) items ++ after_judged page.doc behind)
    (subst (λ js. AreRight now js new) (append_assoc (axiom_judged page item) (flat_map (axiom_judged page) items) (after_judged page.doc behind)) h)

-- what is right, or its first breach
abbrev pub RightOr : Page → Lists → ℕ → List Item → List Item → Type 0
RightOr page now count items behind =
    ((new : Lists) × (of_each : List (List (Lined Statement))) × RightFrom page now count items behind new of_each) ⊎ ((breach : ShapeBreach) × IsBreachFrom page now count items behind breach)

end_or : (page : Page) (now : Lists) (count : ℕ) (behind : List Item) (first : Option ShapeBreach) → count ≤ MOST_ITEMS → first_breach now (after_judged page.doc behind) ≡ first → RightOr page now count [] behind
end_or page now count behind None few e = inl (after now (after_judged page.doc behind), [], record { right = right_after now (after_judged page.doc behind) e; states = tt; few = omega arith })
end_or page now count behind (Some breach) few e = inr (breach, e)

more_few : (count : ℕ) (more : List (Lined Statement)) (of_each : List (List (Lined Statement))) → count + length more + length (together of_each) ≤ MOST_ITEMS → count + length (together (more ∷ of_each)) ≤ MOST_ITEMS
more_few count more of_each h = let l : length (together (more ∷ of_each)) ≡ length more + length (together of_each) = length-append more (together of_each) in omega arith

-- what is few with the first axiom's items is few with those of the others
pub less_few : (count : ℕ) (more : List (Lined Statement)) (of_each : List (List (Lined Statement))) → count + length (together (more ∷ of_each)) ≤ MOST_ITEMS → count + length more + length (together of_each) ≤ MOST_ITEMS
less_few count more of_each h = let l : length (together (more ∷ of_each)) ≡ length more + length (together of_each) = length-append more (together of_each) in omega arith

next_or : (page : Page) (now : Lists) (count : ℕ) (item : Item) (items behind : List Item) (more : List (Lined Statement))
    → first_breach now (axiom_judged page item) ≡ None → IsStated page (after now (axiom_judged page item)) item more → count + length more ≤ MOST_ITEMS
    → RightOr page (after now (axiom_judged page item)) (count + length more) items behind → RightOr page now count (item ∷ items) behind
next_or page now count item items behind more e states few (inl r) =
    inl (
      r.0,
      more ∷ r.1,
      record {
        right = next_right page now (after now (axiom_judged page item)) r.0 item items behind (right_after now (axiom_judged page item) e) r.2.right;
        states = (stated_kept page r.0 (after now (axiom_judged page item)) item more (right_begins (after now (axiom_judged page item)) r.0 (flat_map (axiom_judged page) items ++ after_judged page.doc behind) r.2.right) states, r.2.states);
        few = more_few count more r.1 r.2.few;
      },
    )
next_or page now count item items behind more e states few (inr b) =
    inr (b.0, inr (after now (axiom_judged page item), more, right_after now (axiom_judged page item) e, states, inr (few, b.1)))

-- the first axiom is right, and the count with it is within the limit or beyond
counted_or : (page : Page) (now : Lists) (count : ℕ) (item : Item) (items behind : List Item) (more : List (Lined Statement))
    → first_breach now (axiom_judged page item) ≡ None → IsStated page (after now (axiom_judged page item)) item more
    → (count + length more ≤ MOST_ITEMS → RightOr page (after now (axiom_judged page item)) (count + length more) items behind)
    → (count + length more ≤ MOST_ITEMS) ⊎ (MOST_ITEMS < count + length more) → RightOr page now count (item ∷ items) behind
counted_or page now count item items behind more e states next (inl fits) = next_or page now count item items behind more e states fits (next fits)
counted_or page now count item items behind more e states next (inr over) =
    inr (items_at (line (says page item)), inr (after now (axiom_judged page item), more, right_after now (axiom_judged page item) e, states, inl (over, refl)))

axiom_or : (page : Page) (now : Lists) (count : ℕ) (item : Item) (items behind : List Item)
    → ((mid : Lists) (total : ℕ) → total ≤ MOST_ITEMS → RightOr page mid total items behind)
    → (first : Option ShapeBreach) → first_breach now (axiom_judged page item) ≡ first → RightOr page now count (item ∷ items) behind
axiom_or page now count item items behind next None e =
    let w = stated_found page now item e in
    counted_or page now count item items behind w.0 e w.1 (next (after now (axiom_judged page item)) (count + length w.0)) (within_or (count + length w.0) MOST_ITEMS)
axiom_or page now count item items behind next (Some breach) e = inr (breach, inl e)

-- axioms are right, or have a first breach
pub right_or_from : (page : Page) (items behind : List Item) (now : Lists) (count : ℕ) → count ≤ MOST_ITEMS → RightOr page now count items behind
right_or_from page [] behind now count few = end_or page now count behind (first_breach now (after_judged page.doc behind)) few refl
right_or_from page (item ∷ items) behind now count few =
    axiom_or page now count item items behind (λ mid total fits. right_or_from page items behind mid total fits) (first_breach now (axiom_judged page item)) refl

some_none : (a : Option ShapeBreach) (b : ShapeBreach) → a ≡ None → a ≡ Some b → ⊥
some_none a b h g = cc

some_one : (a : Option ShapeBreach) (b c : ShapeBreach) → a ≡ Some b → a ≡ Some c → b ≡ c
some_one a b c h g = cc

-- what an axiom states within a vocabulary is what it states in one that begins with it
pub same_stated : (page : Page) (now new mid : Lists) (item : Item) (js : List Judgement) (xs ys : List (Lined Statement)) → IsVocabulary new → mid ≡ after now (axiom_judged page item)
    → AreRight (after now (axiom_judged page item)) js new → IsStated page new item xs → IsStated page mid item ys → ys ≡ xs
same_stated page now new mid item js xs ys v e r h g =
    stated_one new v page item ys xs
    (stated_kept page new (after now (axiom_judged page item)) item ys (right_begins (after now (axiom_judged page item)) new js r) (subst (λ lists. IsStated page lists item ys) e g)) h

-- what follows the first axiom
abbrev Later : Page → Lists → ℕ → Item → List Item → List Item → List (Lined Statement) → ShapeBreach → Type 0
Later page mid count item items behind more breach =
    ((MOST_ITEMS < count + length more) × (breach ≡ items_at (line (says page item)))) ⊎ ((count + length more ≤ MOST_ITEMS) × IsBreachFrom page mid (count + length more) items behind breach)

not_later : (page : Page) (mid : Lists) (count : ℕ) (item : Item) (items behind : List Item) (s : List (Lined Statement)) (ss : List (List (Lined Statement))) (breach : ShapeBreach)
    → count + length s + length (together ss) ≤ MOST_ITEMS → (IsBreachFrom page mid (count + length s) items behind breach → ⊥) → Later page mid count item items behind s breach → ⊥
not_later page mid count item items behind s ss breach few not_more (inl over) = let o = over.0 in absurd (omega arith)
not_later page mid count item items behind s ss breach few not_more (inr more) = not_more more.1

-- they are not right and have a first breach
pub right_not_from : (page : Page) (items behind : List Item) (now : Lists) (count : ℕ) (new : Lists) (of_each : List (List (Lined Statement))) (breach : ShapeBreach)
    → IsVocabulary now → RightFrom page now count items behind new of_each → IsBreachFrom page now count items behind breach → ⊥
right_not_from page [] behind now count new of_each breach v r b = some_none (first_breach now (after_judged page.doc behind)) breach r.right.none b
right_not_from page (item ∷ items) behind now count new [] breach v r b = r.states
right_not_from page (item ∷ items) behind now count new (s ∷ ss) breach v r (inl e) =
    some_none (first_breach now (axiom_judged page item)) breach (split_next page now new item items behind r.right).0.none e
right_not_from page (item ∷ items) behind now count new (s ∷ ss) breach v r (inr b) =
    let both = split_next page now new item items behind r.right in
    let last : IsVocabulary new = then_vocabulary now new (flat_map (axiom_judged page) (item ∷ items) ++ after_judged page.doc behind) v r.right in
    let same : b.1 ≡ s = same_stated page now new b.0 item (flat_map (axiom_judged page) items ++ after_judged page.doc behind) s b.1 last b.2.then both.1 r.states.0 b.3 in
    let few : count + length s + length (together ss) ≤ MOST_ITEMS = less_few count s ss r.few in
    not_later page (after now (axiom_judged page item)) count item items behind s ss breach few
    (right_not_from page items behind (after now (axiom_judged page item)) (count + length s) new ss breach (then_vocabulary now (after now (axiom_judged page item)) (axiom_judged page item) v both.0)
    (record { right = both.1; states = r.states.1; few = few }))
    (subst (λ lists. Later page lists count item items behind s breach) b.2.then (subst (λ xs. Later page b.0 count item items behind xs breach) same b.4))

one_later : (page : Page) (mid : Lists) (count : ℕ) (item : Item) (items behind : List Item) (more : List (Lined Statement)) (b c : ShapeBreach)
    → (IsBreachFrom page mid (count + length more) items behind b → IsBreachFrom page mid (count + length more) items behind c → b ≡ c)
    → Later page mid count item items behind more b → Later page mid count item items behind more c → b ≡ c
one_later page mid count item items behind more b c one (inl p) (inl q) = p.1 ∙ sym q.1
one_later page mid count item items behind more b c one (inl p) (inr q) = let f = q.0 in let o = p.0 in absurd (omega arith)
one_later page mid count item items behind more b c one (inr p) (inl q) = let f = p.0 in let o = q.0 in absurd (omega arith)
one_later page mid count item items behind more b c one (inr p) (inr q) = one p.1 q.1

-- they have one first breach
pub one_from : (page : Page) (items behind : List Item) (now : Lists) (count : ℕ) (b c : ShapeBreach) → IsVocabulary now
    → IsBreachFrom page now count items behind b → IsBreachFrom page now count items behind c → b ≡ c
one_from page [] behind now count b c v h g = some_one (first_breach now (after_judged page.doc behind)) b c h g
one_from page (item ∷ items) behind now count b c v (inl h) (inl g) = some_one (first_breach now (axiom_judged page item)) b c h g
one_from page (item ∷ items) behind now count b c v (inl h) (inr g) = absurd (some_none (first_breach now (axiom_judged page item)) b g.2.none h)
one_from page (item ∷ items) behind now count b c v (inr h) (inl g) = absurd (some_none (first_breach now (axiom_judged page item)) c h.2.none g)
one_from page (item ∷ items) behind now count b c v (inr h) (inr g) =
    let mid : g.0 ≡ h.0 = g.2.then ∙ sym h.2.then in
    let names : IsVocabulary h.0 = then_vocabulary now h.0 (axiom_judged page item) v h.2 in
    let same : g.1 ≡ h.1 = stated_one h.0 names page item g.1 h.1 (subst (λ lists. IsStated page lists item g.1) mid g.3) h.3 in
    one_later page h.0 count item items behind h.1 b c (one_from page items behind h.0 (count + length h.1) b c names) h.4
    (subst (λ lists. Later page lists count item items behind h.1 c) mid (subst (λ xs. Later page g.0 count item items behind xs c) same g.4))
