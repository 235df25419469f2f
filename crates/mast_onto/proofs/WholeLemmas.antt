-- Whole documents: an ontology or a first breach, not both, and only one of it.
use Rattle.std.proofs.Common.{◌≡◌, ◌⊎◌, inl, inr, refl, sym, ap, ◌∙◌, subst, ℕ, ◌+◌, ◌≤◌, Bool, true, false, List, [], ◌∷◌, ◌++◌, length, append_assoc, Option, arith}
use Rattle.std.specs.Prelude.{None, Some, Ok, Err, Result, codes, if◌then◌else◌}
use Rattle.std.specs.List.{flat_map}
use Rattle.mast_terms.specs.Vocabularies.{Lists, IsVocabulary}
use Rattle.mast_tbox.specs.declared.axiom.Lined.{Lined}
use Rattle.mast_tbox.specs.declared.tbox.Ontology.{Ontology}
use Rattle.mast_tbox.specs.Lists.{AreEach}
use Rattle.mast_tbox.proofs.EachLemmas.{each_one}
use Rattle.mast_tree.specs.declared.item.Item.{Item}
use Rattle.mast_tree.specs.declared.shape.ShapeBreach.{ShapeBreach}
use Rattle.mast_tree.specs.Judged.{after_judged}
use Rattle.mast_tree.specs.Judgements.{after, first_breach, AreRight, breach_judged}
use Rattle.mast_tree.specs.Laws.{HasOnePrologue}
use Rattle.mast_tree.specs.MainNode.{Prefixes, HasParts}
use Rattle.mast_tree.specs.Prologue.{IsPrologue, IsPrologueBreach}
use Rattle.mast_tree.specs.Seen.{Document}
use Rattle.mast_tree.proofs.JudgedLemmas.{one_prefixes, one_inside}
use Rattle.mast_tree.proofs.JudgementLemmas.{after-append, right_parts}
use Rattle.mast_tree.proofs.MainNodeLemmas.{main_is_found}
use Rattle.mast_tree.proofs.PrologueLemmas.{has_one_prologue}
use Rattle.mast_tree.specs.Pages.{Page, page_of, says, names}
use Rattle.mast_onto.specs.Axioms.{axiom_judged}
use Rattle.mast_onto.specs.Lists.{together}
use Rattle.mast_onto.specs.Numbered.{inclusions_in, negatives_in, functional_in, numbered}
use Rattle.mast_onto.specs.Ontologies.{is_iri, front_judged, behind_front, iris_judged, inside_judged, axioms, IsStated, HasOntology, IsBreachIn, IsOntologyBreach, AreSame, OntologyLaw}
use Rattle.mast_onto.specs.declared.statement.Statement.{Statement}
use Rattle.mast_onto.specs.declared.statements.TheConstants.{MOST_ITEMS}
use Rattle.mast_onto.specs.inside.Stating.{StateAll}
use Rattle.mast_onto.proofs.FrontLemmas.{within_none, among_from, from_among}
use Rattle.mast_onto.proofs.LawLemmas.{RightFrom, RightOr, right_or_from, right_not_from, one_from, split_right, then_vocabulary}
use Rattle.mast_onto.proofs.NumberedLemmas.{numbered_is, bounded}
use Rattle.mast_onto.proofs.OneAxiomLemmas.{stated_one}

no_names : (old : Lists) (e : Result (List ℕ) ShapeBreach) → after old (breach_judged e) ≡ old
no_names old (Ok iri) = refl
no_names old (Err breach) = refl

no_names_if : (old : Lists) (b : Bool) (e : Result (List ℕ) ShapeBreach) → after old (if b then breach_judged e else []) ≡ old
no_names_if old true e = no_names old e
no_names_if old false e = refl

front_same : (old : Lists) (page : Page) (items : List Item) → after old (front_judged page items) ≡ old
front_same old page [] = refl
front_same old page (item ∷ items) = no_names_if old (is_iri (says page item)) (names page item)

-- the IRIs of an ontology are no names
pub iris_same : (old : Lists) (page : Page) (inside : List Item) → after old (iris_judged page inside) ≡ old
iris_same old page inside =
    after-append old (front_judged page inside) (front_judged page (behind_front page inside))
    ∙ (ap (λ lists. after lists (front_judged page (behind_front page inside))) (front_same old page inside) ∙ front_same old page (behind_front page inside))

-- the IRIs, the axioms, and what follows
iris_right : (old : Lists) (page : Page) (inside : List Item) → first_breach old (iris_judged page inside) ≡ None → AreRight old (iris_judged page inside) old
iris_right old page inside h = record { none = h; then = sym (iris_same old page inside) }

all_right : (old new : Lists) (page : Page) (inside behind : List Item) → first_breach old (iris_judged page inside) ≡ None
    → AreRight old (flat_map (axiom_judged page) (axioms page inside) ++ after_judged page.doc behind) new
    → AreRight old ((iris_judged page inside ++ flat_map (axiom_judged page) (axioms page inside)) ++ after_judged page.doc behind) new
all_right old new page inside behind h g =
    subst (λ js. AreRight old js new) (sym (append_assoc (iris_judged page inside) (flat_map (axiom_judged page) (axioms page inside)) (after_judged page.doc behind)))
    (right_parts old old new (iris_judged page inside) (flat_map (axiom_judged page) (axioms page inside) ++ after_judged page.doc behind) (iris_right old page inside h) g)

parts_right : (old new : Lists) (page : Page) (inside behind : List Item)
    → AreRight old ((iris_judged page inside ++ flat_map (axiom_judged page) (axioms page inside)) ++ after_judged page.doc behind) new
    → (first_breach old (iris_judged page inside) ≡ None) × AreRight old (flat_map (axiom_judged page) (axioms page inside) ++ after_judged page.doc behind) new
parts_right old new page inside behind h =
    let parts = split_right old new (iris_judged page inside) (flat_map (axiom_judged page) (axioms page inside) ++ after_judged page.doc behind)
    (subst (λ js. AreRight old js new) (append_assoc (iris_judged page inside) (flat_map (axiom_judged page) (axioms page inside)) (after_judged page.doc behind)) h) in
    (parts.0.none, subst (λ lists. AreRight lists (flat_map (axiom_judged page) (axioms page inside) ++ after_judged page.doc behind) new) (iris_same old page inside) parts.1)

-- the ontology of statements
abbrev ontology_of : (lists : Lists) (ss : List (Lined Statement)) → length ss ≤ MOST_ITEMS → Ontology
ontology_of lists ss h = record {
  vocab = lists;
  tbox = record {
    inclusions = numbered 0 (inclusions_in ss);
    negatives = negatives_in ss;
    functional = functional_in ss;
    numbered = numbered_is (inclusions_in ss);
    bounded = bounded ss h;
  };
}

one_prologue : (doc : Document) → HasOnePrologue doc.source doc.tokens (codes "Ontology") doc.items
one_prologue doc = has_one_prologue doc.source doc.tokens (codes "Ontology") doc.items

-- an ontology or a breach
abbrev Outcome : Document → Lists → Type 0
Outcome doc old = ((ontology : Ontology) × HasOntology doc old ontology) ⊎ ((breach : ShapeBreach) × IsOntologyBreach doc old breach)

by_axioms : (doc : Document) (old : Lists) (p : Prefixes) (i a : List Item) → HasParts doc (codes "Ontology") p i a → first_breach old (iris_judged (page_of doc p) i) ≡ None
    → RightOr (page_of doc p) old 0 (axioms (page_of doc p) i) a → Outcome doc old
by_axioms doc old p i a h e (inl r) =
    inl (
      ontology_of r.0 (together r.1) (let f = r.2.few in omega arith),
      record {
        of_each = r.1;
        right = record {
          prefixes = p;
          inside = i;
          after = a;
          parts = h;
          right = all_right old r.0 (page_of doc p) i a e r.2.right;
          gives = (r.2.states, let f = r.2.few in omega arith);
        };
        inclusions = refl;
        negatives = refl;
        functional = refl;
      },
    )
by_axioms doc old p i a h e (inr b) =
    let page = page_of doc p in
    let among = among_from page old (axioms page i) a [] old [] b.0 (within_none page old) b.1 in
    inr (b.0, inr (record { prefixes = p; inside = i; after = a; parts = h; first = inr (e, among) }))

by_iris : (doc : Document) (old : Lists) (p : Prefixes) (i a : List Item) → HasParts doc (codes "Ontology") p i a → (first : Option ShapeBreach) → first_breach old (iris_judged (page_of doc p) i) ≡ first → Outcome doc old
by_iris doc old p i a h None e = by_axioms doc old p i a h e (right_or_from (page_of doc p) (axioms (page_of doc p) i) a old 0 (omega arith))
by_iris doc old p i a h (Some breach) e = inr (breach, inr (record { prefixes = p; inside = i; after = a; parts = h; first = inl e }))

by_prologue : (doc : Document) (old : Lists)
    → ((table : Prefixes) × IsPrologue doc.source doc.tokens (codes "Ontology") doc.items table) ⊎ ((breach : ShapeBreach) × IsPrologueBreach doc.source doc.tokens (codes "Ontology") doc.items breach)
    → Outcome doc old
by_prologue doc old (inl p) =
    by_iris doc old p.0 p.1.inside p.1.after (record { prologue = p.1; main = main_is_found doc (codes "Ontology") p.0 p.1 }) (first_breach old (iris_judged (page_of doc p.0) p.1.inside)) refl
by_prologue doc old (inr b) = inr (b.0, inl b.1)

-- what is found of a document depends on its prefixes and on what stands inside and behind its main node
same_parts : (doc : Document) (P : Prefixes → List Item → List Item → Type 0) (p q : Prefixes) (i j a b : List Item)
    → HasParts doc (codes "Ontology") p i a → HasParts doc (codes "Ontology") q j b → P q j b → P p i a
same_parts doc P p q i j a b h k x =
    subst (λ w. P w i a) (one_prefixes doc (codes "Ontology") q p j i b a k h)
    (subst (λ (w : List Item × List Item). P q w.0 w.1) (one_inside doc (codes "Ontology") q p j i b a k h) x)

some_none : (a : Option ShapeBreach) (b : ShapeBreach) → a ≡ None → a ≡ Some b → ⊥
some_none a b h g = cc

some_one : (a : Option ShapeBreach) (b c : ShapeBreach) → a ≡ Some b → a ≡ Some c → b ≡ c
some_one a b c h g = cc

from_right : (doc : Document) (old : Lists) (o : Ontology) (h : HasOntology doc old o)
    → (first_breach old (iris_judged (page_of doc h.right.prefixes) h.right.inside) ≡ None)
    × RightFrom (page_of doc h.right.prefixes) old 0 (axioms (page_of doc h.right.prefixes) h.right.inside) h.right.after o.vocab h.of_each
from_right doc old o h =
    let parts = parts_right old o.vocab (page_of doc h.right.prefixes) h.right.inside h.right.after h.right.right in
    (parts.0, record { right = parts.1; states = h.right.gives.0; few = let f = h.right.gives.1 in omega arith })

not_inside : (page : Page) (old new : Lists) (inside behind : List Item) (of_each : List (List (Lined Statement))) (breach : ShapeBreach) → IsVocabulary old
    → first_breach old (iris_judged page inside) ≡ None → RightFrom page old 0 (axioms page inside) behind new of_each → IsBreachIn page old inside behind breach → ⊥
not_inside page old new inside behind of_each breach v e r (inl b) = some_none (first_breach old (iris_judged page inside)) breach e b
not_inside page old new inside behind of_each breach v e r (inr b) =
    right_not_from page (axioms page inside) behind old 0 new of_each breach v r (from_among page old (axioms page inside) behind breach v b.1)

not_both : (doc : Document) (old : Lists) (o : Ontology) (breach : ShapeBreach) → IsVocabulary old → HasOntology doc old o → IsOntologyBreach doc old breach → ⊥
not_both doc old o breach v h (inl front) = (one_prologue doc).not_both h.right.prefixes breach h.right.parts.prologue front
not_both doc old o breach v h (inr inner) =
    let r = from_right doc old o h in
    not_inside (page_of doc h.right.prefixes) old o.vocab h.right.inside h.right.after h.of_each breach v r.0 r.1
    (same_parts doc (λ p i a. IsBreachIn (page_of doc p) old i a breach) h.right.prefixes inner.prefixes h.right.inside inner.inside h.right.after inner.after h.right.parts inner.parts inner.first)

one_inside_breach : (page : Page) (old : Lists) (inside behind : List Item) (b c : ShapeBreach) → IsVocabulary old → IsBreachIn page old inside behind b → IsBreachIn page old inside behind c → b ≡ c
one_inside_breach page old inside behind b c v (inl h) (inl g) = some_one (first_breach old (iris_judged page inside)) b c h g
one_inside_breach page old inside behind b c v (inl h) (inr g) = absurd (some_none (first_breach old (iris_judged page inside)) b g.0 h)
one_inside_breach page old inside behind b c v (inr h) (inl g) = absurd (some_none (first_breach old (iris_judged page inside)) c h.0 g)
one_inside_breach page old inside behind b c v (inr h) (inr g) =
    one_from page (axioms page inside) behind old 0 b c v (from_among page old (axioms page inside) behind b v h.1) (from_among page old (axioms page inside) behind c v g.1)

one_breach : (doc : Document) (old : Lists) (b c : ShapeBreach) → IsVocabulary old → IsOntologyBreach doc old b → IsOntologyBreach doc old c → b ≡ c
one_breach doc old b c v (inl x) (inl y) = (one_prologue doc).one_breach b c x y
one_breach doc old b c v (inl x) (inr y) = absurd ((one_prologue doc).not_both y.prefixes b y.parts.prologue x)
one_breach doc old b c v (inr x) (inl y) = absurd ((one_prologue doc).not_both x.prefixes c x.parts.prologue y)
one_breach doc old b c v (inr x) (inr y) =
    one_inside_breach (page_of doc x.prefixes) old x.inside x.after b c v x.first
    (same_parts doc (λ p i a. IsBreachIn (page_of doc p) old i a c) x.prefixes y.prefixes x.inside y.inside x.after y.after x.parts y.parts y.first)

-- what axioms behind which a vocabulary stands give is one
one_statements : (page : Page) (old new : Lists) (inside behind : List Item) (ss ts : List (List (Lined Statement))) → IsVocabulary old
    → RightFrom page old 0 (axioms page inside) behind new ss → AreEach (IsStated page new) (axioms page inside) ts → ss ≡ ts
one_statements page old new inside behind ss ts v r h =
    let last = then_vocabulary old new (flat_map (axiom_judged page) (axioms page inside) ++ after_judged page.doc behind) v r.right in
    each_one (IsStated page new) (stated_one new last page) (axioms page inside) ss ts r.states h

one_vocab : (page : Page) (old a b : Lists) (inside behind : List Item) (ss ts : List (List (Lined Statement)))
    → RightFrom page old 0 (axioms page inside) behind a ss → RightFrom page old 0 (axioms page inside) behind b ts → a ≡ b
one_vocab page old a b inside behind ss ts r s = r.right.then ∙ sym s.right.then

same_axioms : (doc : Document) (old : Lists) (a b : Ontology) → (ss ts : List (List (Lined Statement))) → ss ≡ ts → a.vocab ≡ b.vocab
    → (a.tbox.inclusions ≡ numbered 0 (inclusions_in (together ss))) × (a.tbox.negatives ≡ negatives_in (together ss)) × (a.tbox.functional ≡ functional_in (together ss))
    → (b.tbox.inclusions ≡ numbered 0 (inclusions_in (together ts))) × (b.tbox.negatives ≡ negatives_in (together ts)) × (b.tbox.functional ≡ functional_in (together ts)) → AreSame a b
same_axioms doc old a b ss ts e v h g = record {
  vocab = v;
  inclusions = h.0 ∙ (ap (λ xs. numbered 0 (inclusions_in (together xs))) e ∙ sym g.0);
  negatives = h.1 ∙ (ap (λ xs. negatives_in (together xs)) e ∙ sym g.1);
  functional = h.2 ∙ (ap (λ xs. functional_in (together xs)) e ∙ sym g.2);
}

one : (doc : Document) (old : Lists) (a b : Ontology) → IsVocabulary old → HasOntology doc old a → HasOntology doc old b → AreSame a b
one doc old a b v h g =
    let r = (from_right doc old a h).1 in
    let s : RightFrom (page_of doc h.right.prefixes) old 0 (axioms (page_of doc h.right.prefixes) h.right.inside) h.right.after b.vocab g.of_each =
    same_parts doc (λ p i z. RightFrom (page_of doc p) old 0 (axioms (page_of doc p) i) z b.vocab g.of_each) h.right.prefixes g.right.prefixes h.right.inside g.right.inside h.right.after g.right.after h.right.parts g.right.parts
    ((from_right doc old b g).1) in
    let names : a.vocab ≡ b.vocab = one_vocab (page_of doc h.right.prefixes) old a.vocab b.vocab h.right.inside h.right.after h.of_each g.of_each r s in
    let each_same : h.of_each ≡ g.of_each = one_statements (page_of doc h.right.prefixes) old a.vocab h.right.inside h.right.after h.of_each g.of_each v r
    (subst (λ lists. AreEach (IsStated (page_of doc h.right.prefixes) lists) (axioms (page_of doc h.right.prefixes) h.right.inside) g.of_each) (sym names) s.states) in
    same_axioms doc old a b h.of_each g.of_each each_same names (h.inclusions, h.negatives, h.functional) (g.inclusions, g.negatives, g.functional)

-- what was read makes the ontology
pub has_ontology : (doc : Document) (old new : Lists) (p : Prefixes) (i a : List Item) (statements : List (Lined Statement)) (o : Ontology) → HasParts doc (codes "Ontology") p i a
    → AreRight old (inside_judged (page_of doc p) i ++ after_judged doc a) new → StateAll (page_of doc p) new (axioms (page_of doc p) i) statements → length statements ≤ 1000000 → o.vocab ≡ new
    → o.tbox.inclusions ≡ numbered 0 (inclusions_in statements) → o.tbox.negatives ≡ negatives_in statements → o.tbox.functional ≡ functional_in statements → HasOntology doc old o
has_ontology doc old new p i a statements o h right states few names is ns ps = record {
  of_each = states.0;
  right = record {
    prefixes = p;
    inside = i;
    after = a;
    parts = h;
    right = subst (λ lists. AreRight old (inside_judged (page_of doc p) i ++ after_judged doc a) lists) (sym names) right;
    gives = (subst (λ lists. AreEach (IsStated (page_of doc p) lists) (axioms (page_of doc p) i) states.0) (sym names) states.1, subst (λ ss. length ss ≤ 1000000) states.2 few);
  };
  inclusions = is ∙ ap (λ ss. numbered 0 (inclusions_in ss)) states.2;
  negatives = ns ∙ ap negatives_in states.2;
  functional = ps ∙ ap functional_in states.2;
}

-- what stopped the reading of the inside is the first breach
pub has_breach : (doc : Document) (old : Lists) (p : Prefixes) (i a : List Item) (breach : ShapeBreach) → HasParts doc (codes "Ontology") p i a → IsBreachIn (page_of doc p) old i a breach → IsOntologyBreach doc old breach
has_breach doc old p i a breach h b = inr (record { prefixes = p; inside = i; after = a; parts = h; first = b })

-- over a vocabulary, a document has an ontology or a first breach, not both, and only one of it
pub has_one_ontology : (doc : Document) (old : Lists) → IsVocabulary old → OntologyLaw doc old
has_one_ontology doc old v = record {
  either = by_prologue doc old (one_prologue doc).either;
  not_both = λ o b h g. not_both doc old o b v h g;
  one = λ a b h g. one doc old a b v h g;
  one_breach = λ b c h g. one_breach doc old b c v h g;
}
