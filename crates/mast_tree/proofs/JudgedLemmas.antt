-- A document is right, or has a first breach, and each in one way.
use Rattle.std.proofs.Common.{◌≡◌, ◌⊎◌, inl, inr, refl, ap, sym, ◌∙◌, ℕ, List, ◌++◌}
use Rattle.std.specs.Prelude.{⊤, Option, Some, None}
use Rattle.mast_terms.specs.Vocabularies.{Lists}
use Rattle.mast_tree.specs.declared.item.Item.{Item}
use Rattle.mast_tree.specs.declared.shape.ShapeBreach.{ShapeBreach}
use Rattle.mast_tree.specs.Judged.{after_judged, Judging, IsRight, IsFirstBreach}
use Rattle.mast_tree.specs.Judgements.{Judgement, first_breach, after}
use Rattle.mast_tree.specs.Laws.{HasOnePrologue}
use Rattle.mast_tree.specs.MainNode.{Prefixes, HasParts}
use Rattle.mast_tree.specs.Prologue.{IsPrologue, IsPrologueBreach}
use Rattle.mast_tree.specs.Seen.{Document}
use Rattle.mast_tree.proofs.MainNodeLemmas.{main_is_found}
use Rattle.mast_tree.proofs.PrologueLemmas.{has_one_prologue}

-- what is judged behind the prologue
abbrev whole : Document → Judging → Prefixes → List Item → List Item → List Judgement
whole doc judged prefixes inside rest = judged prefixes inside ++ after_judged doc rest

one_prologue : (doc : Document) (word : List ℕ) → HasOnePrologue doc.source doc.tokens word doc.items
one_prologue doc word = has_one_prologue doc.source doc.tokens word doc.items

pair_in : (p q : List Item × List Item) → ◌≡◌ {A = Option (List Item × List Item)} (Some p) (Some q) → p ≡ q
pair_in p q h = cc

breach_in : (b c : ShapeBreach) → ◌≡◌ {A = Option ShapeBreach} (Some b) (Some c) → b ≡ c
breach_in b c h = cc

no_breach : (b : ShapeBreach) → ◌≡◌ {A = Option ShapeBreach} None (Some b) → ⊥
no_breach b h = cc

-- the prefixes of a document are found in one way
pub one_prefixes : (doc : Document) (word : List ℕ) (p q : Prefixes) (i j a b : List Item) → HasParts doc word p i a → HasParts doc word q j b → p ≡ q
one_prefixes doc word p q i j a b h k = (one_prologue doc word).one_table p q h.prologue k.prologue

-- and so are the inside of its main node and what follows
pub one_inside : (doc : Document) (word : List ℕ) (p q : Prefixes) (i j a b : List Item) → HasParts doc word p i a → HasParts doc word q j b → ◌≡◌ {A = List Item × List Item} (i, a) (j, b)
one_inside doc word p q i j a b h k = pair_in (i, a) (j, b) (sym h.main ∙ k.main)

same_whole : (doc : Document) (judged : Judging) (p q : Prefixes) (i j a b : List Item) → p ≡ q → ◌≡◌ {A = List Item × List Item} (i, a) (j, b) → whole doc judged p i a ≡ whole doc judged q j b
same_whole doc judged p q i j a b e f = ap (λ x. whole doc judged x i a) e ∙ ap (λ (x : List Item × List Item). whole doc judged q x.0 x.1) f

one_whole : (doc : Document) (word : List ℕ) (judged : Judging) (p q : Prefixes) (i j a b : List Item) → HasParts doc word p i a → HasParts doc word q j b → whole doc judged p i a ≡ whole doc judged q j b
one_whole doc word judged p q i j a b h k = same_whole doc judged p q i j a b (one_prefixes doc word p q i j a b h k) (one_inside doc word p q i j a b h k)

by_breach : (doc : Document) (word : List ℕ) (judged : Judging) (old : Lists) (p : Prefixes) (i a : List Item) → HasParts doc word p i a
    → (first : Option ShapeBreach) → first_breach old (whole doc judged p i a) ≡ first
    → ((new : Lists) × IsRight doc word judged old new (λ x y. ⊤)) ⊎ ((breach : ShapeBreach) × IsFirstBreach doc word judged old breach)
by_breach doc word judged old p i a h None e = inl (
  after old (whole doc judged p i a),
  record {
    prefixes = p;
    inside = i;
    after = a;
    parts = h;
    right = record { none = e; then = refl };
    gives = tt;
  },
)
by_breach doc word judged old p i a h (Some breach) e = inr (breach, inr (record { prefixes = p; inside = i; after = a; parts = h; first = e }))

by_prologue : (doc : Document) (word : List ℕ) (judged : Judging) (old : Lists)
    → ((table : Prefixes) × IsPrologue doc.source doc.tokens word doc.items table) ⊎ ((breach : ShapeBreach) × IsPrologueBreach doc.source doc.tokens word doc.items breach)
    → ((new : Lists) × IsRight doc word judged old new (λ x y. ⊤)) ⊎ ((breach : ShapeBreach) × IsFirstBreach doc word judged old breach)
by_prologue doc word judged old (inl p) =
    by_breach doc word judged old p.0 p.1.inside p.1.after (record { prologue = p.1; main = main_is_found doc word p.0 p.1 })
    (first_breach old (whole doc judged p.0 p.1.inside p.1.after)) refl
by_prologue doc word judged old (inr b) = inr (b.0, inl b.1)

-- a document is right or has a first breach
pub right_or_breach : (doc : Document) (word : List ℕ) (judged : Judging) (old : Lists)
    → ((new : Lists) × IsRight doc word judged old new (λ x y. ⊤)) ⊎ ((breach : ShapeBreach) × IsFirstBreach doc word judged old breach)
right_or_breach doc word judged old = by_prologue doc word judged old (one_prologue doc word).either

-- and not both
pub right_not_breach : (doc : Document) (word : List ℕ) (judged : Judging) (old new : Lists) (P : Prefixes → List Item → Type 0) (breach : ShapeBreach)
    → IsRight doc word judged old new P → IsFirstBreach doc word judged old breach → ⊥
right_not_breach doc word judged old new P breach right (inl front) = (one_prologue doc word).not_both right.prefixes breach right.parts.prologue front
right_not_breach doc word judged old new P breach right (inr inner) =
    no_breach breach (sym right.right.none
    ∙ (ap (first_breach old) (one_whole doc word judged right.prefixes inner.prefixes right.inside inner.inside right.after inner.after right.parts inner.parts) ∙ inner.first))

-- its first breach is one
pub one_first_breach : (doc : Document) (word : List ℕ) (judged : Judging) (old : Lists) (b c : ShapeBreach)
    → IsFirstBreach doc word judged old b → IsFirstBreach doc word judged old c → b ≡ c
one_first_breach doc word judged old b c (inl x) (inl y) = (one_prologue doc word).one_breach b c x y
one_first_breach doc word judged old b c (inl x) (inr y) = absurd ((one_prologue doc word).not_both y.prefixes b y.parts.prologue x)
one_first_breach doc word judged old b c (inr x) (inl y) = absurd ((one_prologue doc word).not_both x.prefixes c x.parts.prologue y)
one_first_breach doc word judged old b c (inr x) (inr y) =
    breach_in b c (sym x.first ∙ (ap (first_breach old) (one_whole doc word judged x.prefixes y.prefixes x.inside y.inside x.after y.after x.parts y.parts) ∙ y.first))

-- the vocabulary of a right document is one
pub one_vocabulary : (doc : Document) (word : List ℕ) (judged : Judging) (old a b : Lists) (P Q : Prefixes → List Item → Type 0)
    → IsRight doc word judged old a P → IsRight doc word judged old b Q → a ≡ b
one_vocabulary doc word judged old a b P Q x y =
    x.right.then ∙ (ap (after old) (one_whole doc word judged x.prefixes y.prefixes x.inside y.inside x.after y.after x.parts y.parts) ∙ sym y.right.then)
