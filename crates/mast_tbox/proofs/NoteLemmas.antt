-- Noting a root for one property after another.
use Rattle.std.proofs.Common.{◌≡◌, ℕ, ◌+◌, ◌<◌, ◌⊎◌, inl, inr, ◌↔◌, Bool, true, false, cond, ◌||◌, Option, Some, List, [], ◌∷◌, Contains, length, drop, slice_index_or, filter, refl, sym, ap, ◌∙◌, if◌then◌else◌}
use Rattle.std.specs.List.{list_any}
use Rattle.std.specs.Cmp.{IsEquivalence}
use Rattle.std.proofs.lemmas.List.{drop_more}
use Rattle.std.proofs.lemmas.Map.Views.{list_any-from_Contains, Contains-from_any}
use Rattle.mast_tbox.specs.declared.expression.Prop.{Prop}
use Rattle.mast_tbox.specs.declared.groups.Groups.{Groups}
use Rattle.mast_tbox.specs.Expressions.{same_prop}
use Rattle.mast_tbox.specs.inside.Components.{noted, kept, AreNoted, AreClosed, Inside, HasReached, Settles, next_in}
use Rattle.mast_tbox.specs.inside.Chosen.{is_in, noted_chief}
use Rattle.mast_tbox.proofs.EqualityLemmas.{prop_same, prop_equivalence}
use Rattle.mast_tbox.proofs.MemberLemmas.{front, later, none, first_or}

noted_case : (root : Prop) (b a : Bool) (before : Option Prop) → (if a then Some root else cond b (Some root) before) ≡ (if b || a then Some root else before)
noted_case root true true before = refl
noted_case root true false before = refl
noted_case root false true before = refl
noted_case root false false before = refl

kept_case : (b a before : Bool) → (if a then false else cond b false before) ≡ (if b || a then false else before)
kept_case true true before = refl
kept_case true false before = refl
kept_case false true before = refl
kept_case false false before = refl

-- one property more: what is left to note falls by it
pub noted_next : (root p : Prop) (props : List Prop) (i : ℕ) (d : Prop) (before after : Option Prop) → i < length props → after ≡ cond (same_prop (slice_index_or props i d) p) (Some root) before
    → noted root (drop (i + 1) props) p after ≡ noted root (drop i props) p before
noted_next root p props i d before after l e =
    ap (noted root (drop (i + 1) props) p) (e ∙ ap (λ b. cond b (Some root) before) (prop_equivalence.symm (slice_index_or props i d) p))
    ∙ (noted_case root (same_prop p (slice_index_or props i d)) (is_in p (drop (i + 1) props)) before
    ∙ ap (λ w. noted root w p before) (sym (drop_more props i d l)))

-- and so does what is left to close
pub kept_next : (p : Prop) (props : List Prop) (i : ℕ) (d : Prop) (before after : Bool) → i < length props → after ≡ cond (same_prop (slice_index_or props i d) p) false before
    → kept (drop (i + 1) props) p after ≡ kept (drop i props) p before
kept_next p props i d before after l e =
    ap (kept (drop (i + 1) props) p) (e ∙ ap (λ b. cond b false before) (prop_equivalence.symm (slice_index_or props i d) p))
    ∙ (kept_case (same_prop p (slice_index_or props i d)) (is_in p (drop (i + 1) props)) before
    ∙ ap (λ w. kept w p before) (sym (drop_more props i d l)))

-- the elements of a list that pass a test
module _ {X : Type 0} (test : X → Bool) where
  filter_from_case : (y : X) (ys : List X) (x : X) (b : Bool) → test y ≡ b → (Contains (filter test ys) x → Contains ys x × (test x ≡ true)) → Contains (cond b (y ∷ filter test ys) (filter test ys)) x
      → Contains (y ∷ ys) x × (test x ≡ true)
  filter_from_case y ys x true e ih c = elim (first_or y (filter test ys) x c) [
    | inl f ↦ (rw f (front y ys), ap test f ∙ e)
    | inr i ↦ let w = ih i in (later x y ys w.0, w.1)
  ]
  filter_from_case y ys x false e ih c = let w = ih c in (later x y ys w.0, w.1)

  pub filter_from : (xs : List X) (x : X) → Contains (filter test xs) x → Contains xs x × (test x ≡ true)
  filter_from [] x c = absurd (none x c)
  filter_from (y ∷ ys) x c = filter_from_case y ys x (test y) refl (filter_from ys x) c

  filter_has_case : (y : X) (os : List X) (x : X) (b : Bool) → test y ≡ b → test x ≡ true → (x ≡ y) ⊎ Contains os x → Contains (cond b (y ∷ os) os) x
  filter_has_case y os x true e t (inl f) = rw f (front y os)
  filter_has_case y os x true e t (inr i) = later x y os i
  filter_has_case y os x false e t (inl f) = absurd (let g : true ≡ false = sym t ∙ (ap test f ∙ e) in cc)
  filter_has_case y os x false e t (inr i) = i

  pub filter_has : (xs : List X) (x : X) → Contains xs x → test x ≡ true → Contains (filter test xs) x
  filter_has [] x c t = absurd (none x c)
  filter_has (y ∷ ys) x c t = filter_has_case y (filter test ys) x (test y) refl t (elim (first_or y ys x c) [ inl f ↦ inl f | inr i ↦ inr (filter_has ys x i t) ])

-- an element stands in a list, or does not
pub stands_or : {X : Type 0} (eq : X → X → Bool) → IsEquivalence eq → ((x y : X) → eq x y ≡ true → x ≡ y) → (xs : List X) (x : X) → ((Contains xs x) × (list_any (eq x) xs ≡ true)) ⊎ ((Contains xs x → ⊥) × (list_any (eq x) xs ≡ false))
stands_or {X} eq laws same xs x = go (list_any (eq x) xs) refl
  where
    go : (b : Bool) → list_any (eq x) xs ≡ b → ((Contains xs x) × (list_any (eq x) xs ≡ true)) ⊎ ((Contains xs x → ⊥) × (list_any (eq x) xs ≡ false))
    go true e = inl (Contains-from_any same x xs e, e)
    go false e = inr (λ c. absurd (let g : true ≡ false = sym (list_any-from_Contains laws x xs c) ∙ e in cc), e)

-- the elements of a list that stand in another
pub inside_is : (keys : List Prop) (next : Prop → List Prop) (p q : Prop) → Contains (filter (λ k. is_in k keys) (next p)) q ↔ Inside keys next p q
inside_is keys next p q = (
  λ c. let w = filter_from (λ k. is_in k keys) (next p) q c in (w.0, Contains-from_any prop_same q keys w.1),
  λ i. filter_has (λ k. is_in k keys) (next p) q i.0 (list_any-from_Contains prop_equivalence q keys i.1),
)

-- noting a root for the properties around it settles them
pub settles_by : (below above : Groups Prop) (free : List Prop) (before : List (Prop × Prop)) (root : Prop) (left : List Prop) (after : List (Prop × Prop)) (under around : List Prop)
    → HasReached (next_in below) free root under → HasReached (next_in above) under root around → AreNoted root around before after → AreClosed around free left → Settles below above free before root left after
settles_by below above free before root left after under around under_is around_is chiefs still = record {
  same = around;
  around = (under, (under_is, around_is));
  inside = λ p c. chiefs p ∙ ap (λ b. if b then Some root else noted_chief before p) (list_any-from_Contains prop_equivalence p around c);
  outside = λ p n. chiefs p ∙ ap (λ b. if b then Some root else noted_chief before p) (absent p n);
  decided = λ p. elim (stands_or same_prop prop_equivalence prop_same around p) [ inl w ↦ inl w.0 | inr w ↦ inr w.0 ];
  still_free = λ p. (left_from p, left_has p);
}
  where
    absent : (p : Prop) → (Contains around p → ⊥) → is_in p around ≡ false
    absent p n = elim (stands_or same_prop prop_equivalence prop_same around p) [ inl w ↦ absurd (n w.0) | inr w ↦ w.1 ]

    left_from : (p : Prop) → Contains left p → Contains free p × (Contains around p → ⊥)
    left_from p c = elim (stands_or same_prop prop_equivalence prop_same around p) [
      | inl w ↦ absurd (let g : true ≡ false = sym (list_any-from_Contains prop_equivalence p left c) ∙ (still p ∙ ap (λ b. if b then false else is_in p free) w.1) in cc)
      | inr w ↦ (Contains-from_any prop_same p free (sym (still p ∙ ap (λ b. if b then false else is_in p free) w.1) ∙ list_any-from_Contains prop_equivalence p left c), w.0)
    ]

    left_has : (p : Prop) → Contains free p × (Contains around p → ⊥) → Contains left p
    left_has p w = Contains-from_any prop_same p left (still p ∙ (ap (λ b. if b then false else is_in p free) (absent p w.1) ∙ list_any-from_Contains prop_equivalence p free w.0))
