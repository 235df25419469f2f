-- Lists in which no element stands twice.
use Rattle.std.proofs.Common.{◌≡◌, ℕ, zero, suc, ◌+◌, ◌<◌, List, [], ◌∷◌, ◌++◌, length, get_or, take, drop, inl, inr, refl, sym, ap, subst, ◌∙◌, arith}
use Rattle.std.specs.Prelude.{Some, slice_get}
use Rattle.std.proofs.lemmas.List.{take-append-drop, drop_more}
use Rattle.std.proofs.lemmas.Option.{none-some, same_Some}
use Rattle.mast_cq.specs.Queries.{In}
use Rattle.mast_cq.proofs.ListLemmas.{in_append, append_left, append_right}
use Rattle.mast_join.specs.inside.Partial.{Once}

-- two such lists without a common element, one after the other
pub once_append : {X : Type 0} (xs ys : List X) → Once xs → Once ys → ((x : X) → In x xs → In x ys → ⊥) → Once (xs ++ ys)
once_append [] ys p q apart = q
once_append (x ∷ xs) ys p q apart = (
  λ i. elim (in_append x xs ys i) [ inl a ↦ p.0 a | inr b ↦ apart x (inl refl) b ],
  once_append xs ys p.1 q (λ y i j. apart y (inr i) j),
)

-- the front of such a list
pub once_front : {X : Type 0} (xs ys : List X) → Once (xs ++ ys) → Once xs
once_front [] ys p = tt
once_front (x ∷ xs) ys p = (λ i. p.0 (append_left x xs ys i), once_front xs ys p.1)

-- an element of such a list does not stand before its place
pub once_next : {X : Type 0} (xs : List X) (y : X) (ys : List X) → Once (xs ++ y ∷ ys) → In y xs → ⊥
once_next [] y ys p i = absurd i
once_next {X} (x ∷ xs) y ys p (inl e) = p.0 (subst (λ (k : X). In k (xs ++ y ∷ ys)) e (append_right y xs (y ∷ ys) (inl refl)))
once_next (x ∷ xs) y ys p (inr i) = once_next xs y ys p.1 i

-- the same by places
pub once_before : {X : Type 0} (xs : List X) (i : ℕ) (d : X) → Once xs → i < length xs → In (get_or xs i d) (take i xs) → ⊥
once_before {X} xs i d p lt h =
    let split : xs ≡ take i xs ++ get_or xs i d ∷ drop (i + 1) xs = sym (take-append-drop i xs) ∙ ap (λ (k : List X). take i xs ++ k) (drop_more xs i d lt) in
    once_next (take i xs) (get_or xs i d) (drop (i + 1) xs) (subst (λ (k : List X). Once k) split p) h

-- the elements of a front are elements
pub in_take : {X : Type 0} (xs : List X) (i : ℕ) (x : X) → In x (take i xs) → In x xs
in_take {X} xs i x h = subst (λ (k : List X). In x k) (take-append-drop i xs) (append_left x (take i xs) (drop i xs) h)

-- an element at a place
pub in_get : {X : Type 0} (xs : List X) (i : ℕ) (d : X) → i < length xs → In (get_or xs i d) xs
in_get [] i d lt = absurd (omega arith)
in_get (x ∷ xs) zero d lt = inl refl
in_get (x ∷ xs) (suc i) d lt = inr (in_get xs i d (omega arith))

-- an element that is read
pub in_read : {X : Type 0} (xs : List X) (i : ℕ) (x : X) → i < length xs → x ≡ get_or xs i x → In x xs
in_read {X} xs i x lt e = subst (λ (y : X). In y xs) (sym e) (in_get xs i x lt)

-- the place of an element
pub record StandsAt {X : Type 0} (x : X) (xs : List X) : Type 0 where
  pub place : ℕ
  pub within : place < length xs
  pub is : (d : X) → get_or xs place d ≡ x

-- each element has one
pub stands_at : {X : Type 0} (x : X) (xs : List X) → In x xs → StandsAt x xs
stands_at x [] i = absurd i
stands_at x (y ∷ xs) (inl e) = record { place = 0; within = omega arith; is = λ d. sym e }
stands_at x (y ∷ xs) (inr i) =
    let h = stands_at x xs i in
    let lt : h.place < length xs = h.within in
    record { place = suc h.place; within = omega arith; is = h.is }

-- what stands at a place is an element
pub in_of_get : {X : Type 0} (xs : List X) (i : ℕ) (x : X) → slice_get xs i ≡ Some x → In x xs
in_of_get [] i x h = absurd (none-some x h)
in_of_get (y ∷ xs) zero x h = inl (sym (same_Some y x h))
in_of_get (y ∷ xs) (suc i) x h = inr (in_of_get xs i x h)

-- two places of one element are one
pub each_once : {X : Type 0} (xs : List X) → Once xs → (i j : ℕ) (x : X) → slice_get xs i ≡ Some x → slice_get xs j ≡ Some x → i ≡ j
each_once [] p i j x a b = absurd (none-some x a)
each_once (y ∷ xs) p zero zero x a b = refl
each_once {X} (y ∷ xs) p zero (suc j) x a b = absurd (p.0 (subst (λ (k : X). In k xs) (sym (same_Some y x a)) (in_of_get xs j x b)))
each_once {X} (y ∷ xs) p (suc i) zero x a b = absurd (p.0 (subst (λ (k : X). In k xs) (sym (same_Some y x b)) (in_of_get xs i x a)))
each_once (y ∷ xs) p (suc i) (suc j) x a b = ap suc (each_once xs p.1 i j x a b)
