-- How many elements a list has that holds each once, and when more queries have a property than a list has.
use Rattle.std.proofs.Common.{◌≡◌, ℕ, zero, suc, ◌≤◌, List, [], ◌∷◌, length, Some, ◌⊎◌, inl, inr, Contains, refl, ap, subst, sym, arith, slice_get}
use Rattle.mast_terms.specs.Vocabularies.{EachOnce}
use Rattle.mast_cq.specs.declared.query.Cq.{Cq}
use Rattle.mast_cq.specs.Queries.{In, Takes, first, later}
use Rattle.mast_cq.proofs.ListLemmas.{each_in}
use Rattle.mast_cq.proofs.TakesLemmas.{takes_length}
use Rattle.mast_tbox.proofs.MemberLemmas.{none, first_or}
use Rattle.mast_rewrite.specs.Rewritings.{HasMoreThan}

module _ {X : Type 0} where
  -- what a list contains is an element of it
  pub contains_in : (xs : List X) (x : X) → Contains xs x → In x xs
  contains_in [] x c = absurd (none x c)
  contains_in (y ∷ xs) x c = elim (first_or y xs x c) [ inl e ↦ inl e | inr i ↦ inr (contains_in xs x i) ]

  record Place (xs : List X) (x : X) : Type 0 where
    at : ℕ
    is : slice_get xs at ≡ Some x

  place_in : (xs : List X) (x : X) → In x xs → Place xs x
  place_in [] x i = absurd i
  place_in (y ∷ xs) x (inl e) = record { at = zero; is = ap Some (sym e) }
  place_in (y ∷ xs) x (inr i) = let w = place_in xs x i in record { at = suc w.at; is = w.is }

  once_rest : (x : X) (xs : List X) → EachOnce (x ∷ xs) → EachOnce xs
  once_rest x xs once i j y a b = let e = once (suc i) (suc j) y a b in omega (arith, e)

  once_first : (x : X) (xs : List X) → EachOnce (x ∷ xs) → In x xs → ⊥
  once_first x xs once i = let w = place_in xs x i in let e = once zero (suc w.at) x refl w.is in omega (arith, e)

  record Without (ys : List X) (x : X) : Type 0 where
    rest : List X
    takes : Takes ys x rest

  without : (ys : List X) (x : X) → In x ys → Without ys x
  without [] x i = absurd i
  without (y ∷ ys) x (inl e) = record { rest = ys; takes = subst (λ z. Takes (y ∷ ys) z ys) (sym e) first }
  without (y ∷ ys) x (inr i) = let w = without ys x i in record { rest = y ∷ w.rest; takes = later w.takes }

  other_in : {ys : List X} {x : X} {rest : List X} → Takes ys x rest → (z : X) → In z ys → (z ≡ x) ⊎ In z rest
  other_in first z (inl e) = inl e
  other_in first z (inr i) = inr i
  other_in (later t) z (inl e) = inr (inl e)
  other_in (later t) z (inr i) = elim (other_in t z i) [ inl e ↦ inl e | inr j ↦ inr (inr j) ]

  -- a list that has each element once, all of them elements of another, is no longer than that
  pub few : (xs ys : List X) → EachOnce xs → ((x : X) → In x xs → In x ys) → length xs ≤ length ys
  few [] ys once all = omega arith
  few (x ∷ xs) ys once all =
      let w = without ys x (all x (inl refl)) in
      let l = takes_length w.takes in
      let f = few xs w.rest (once_rest x xs once) (λ z i. elim (other_in w.takes z (all z (inr i))) [
        | inl e ↦ absurd (once_first x xs once (subst (λ y. In y xs) e i))
        | inr j ↦ j
      ]) in
      omega arith

-- where a list contains each query with the property, no more have it than the list is long
pub no_more : (P : Cq → Type 0) (queries : List Cq) (count : ℕ) → ((q : Cq) → P q → Contains queries q) → length queries ≤ count → HasMoreThan count P → ⊥
no_more P queries count all short h =
    let f = few h.queries queries h.once (λ q i. contains_in queries q (all q (each_in P q h.queries h.have i))) in
    let e = h.many in
    omega arith
