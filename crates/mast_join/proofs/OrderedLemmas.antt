-- What is sorted, and then without what equals the one before it, has the same elements in order, each once.
use Rattle.std.proofs.Common.{◌≡◌, ◌↔◌, ℕ, zero, suc, ◌<◌, List, [], ◌∷◌, length, sym, subst, ◌∙◌, Bool, true, Contains, IsPermutation, IsSorted, slice_index_or, inl, inr, arith}
use Rattle.std.specs.Cmp.{IsEquivalence, IsTotalOrder}
use Rattle.std.specs.List.{AllByRecursion, dedup}
use Rattle.std.specs.List.Sorted.{IsStrictlySortedBy}
use Rattle.std.specs.Ordering.{eq_by_cmp}
use Rattle.std.specs.declared.cmp.Ordering.{Ordering}
use Rattle.std.specs.declared.cmp.Ordering.TheVariants.{Less}
use Rattle.std.proofs.lemmas.List.Kept.{IsStrictlySortedBy-dedup, Contains-dedup, Contains-from_dedup}
use Rattle.std.proofs.lemmas.List.Sorted.{Contains-permutation, IsPermutation-sym}
use Rattle.mast_terms.specs.Orders.{ComparesBy}
use Rattle.mast_cq.specs.Queries.{In}

module _ {X : Type 0} where
  -- an element stands at a place, and what stands at a place is an element
  pub in_contains : (xs : List X) (x : X) → In x xs → Contains xs x
  in_contains [] x i = absurd i
  in_contains (y ∷ xs) x (inl e) = (zero, (omega arith), sym e)
  in_contains (y ∷ xs) x (inr i) = let c = in_contains xs x i in (suc c.0, (let lt = c.1 in omega (arith, lt)), c.2)

  contains_at : (xs : List X) (x : X) (k : ℕ) → k < length xs → slice_index_or xs k x ≡ x → In x xs
  contains_at [] x k lt e = absurd (omega arith)
  contains_at (y ∷ xs) x zero lt e = inl (sym e)
  contains_at (y ∷ xs) x (suc k) lt e = inr (contains_at xs x k (omega arith) e)

  pub contains_in : (xs : List X) (x : X) → Contains xs x → In x xs
  contains_in xs x c = contains_at xs x c.0 c.1 c.2

  each_less : (compare order : X → X → Ordering) → ComparesBy order compare → (x : X) (xs : List X) → AllByRecursion (λ y. compare x y ≡ Less) xs → AllByRecursion (λ y. order x y ≡ Less) xs
  each_less compare order by x [] h = tt
  each_less compare order by x (y ∷ xs) h = (sym (by x y) ∙ h.0, each_less compare order by x xs h.1)

  -- what is in the one order is in the other
  sorted_by : (compare order : X → X → Ordering) → ComparesBy order compare → (xs : List X) → IsStrictlySortedBy compare xs → IsStrictlySortedBy order xs
  unfolding IsStrictlySortedBy
  sorted_by compare order by [] h = tt
  sorted_by compare order by (x ∷ xs) h = (each_less compare order by x xs h.0, sorted_by compare order by xs h.1)

  module _ {compare order : X → X → Ordering} {same : X → X → Bool} (by : ComparesBy order compare) (total : IsTotalOrder compare) (ties : (x y : X) → same x y ≡ eq_by_cmp compare x y)
      (equivalence : IsEquivalence same) (equal : (x y : X) → same x y ≡ true → x ≡ y) (xs moved ordered : List X) (moves : IsPermutation xs moved) (sorted : IsSorted compare moved) (is : ordered ≡ dedup same moved) where
    -- in order, each once
    pub ordered_once : IsStrictlySortedBy order ordered
    ordered_once = subst (IsStrictlySortedBy order) (sym is) (sorted_by compare order by (dedup same moved) (IsStrictlySortedBy-dedup total ties moved sorted))

    -- the same elements
    pub ordered_same : (x : X) → In x ordered ↔ In x xs
    ordered_same x = (
      λ i. contains_in xs x (Contains-permutation moved xs x (IsPermutation-sym xs moved moves) (Contains-from_dedup same moved x (in_contains (dedup same moved) x (subst (In x) is i)))),
      λ i. subst (In x) (sym is) (contains_in (dedup same moved) x (Contains-dedup equivalence equal moved x (Contains-permutation xs moved x moves (in_contains xs x i)))),
    )
