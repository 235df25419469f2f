-- Elements of lists: at the front and after it, and in a map.
use Rattle.std.proofs.Common.{◌≡◌, ℕ, zero, suc, ◌<◌, ◌⊎◌, inl, inr, List, [], ◌∷◌, map, length, Contains, slice_get, slice_index_or, Some, refl, ap, sym, arith}

module _ {X : Type 0} where
  -- the first element of a list is one of it
  pub front : (x : X) (xs : List X) → Contains (x ∷ xs) x
  front x xs = (0, omega arith, refl)

  -- an element of the rest is one of the list
  pub later : (x y : X) (xs : List X) → Contains xs x → Contains (y ∷ xs) x
  later x y xs c = (suc c.0, (let l = c.1 in omega arith), c.2)

  -- the empty list has none
  pub none : (x : X) → Contains [] x → ⊥
  none x c = absurd (let l = c.1 in omega arith)

  -- an element is the first one or stands after it
  pub first_or : (y : X) (xs : List X) (x : X) → Contains (y ∷ xs) x → (x ≡ y) ⊎ Contains xs x
  first_or y xs x c = at c.0 c.1 c.2
    where
      at : (k : ℕ) → k < length (y ∷ xs) → slice_index_or (y ∷ xs) k x ≡ x → (x ≡ y) ⊎ Contains xs x
      at zero l e = inl (sym e)
      at (suc k) l e = inr (k, omega arith, e)

  -- a list of one element has no other
  pub only_one : (y x : X) → Contains (y ∷ []) x → x ≡ y
  only_one y x c = elim (first_or y [] x c) [ inl e ↦ e | inr i ↦ absurd (none x i) ]

  -- an element at a place is one of the list, and each stands at a place
  pub at_place : (xs : List X) (j : ℕ) (x : X) → slice_get xs j ≡ Some x → Contains xs x
  at_place [] j x e = cc
  at_place (y ∷ xs) zero x e = let f : y ≡ x = cc in rw f (front x xs)
  at_place (y ∷ xs) (suc j) x e = later x y xs (at_place xs j x e)

  -- an element stands at its place
  pub place_of : (xs : List X) (k : ℕ) (x : X) → k < length xs → slice_index_or xs k x ≡ x → slice_get xs k ≡ Some x
  place_of [] k x l e = absurd (omega arith)
  place_of (y ∷ xs) zero x l e = ap Some e
  place_of (y ∷ xs) (suc k) x l e = place_of xs k x (omega arith) e

-- the element of a list that a map makes into another
pub record MapOf {X Y : Type 0} (f : X → Y) (xs : List X) (y : Y) : Type 0 where
  pub element : X
  pub stands : Contains xs element
  pub is : y ≡ f element

module _ {X Y : Type 0} (f : X → Y) where
  -- a map of a list has what the map makes of each element
  pub map_in : (xs : List X) (x : X) → Contains xs x → Contains (map f xs) (f x)
  map_in [] x c = absurd (none x c)
  map_in (y ∷ xs) x c = elim (first_or y xs x c) [
    | inl e ↦ rw e (front (f y) (map f xs))
    | inr i ↦ later (f x) (f y) (map f xs) (map_in xs x i)
  ]

  -- and nothing else
  pub map_out : (xs : List X) (y : Y) → Contains (map f xs) y → MapOf f xs y
  map_out [] y c = absurd (none y c)
  map_out (x ∷ xs) y c = elim (first_or (f x) (map f xs) y c) [
    | inl e ↦ record { element = x; stands = front x xs; is = e }
    | inr i ↦ let w = map_out xs y i in record { element = w.element; stands = later w.element x xs w.stands; is = w.is }
  ]
