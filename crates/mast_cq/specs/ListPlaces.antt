-- Two elements taken out of a list, and the places where they stand.
use Rattle.std.specs.Prelude.{◌≡◌, ℕ, zero, suc, ◌<◌, List, [], ◌∷◌, slice_get, Some}

-- the list with the element at the place left out
abbrev pub leave_out : {X : Type 0} → ℕ → List X → List X
leave_out i [] = []
leave_out zero (x ∷ xs) = xs
leave_out (suc i) (x ∷ xs) = x ∷ leave_out i xs

-- x stands at a place, y at a later one, and the rest is the list without these two places
pub record TwoPlaces {X : Type 0} (xs : List X) (x y : X) (rest : List X) : Type 0 where
  pub one : ℕ
  pub other : ℕ
  pub before : one < other
  pub one_is : slice_get xs one ≡ Some x
  pub other_is : slice_get xs other ≡ Some y
  pub others : rest ≡ leave_out one (leave_out other xs)
