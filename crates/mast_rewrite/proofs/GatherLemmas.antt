-- What a function gives of each element of a list, one list after the other.
use Rattle.std.proofs.Common.{◌≡◌, List, [], ◌∷◌, ◌++◌, Option, Some, None, ◌⊎◌, inl, inr, Contains, refl, sym, subst}
use Rattle.std.proofs.lemmas.List.Elements.{Contains-append_left, Contains-append_right}
use Rattle.mast_tbox.proofs.MemberLemmas.{front, later, none, first_or, only_one}

-- one list after the other
abbrev pub gather : {X Y : Type 0} → (X → List Y) → List X → List Y
gather f [] = []
gather f (x ∷ xs) = f x ++ gather f xs

-- y is one of what f gives of an element
pub record Gathered {X Y : Type 0} (f : X → List Y) (xs : List X) (y : Y) : Type 0 where
  pub element : X
  pub stands : Contains xs element
  pub gives : Contains (f element) y

-- what stands in one of two lists that are joined
pub append_or : {X : Type 0} (xs ys : List X) (x : X) → Contains (xs ++ ys) x → Contains xs x ⊎ Contains ys x
append_or [] ys x c = inr c
append_or (y ∷ xs) ys x c = elim (first_or y (xs ++ ys) x c) [
  | inl e ↦ inl (subst (Contains (y ∷ xs)) (sym e) (front y xs))
  | inr d ↦ elim (append_or xs ys x d) [ inl i ↦ inl (later x y xs i) | inr i ↦ inr i ]
]

module _ {X Y : Type 0} (f : X → List Y) where
  -- what f gives of an element is gathered
  pub gathers : (xs : List X) (x : X) (y : Y) → Contains xs x → Contains (f x) y → Contains (gather f xs) y
  gathers [] x y c d = absurd (none x c)
  gathers (z ∷ xs) x y c d = elim (first_or z xs x c) [
    | inl e ↦ Contains-append_left (f z) (gather f xs) y (subst (λ w. Contains (f w) y) e d)
    | inr i ↦ Contains-append_right (f z) (gather f xs) y (gathers xs x y i d)
  ]

  -- and nothing else is
  pub gathered : (xs : List X) (y : Y) → Contains (gather f xs) y → Gathered f xs y
  gathered [] y c = absurd (none y c)
  gathered (z ∷ xs) y c = elim (append_or (f z) (gather f xs) y c) [
    | inl d ↦ record { element = z; stands = front z xs; gives = d }
    | inr d ↦ (let w = gathered xs y d in record { element = w.element; stands = later w.element z xs w.stands; gives = w.gives })
  ]

-- the list of what an option has
abbrev pub of_option : {X : Type 0} → Option X → List X
of_option None = []
of_option (Some x) = x ∷ []

-- it contains what the option has
pub option_in : {X : Type 0} (o : Option X) (x : X) → o ≡ Some x → Contains (of_option o) x
option_in None x e = cc
option_in (Some y) x e = let f : y ≡ x = cc in subst (λ z. Contains (z ∷ []) x) (sym f) (front x [])

-- and nothing else
pub in_option : {X : Type 0} (o : Option X) (x : X) → Contains (of_option o) x → o ≡ Some x
in_option None x c = absurd (none x c)
in_option (Some y) x c = let f = only_one y x c in rw f refl
