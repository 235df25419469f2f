-- Members of lists.
use Rattle.std.proofs.Common.{◌≡◌, ◌⊎◌, inl, inr, List, [], ◌∷◌, Bool, true, false, cond, Option, Some, None, subst, sym, ap, ◌∙◌, refl, Contains}
use Rattle.std.specs.List.{cons_option, filter, filter_map}
use Rattle.mast_cq.specs.Queries.{In}
use Rattle.mast_write.proofs.TextLemmas.{Line, first_or_later, first_in, later_in, none_in}

-- the members that pass a test

module _ {X : Type 0} (test : X → Bool) where
  first_passes : (x y : X) (rest : List X) (b : Bool) → test y ≡ b → In x (cond b (y ∷ rest) rest) → ((x ≡ y) × (test y ≡ true)) ⊎ In x rest
  first_passes x y rest true e (inl h) = inl (h, e)
  first_passes x y rest true e (inr h) = inr h
  first_passes x y rest false e h = inr h

  -- what a filter leaves is a member, and passes
  pub in_filter : (x : X) (xs : List X) → In x (filter test xs) → In x xs × (test x ≡ true)
  in_filter x [] h = absurd h
  in_filter x (y ∷ xs) h = elim (first_passes x y (filter test xs) (test y) refl h) [
    | inl g ↦ (inl g.0, ap test g.0 ∙ g.1)
    | inr g ↦ let rest = in_filter x xs g in (inr rest.0, rest.1)
  ]

  kept : (x y : X) (rest : List X) (b : Bool) → b ≡ true → x ≡ y → In x (cond b (y ∷ rest) rest)
  kept x y rest true e h = inl h
  kept x y rest false e h = absurd (cc)

  still : (x y : X) (rest : List X) (b : Bool) → In x rest → In x (cond b (y ∷ rest) rest)
  still x y rest true h = inr h
  still x y rest false h = h

  -- a member that passes is left
  pub filter_in : (x : X) (xs : List X) → test x ≡ true → In x xs → In x (filter test xs)
  filter_in x [] pass h = absurd h
  filter_in x (y ∷ xs) pass (inl e) = kept x y (filter test xs) (test y) (ap test (sym e) ∙ pass) e
  filter_in x (y ∷ xs) pass (inr h) = still x y (filter test xs) (test y) (filter_in x xs pass h)

-- what members give

-- a member gives this
pub record IsGivenBy {X Y : Type 0} (give : X → Option Y) (xs : List X) (y : Y) : Type 0 where
  pub from : X
  pub among : In from xs
  pub is : give from ≡ Some y

module _ {X Y : Type 0} (give : X → Option Y) where
  first_gives : (y : Y) (o : Option Y) (ys : List Y) → In y (cons_option o ys) → (o ≡ Some y) ⊎ In y ys
  first_gives y None ys h = inr h
  first_gives y (Some z) ys (inl e) = inl (ap (λ k. Some k) (sym e))
  first_gives y (Some z) ys (inr h) = inr h

  -- what is among the things given is given by a member
  pub in_given : (y : Y) (xs : List X) → In y (filter_map give xs) → IsGivenBy give xs y
  in_given y [] h = absurd h
  in_given y (x ∷ xs) h = elim (first_gives y (give x) (filter_map give xs) h) [
    | inl e ↦ record { from = x; among = inl refl; is = e }
    | inr g ↦ let rest = in_given y xs g in record { from = rest.from; among = inr rest.among; is = rest.is }
  ]

  first_given : (y : Y) (o : Option Y) (ys : List Y) → o ≡ Some y → In y (cons_option o ys)
  first_given y o ys e = subst (λ k. In y (cons_option k ys)) (sym e) (inl refl)

  later_given : (y : Y) (o : Option Y) (ys : List Y) → In y ys → In y (cons_option o ys)
  later_given y None ys h = h
  later_given y (Some z) ys h = inr h

  -- what a member gives is among them
  pub given_in : (x : X) (y : Y) (xs : List X) → give x ≡ Some y → In x xs → In y (filter_map give xs)
  given_in x y [] e h = absurd h
  given_in x y (z ∷ xs) e (inl same) = first_given y (give z) (filter_map give xs) (ap give (sym same) ∙ e)
  given_in x y (z ∷ xs) e (inr h) = later_given y (give z) (filter_map give xs) (given_in x y xs e h)

-- a line that stands in a list, by its place
pub in_contains : (line : Line) (lines : List Line) → In line lines → Contains lines line
in_contains line [] h = absurd h
in_contains line (l ∷ lines) (inl e) = subst (λ x. Contains (x ∷ lines) line) e (first_in line lines)
in_contains line (l ∷ lines) (inr h) = later_in l line lines (in_contains line lines h)

contains_either : (line l : Line) (lines : List Line) → (l ≡ line) ⊎ Contains lines line → (Contains lines line → In line lines) → In line (l ∷ lines)
contains_either line l lines (inl e) later = inl (sym e)
contains_either line l lines (inr h) later = inr (later h)

-- and by its place again
pub contains_in : (line : Line) (lines : List Line) → Contains lines line → In line lines
contains_in line [] h = absurd (none_in line h)
contains_in line (l ∷ lines) h = contains_either line l lines (first_or_later l line lines h.0 h.1 h.2) (λ g. contains_in line lines g)
