-- What holds of each element of a list, and of each after a map; elements of lists.
use Rattle.std.proofs.Common.{◌≡◌, suc, List, [], ◌∷◌, ◌++◌, length, map, ◌⊎◌, inl, inr, refl, ap, subst, sym}
use Rattle.std.specs.List.{AllByRecursion}
use Rattle.mast_cq.specs.Queries.{In}

-- what holds of each holds of each after a map that keeps it
pub each_map : {X Y : Type 0} (P : X → Type 0) (Q : Y → Type 0) (f : X → Y) → ((x : X) → P x → Q (f x)) → (xs : List X) → AllByRecursion P xs → AllByRecursion Q (map f xs)
each_map P Q f k [] h = tt
each_map P Q f k (x ∷ xs) h = (k x h.0, each_map P Q f k xs h.1)

-- and what holds of each after a map that reflects it held of each before
pub map_each : {X Y : Type 0} (P : X → Type 0) (Q : Y → Type 0) (f : X → Y) → ((x : X) → Q (f x) → P x) → (xs : List X) → AllByRecursion Q (map f xs) → AllByRecursion P xs
map_each P Q f k [] h = tt
map_each P Q f k (x ∷ xs) h = (k x h.0, map_each P Q f k xs h.1)

-- what holds of each holds of an element
pub each_in : {X : Type 0} (P : X → Type 0) (x : X) (xs : List X) → AllByRecursion P xs → In x xs → P x
each_in P x [] h i = absurd i
each_in P x (y ∷ xs) h (inl e) = subst P (sym e) h.0
each_in P x (y ∷ xs) h (inr i) = each_in P x xs h.1 i

-- and what holds of all elements holds of each
pub in_each : {X : Type 0} (P : X → Type 0) (xs : List X) → ((x : X) → In x xs → P x) → AllByRecursion P xs
in_each P [] k = tt
in_each P (x ∷ xs) k = (k x (inl refl), in_each P xs (λ y i. k y (inr i)))

-- an element of two lists one after the other is one of the first or of the second
pub in_append : {X : Type 0} (x : X) (xs ys : List X) → In x (xs ++ ys) → In x xs ⊎ In x ys
in_append x [] ys h = inr h
in_append x (z ∷ xs) ys (inl e) = inl (inl e)
in_append x (z ∷ xs) ys (inr h) = elim (in_append x xs ys h) [ inl a ↦ inl (inr a) | inr b ↦ inr b ]

-- an element of the first is one of both
pub append_left : {X : Type 0} (x : X) (xs ys : List X) → In x xs → In x (xs ++ ys)
append_left x [] ys h = absurd h
append_left x (z ∷ xs) ys (inl e) = inl e
append_left x (z ∷ xs) ys (inr h) = inr (append_left x xs ys h)

-- an element of the second is one of both
pub append_right : {X : Type 0} (x : X) (xs ys : List X) → In x ys → In x (xs ++ ys)
append_right x [] ys h = h
append_right x (z ∷ xs) ys h = inr (append_right x xs ys h)

-- what an element of a map comes from
pub record Mapped {X Y : Type 0} (f : X → Y) (y : Y) (xs : List X) : Type 0 where
  pub from : X
  pub among : In from xs
  pub is : y ≡ f from

-- an element of a map is what the map makes of an element
pub in_map : {X Y : Type 0} (f : X → Y) (y : Y) (xs : List X) → In y (map f xs) → Mapped f y xs
in_map f y [] i = absurd i
in_map f y (x ∷ xs) (inl e) = record { from = x; among = inl refl; is = e }
in_map f y (x ∷ xs) (inr i) = let w = in_map f y xs i in record { from = w.from; among = inr w.among; is = w.is }

-- and what the map makes of an element is one of the map
pub map_in : {X Y : Type 0} (f : X → Y) (x : X) (xs : List X) → In x xs → In (f x) (map f xs)
map_in f x [] i = absurd i
map_in f x (y ∷ xs) (inl e) = inl (ap f e)
map_in f x (y ∷ xs) (inr i) = inr (map_in f x xs i)

-- a map keeps the length
pub map_length : {X Y : Type 0} (f : X → Y) (xs : List X) → length (map f xs) ≡ length xs
map_length f [] = refl
map_length f (x ∷ xs) = ap suc (map_length f xs)
