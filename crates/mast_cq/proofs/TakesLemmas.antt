-- Taking elements out of a list: what holds of each, and the places where they stand.
use Rattle.std.proofs.Common.{◌≡◌, ℕ, suc, zero, ◌<◌, List, [], ◌∷◌, length, refl, ap, subst, sym, arith, slice_get, Some, ◌⊎◌, inl, inr}
use Rattle.std.specs.List.{AllByRecursion}
use Rattle.mast_cq.specs.Queries.{Takes, first, later, TakesTwo, here, beyond}
use Rattle.mast_cq.specs.ListPlaces.{leave_out, TwoPlaces}

-- what holds of each holds of one and of the rest, and back
pub each_takes : {X : Type 0} (P : X → Type 0) {xs : List X} {x : X} {rest : List X} → Takes xs x rest → AllByRecursion P xs → P x × AllByRecursion P rest
each_takes P first h = (h.0, h.1)
each_takes P (later t) h = let w = each_takes P t h.1 in (w.0, (h.0, w.1))

-- and what holds of one and of the rest holds of each
pub takes_each : {X : Type 0} (P : X → Type 0) {xs : List X} {x : X} {rest : List X} → Takes xs x rest → P x → AllByRecursion P rest → AllByRecursion P xs
takes_each P first p h = (p, h)
takes_each P (later t) p h = (h.0, takes_each P t p h.1)

-- what holds of two that are taken out, and of each of the rest, holds of each
pub two_each : {X : Type 0} (P : X → Type 0) {xs : List X} {x y : X} {rest : List X} → TakesTwo xs x y rest → P x → P y → AllByRecursion P rest → AllByRecursion P xs
two_each P (here t) p q h = (p, takes_each P t q h)
two_each P (beyond t) p q h = (h.0, two_each P t p q h.1)

-- what holds of each holds of the two that are taken out, and of each of the rest
pub two_out : {X : Type 0} (P : X → Type 0) {xs : List X} {x y : X} {rest : List X} → TakesTwo xs x y rest → AllByRecursion P xs → P x × P y × AllByRecursion P rest
two_out P (here t) h = let w = each_takes P t h.1 in (h.0, w.0, w.1)
two_out P (beyond t) h = let w = two_out P t h.1 in (w.0, w.1, (h.0, w.2))

-- the rest has one element less
pub takes_length : {X : Type 0} {xs : List X} {x : X} {rest : List X} → Takes xs x rest → length xs ≡ suc (length rest)
takes_length first = refl
takes_length (later t) = ap suc (takes_length t)

-- the rest has two elements less, where two are taken out
pub two_length : {X : Type 0} {xs : List X} {x y : X} {rest : List X} → TakesTwo xs x y rest → length xs ≡ suc (suc (length rest))
two_length (here t) = ap suc (takes_length t)
two_length (beyond t) = ap suc (two_length t)

-- two elements that stand in a list stand there in one order or the other
pub either_order : {X : Type 0} {xs : List X} {x y : X} {others rest : List X} → Takes xs x others → Takes others y rest → TakesTwo xs x y rest ⊎ TakesTwo xs y x rest
either_order first u = inl (here u)
either_order (later t) first = inr (here t)
either_order (later t) (later u) = elim (either_order t u) [ inl a ↦ inl (beyond a) | inr b ↦ inr (beyond b) ]

same : {X : Type 0} (x y : X) → Some x ≡ Some y → x ≡ y
same x y e = cc

record Place {X : Type 0} (xs : List X) (x : X) (rest : List X) : Type 0 where
  at : ℕ
  is : slice_get xs at ≡ Some x
  others : rest ≡ leave_out at xs

place_of : {X : Type 0} {xs : List X} {x : X} {rest : List X} → Takes xs x rest → Place xs x rest
place_of first = record { at = zero; is = refl; others = refl }
place_of (later {y = y} t) = let w = place_of t in record { at = suc w.at; is = w.is; others = ap (λ r. y ∷ r) w.others }

takes_at : {X : Type 0} (xs : List X) (x : X) (i : ℕ) → slice_get xs i ≡ Some x → Takes xs x (leave_out i xs)
takes_at [] x i e = cc
takes_at (y ∷ xs) x zero e = subst (λ z. Takes (y ∷ xs) z xs) (same y x e) first
takes_at (y ∷ xs) x (suc i) e = later (takes_at xs x i e)

-- the places of two elements that are taken out
pub places_of : {X : Type 0} {xs : List X} {x y : X} {rest : List X} → TakesTwo xs x y rest → TwoPlaces xs x y rest
places_of (here t) = let w = place_of t in record { one = zero; other = suc w.at; before = omega arith; one_is = refl; other_is = w.is; others = w.others }
places_of (beyond {z = z} t) =
    let w = places_of t in
    record { one = suc w.one; other = suc w.other; before = (let l = w.before in omega arith); one_is = w.one_is; other_is = w.other_is; others = ap (λ r. z ∷ r) w.others }

two_at : {X : Type 0} (xs : List X) (x y : X) (i j : ℕ) → i < j → slice_get xs i ≡ Some x → slice_get xs j ≡ Some y → TakesTwo xs x y (leave_out i (leave_out j xs))
two_at [] x y i j l a b = cc
two_at (z ∷ xs) x y i zero l a b = absurd (omega arith)
two_at (z ∷ xs) x y zero (suc j) l a b = subst (λ v. TakesTwo (z ∷ xs) v y (leave_out j xs)) (same z x a) (here (takes_at xs y j b))
two_at (z ∷ xs) x y (suc i) (suc j) l a b = beyond (two_at xs x y i j (omega arith) a b)

-- and the two elements at two places are taken out
pub at_places : {X : Type 0} (xs : List X) (x y : X) (rest : List X) → TwoPlaces xs x y rest → TakesTwo xs x y rest
at_places xs x y rest w = subst (TakesTwo xs x y) (sym w.others) (two_at xs x y w.one w.other w.before w.one_is w.other_is)
