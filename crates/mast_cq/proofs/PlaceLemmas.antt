-- What holds of each element, and of the element at each place.
use borrow.Author.Tests.{eqb-true, eq-eqb}
use Rattle.std.proofs.Common.{◌≡◌, ℕ, zero, suc, Bool, true, false, nat_eq, List, [], ◌∷◌, map, slice_get, slice_set, Some, refl, ap, subst, sym, ◌∙◌}
use Rattle.std.specs.List.{AllByRecursion}

some_inj : {X : Type 0} (x y : X) → Some x ≡ Some y → x ≡ y
some_inj x y e = cc

-- what holds of each holds at each place, and the other way
pub all_at : {X : Type 0} (P : X → Type 0) (xs : List X) (k : ℕ) (x : X) → AllByRecursion P xs → slice_get xs k ≡ Some x → P x
all_at P [] k x h e = cc
all_at P (y ∷ xs) zero x h e = subst P (some_inj y x e) h.0
all_at P (y ∷ xs) (suc k) x h e = all_at P xs k x h.1 e

-- what holds at each place holds of each
pub at_all : {X : Type 0} (P : X → Type 0) (xs : List X) → ((k : ℕ) (x : X) → slice_get xs k ≡ Some x → P x) → AllByRecursion P xs
at_all P [] h = tt
at_all P (x ∷ xs) h = (h 0 x refl, at_all P xs (λ k y e. h (suc k) y e))

-- the element at a place after a map
pub get_map : {X Y : Type 0} (f : X → Y) (xs : List X) (k : ℕ) (x : X) → slice_get xs k ≡ Some x → slice_get (map f xs) k ≡ Some (f x)
get_map f [] k x e = cc
get_map f (y ∷ xs) zero x e = ap (λ z. Some (f z)) (some_inj y x e)
get_map f (y ∷ xs) (suc k) x e = get_map f xs k x e

-- and after a write at that place, and at another
pub get_set : {X : Type 0} (xs : List X) (i : ℕ) (a x : X) → slice_get xs i ≡ Some x → slice_get (slice_set xs i a) i ≡ Some a
get_set [] i a x e = cc
get_set (y ∷ xs) zero a x e = refl
get_set (y ∷ xs) (suc i) a x e = get_set xs i a x e

pub get_other : {X : Type 0} (xs : List X) (i k : ℕ) (a : X) → (k ≡ i → ⊥) → slice_get (slice_set xs i a) k ≡ slice_get xs k
get_other [] i k a n = refl
get_other (y ∷ xs) zero zero a n = absurd (n refl)
get_other (y ∷ xs) zero (suc k) a n = refl
get_other (y ∷ xs) (suc i) zero a n = refl
get_other (y ∷ xs) (suc i) (suc k) a n = get_other xs i k a (λ e. n (ap suc e))

-- a place that is there has an element, also before a map
pub record There {X : Type 0} (xs : List X) (k : ℕ) : Type 0 where
  pub element : X
  pub is : slice_get xs k ≡ Some element

-- a place that is there after a map was there before
pub there_map : {X Y : Type 0} (f : X → Y) (xs : List X) (k : ℕ) (y : Y) → slice_get (map f xs) k ≡ Some y → There xs k
there_map f [] k y e = cc
there_map f (x ∷ xs) zero y e = record { element = x; is = refl }
there_map f (x ∷ xs) (suc k) y e = let w = there_map f xs k y e in record { element = w.element; is = w.is }

-- a write keeps which places are there
pub set_there : {X : Type 0} (xs : List X) (i k : ℕ) (a x : X) → slice_get xs k ≡ Some x → There (slice_set xs i a) k
set_there [] i k a x e = cc
set_there (y ∷ xs) zero zero a x e = record { element = a; is = refl }
set_there (y ∷ xs) zero (suc k) a x e = record { element = x; is = e }
set_there (y ∷ xs) (suc i) zero a x e = record { element = y; is = refl }
set_there (y ∷ xs) (suc i) (suc k) a x e = let w = set_there xs i k a x e in record { element = w.element; is = w.is }

pub there_set : {X : Type 0} (xs : List X) (i k : ℕ) (a y : X) → slice_get (slice_set xs i a) k ≡ Some y → There xs k
there_set [] i k a y e = cc
there_set (x ∷ xs) zero zero a y e = record { element = x; is = refl }
there_set (x ∷ xs) zero (suc k) a y e = record { element = y; is = e }
there_set (x ∷ xs) (suc i) zero a y e = record { element = x; is = refl }
there_set (x ∷ xs) (suc i) (suc k) a y e = let w = there_set xs i k a y e in record { element = w.element; is = w.is }

-- the element at a place after two writes of one element, the second at j and the first at i
pub data AfterTwo {X : Type 0} (xs : List X) (i j k : ℕ) (a y : X) : Type 0 where
  written : y ≡ a → AfterTwo xs i j k a y
  kept : slice_get xs k ≡ Some y → AfterTwo xs i j k a y

apart : (k i : ℕ) → nat_eq k i ≡ false → k ≡ i → ⊥
apart k i f e = let t = eq-eqb k i e in cc

-- after two writes of one element each place has it, or what it had
pub after_two : {X : Type 0} (xs : List X) (i j k : ℕ) (a y : X) → slice_get (slice_set (slice_set xs i a) j a) k ≡ Some y → AfterTwo xs i j k a y
after_two xs i j k a y e = at_j (nat_eq k j) refl
  where
    one : (ys : List _) (n : ℕ) → slice_get (slice_set ys n a) k ≡ Some y → k ≡ n → y ≡ a
    one ys n f g =
        let w = there_set ys n k a y f in
        some_inj y a (sym f ∙ subst (λ m. slice_get (slice_set ys m a) k ≡ Some a) g (get_set ys k a w.element w.is))

    at_i : (b : Bool) → nat_eq k i ≡ b → slice_get (slice_set xs i a) k ≡ Some y → AfterTwo xs i j k a y
    at_i true f g = written (one xs i g (eqb-true k i f))
    at_i false f g = kept (sym (get_other xs i k a (apart k i f)) ∙ g)

    at_j : (b : Bool) → nat_eq k j ≡ b → AfterTwo xs i j k a y
    at_j true f = written (one (slice_set xs i a) j e (eqb-true k j f))
    at_j false f = at_i (nat_eq k i) refl (sym (get_other (slice_set xs i a) j k a (apart k j f)) ∙ e)

-- what stands at the two places after the writes
pub two_second : {X : Type 0} (xs : List X) (i j : ℕ) (a x : X) → slice_get xs j ≡ Some x → slice_get (slice_set (slice_set xs i a) j a) j ≡ Some a
two_second xs i j a x e = let w = set_there xs i j a x e in get_set (slice_set xs i a) j a w.element w.is

-- after two writes the first place has the element, where it was there
pub two_first : {X : Type 0} (xs : List X) (i j : ℕ) (a x : X) → slice_get xs i ≡ Some x → slice_get (slice_set (slice_set xs i a) j a) i ≡ Some a
two_first xs i j a x e = go (nat_eq i j) refl
  where
    go : (b : Bool) → nat_eq i j ≡ b → slice_get (slice_set (slice_set xs i a) j a) i ≡ Some a
    go true f =
        let g = eqb-true i j f in
        subst (λ m. slice_get (slice_set (slice_set xs i a) m a) i ≡ Some a) g (let w = set_there xs i i a x e in get_set (slice_set xs i a) i a w.element w.is)
    go false f = get_other (slice_set xs i a) j i a (apart i j f) ∙ get_set xs i a x e

-- and elsewhere
pub two_other : {X : Type 0} (xs : List X) (i j k : ℕ) (a : X) → nat_eq k i ≡ false → nat_eq k j ≡ false → slice_get (slice_set (slice_set xs i a) j a) k ≡ slice_get xs k
two_other xs i j k a f g = get_other (slice_set xs i a) j k a (apart k j g) ∙ get_other xs i k a (apart k i f)
