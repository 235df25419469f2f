-- Elements of lists, by membership and by place, and what holds of each.
use Rattle.std.proofs.Common.{◌≡◌, ℕ, zero, suc, ◌<◌, inl, inr, List, [], ◌∷◌, ◌++◌, length, get_or, Contains, slice_get, Some, refl, ap, sym, subst, arith}
use Rattle.std.specs.List.{AllByRecursion}
use Rattle.std.proofs.lemmas.Option.{none-some, same_Some}
use Rattle.mast_cq.specs.Queries.{In}
use Rattle.mast_tbox.proofs.MemberLemmas.{front, later, none, first_or}

module _ {X : Type 0} where
  -- an element of a list stands at a place of it
  pub in_contains : (x : X) (xs : List X) → In x xs → Contains xs x
  in_contains x [] i = absurd i
  in_contains x (y ∷ xs) (inl e) = subst (λ (z : X). Contains (y ∷ xs) z) (sym e) (front y xs)
  in_contains x (y ∷ xs) (inr i) = later x y xs (in_contains x xs i)

  -- and what stands at a place is an element
  pub contains_in : (x : X) (xs : List X) → Contains xs x → In x xs
  contains_in x [] c = absurd (none x c)
  contains_in x (y ∷ xs) c = elim (first_or y xs x c) [ inl e ↦ inl e | inr i ↦ inr (contains_in x xs i) ]

  -- what is read at a place is an element
  pub read_in : (xs : List X) (i : ℕ) (x : X) → slice_get xs i ≡ Some x → In x xs
  read_in [] i x h = absurd (none-some x h)
  read_in (y ∷ xs) zero x h = inl (sym (same_Some y x h))
  read_in (y ∷ xs) (suc i) x h = inr (read_in xs i x h)

  -- what is read before the end of a list is read of a longer one
  pub read_more : (xs ys : List X) (i : ℕ) → i < length xs → slice_get (xs ++ ys) i ≡ slice_get xs i
  read_more [] ys i lt = absurd (omega arith)
  read_more (x ∷ xs) ys zero lt = refl
  read_more (x ∷ xs) ys (suc i) lt = read_more xs ys i (omega arith)

  -- a place that is read is before the end
  pub read_within : (xs : List X) (i : ℕ) (x : X) → slice_get xs i ≡ Some x → i < length xs
  read_within [] i x h = absurd (none-some x h)
  read_within (y ∷ xs) zero x h = omega arith
  read_within (y ∷ xs) (suc i) x h = let lt = read_within xs i x h in omega arith

  -- a place of an element, as the list is read there
  pub record IsRead (x : X) (xs : List X) : Type 0 where
    pub place : ℕ
    pub is : slice_get xs place ≡ Some x

  -- each element is read at some place
  pub in_read : (x : X) (xs : List X) → In x xs → IsRead x xs
  in_read x [] i = absurd i
  in_read x (y ∷ xs) (inl e) = record { place = 0; is = ap Some (sym e) }
  in_read x (y ∷ xs) (inr i) = let r = in_read x xs i in record { place = suc r.place; is = r.is }

  -- what holds of each of two lists holds of each of both
  pub each_append : (P : X → Type 0) (xs ys : List X) → AllByRecursion P xs → AllByRecursion P ys → AllByRecursion P (xs ++ ys)
  each_append P [] ys h k = k
  each_append P (x ∷ xs) ys h k = (h.0, each_append P xs ys h.1 k)

  -- and what holds of each of both holds of each of the first
  pub each_front : (P : X → Type 0) (xs ys : List X) → AllByRecursion P (xs ++ ys) → AllByRecursion P xs
  each_front P [] ys h = tt
  each_front P (x ∷ xs) ys h = (h.0, each_front P xs ys h.1)

  -- what holds of each, where it follows from another
  pub each_weaker : (P Q : X → Type 0) → ((x : X) → P x → Q x) → (xs : List X) → AllByRecursion P xs → AllByRecursion Q xs
  each_weaker P Q k [] h = tt
  each_weaker P Q k (x ∷ xs) h = (k x h.0, each_weaker P Q k xs h.1)

  -- what stands at a place is read there
  pub read_at : (xs : List X) (i : ℕ) (x : X) → i < length xs → x ≡ get_or xs i x → slice_get xs i ≡ Some x
  read_at [] i x lt e = absurd (omega arith)
  read_at (y ∷ xs) zero x lt e = ap Some (sym e)
  read_at (y ∷ xs) (suc i) x lt e = read_at xs i x (omega arith) e

  -- what holds of each holds of what stands at a place
  pub each_at : (P : X → Type 0) (xs : List X) (i : ℕ) (x : X) → AllByRecursion P xs → i < length xs → x ≡ get_or xs i x → P x
  each_at P [] i x h lt e = absurd (omega arith)
  each_at P (y ∷ xs) zero x h lt e = subst P (sym e) h.0
  each_at P (y ∷ xs) (suc i) x h lt e = each_at P xs i x h.1 (omega arith) e

  -- and of what is read there
  pub each_got : (P : X → Type 0) (xs : List X) (i : ℕ) (d : X) → AllByRecursion P xs → i < length xs → P (get_or xs i d)
  each_got P [] i d h lt = absurd (omega arith)
  each_got P (y ∷ xs) zero d h lt = h.0
  each_got P (y ∷ xs) (suc i) d h lt = each_got P xs i d h.1 (omega arith)
