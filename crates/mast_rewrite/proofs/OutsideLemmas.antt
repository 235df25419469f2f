-- The elements of a list but for those at two places.
use Rattle.std.proofs.Common.{◌≡◌, ◌++◌, map, drop, length, slice_index_or, append_assoc, append-nil, ℕ, zero, suc, ◌+◌, ◌<◌, ◌≤◌, Bool, true, false, nat_eq, ◌||◌, List, [], ◌∷◌, refl, sym, ap, ◌∙◌, arith, if◌then◌else◌}
use Rattle.std.proofs.lemmas.List.{drop_more, drop_all}
use borrow.Author.Tests.{eqb-true, eq-eqb}
use Rattle.mast_cq.specs.ListPlaces.{leave_out}
use Rattle.mast_rewrite.specs.inside.Growing.{outside}

apart : (i j : ℕ) (b : Bool) → nat_eq i j ≡ b → (i ≡ j → ⊥) → nat_eq i j ≡ false
apart i j true e n = absurd (n (eqb-true i j e))
apart i j false e n = e

module _ {X : Type 0} where
  at_neither : (i j k : ℕ) (x : X) (xs : List X) → (k ≡ i → ⊥) → (k ≡ j → ⊥) → outside i j k (x ∷ xs) ≡ x ∷ outside i j (suc k) xs
  at_neither i j k x xs n m =
      ap (λ b. if b || nat_eq k j then outside i j (suc k) xs else x ∷ outside i j (suc k) xs) (apart k i (nat_eq k i) refl n)
      ∙ ap (λ b. if b then outside i j (suc k) xs else x ∷ outside i j (suc k) xs) (apart k j (nat_eq k j) refl m)

  at_first : (i j k : ℕ) (x : X) (xs : List X) → k ≡ i → outside i j k (x ∷ xs) ≡ outside i j (suc k) xs
  at_first i j k x xs e = ap (λ b. if b || nat_eq k j then outside i j (suc k) xs else x ∷ outside i j (suc k) xs) (eq-eqb k i e)

  at_second : (i j k : ℕ) (x : X) (xs : List X) → (k ≡ i → ⊥) → k ≡ j → outside i j k (x ∷ xs) ≡ outside i j (suc k) xs
  at_second i j k x xs n e =
      ap (λ b. if b || nat_eq k j then outside i j (suc k) xs else x ∷ outside i j (suc k) xs) (apart k i (nat_eq k i) refl n)
      ∙ ap (λ b. if b then outside i j (suc k) xs else x ∷ outside i j (suc k) xs) (eq-eqb k j e)

  none_left : (i j k : ℕ) (xs : List X) → i < k → j < k → outside i j k xs ≡ xs
  none_left i j k [] a b = refl
  none_left i j k (x ∷ xs) a b = at_neither i j k x xs (λ e. omega arith) (λ e. omega arith) ∙ ap (λ w. x ∷ w) (none_left i j (suc k) xs (omega arith) (omega arith))

  one_left : (i j k d : ℕ) (xs : List X) → i < k → j ≡ k + d → outside i j k xs ≡ leave_out d xs
  one_left i j k d [] a e = refl
  one_left i j k zero (x ∷ xs) a e = at_second i j k x xs (λ f. omega arith) (omega arith) ∙ none_left i j (suc k) xs (omega arith) (omega arith)
  one_left i j k (suc d) (x ∷ xs) a e = at_neither i j k x xs (λ f. omega arith) (λ f. omega arith) ∙ ap (λ w. x ∷ w) (one_left i j (suc k) d xs (omega arith) (omega arith))

  two_left : (i j k a b : ℕ) (xs : List X) → i ≡ k + a → j ≡ k + b → a < b → outside i j k xs ≡ leave_out a (leave_out b xs)
  two_left i j k a b [] e f l = refl
  two_left i j k a zero (x ∷ xs) e f l = absurd (omega arith)
  two_left i j k zero (suc b) (x ∷ xs) e f l = at_first i j k x xs (omega arith) ∙ one_left i j (suc k) b xs (omega arith) (omega arith)
  two_left i j k (suc a) (suc b) (x ∷ xs) e f l =
      at_neither i j k x xs (λ g. omega arith) (λ g. omega arith) ∙ ap (λ w. x ∷ w) (two_left i j (suc k) a b xs (omega arith) (omega arith) (omega arith))

  -- they are the list with both left out
  pub outside_is : (i j : ℕ) (xs : List X) → i < j → outside i j 0 xs ≡ leave_out i (leave_out j xs)
  outside_is i j xs l = two_left i j 0 i j xs (omega arith) (omega arith) l

  -- an element at one of the two places is passed over
  pub outside_pass : (i j k : ℕ) (x : X) (xs : List X) → (nat_eq k i || nat_eq k j) ≡ true → outside i j k (x ∷ xs) ≡ outside i j (suc k) xs
  outside_pass i j k x xs e = ap (λ b. if b then outside i j (suc k) xs else x ∷ outside i j (suc k) xs) e

  -- and any other stands there
  pub outside_keep : (i j k : ℕ) (x : X) (xs : List X) → (k ≡ i → ⊥) → (k ≡ j → ⊥) → outside i j k (x ∷ xs) ≡ x ∷ outside i j (suc k) xs
  outside_keep = at_neither

  pub outside_first : (i j k : ℕ) (x : X) (xs : List X) → k ≡ i → outside i j k (x ∷ xs) ≡ outside i j (suc k) xs
  outside_first = at_first

  pub outside_second : (i j k : ℕ) (x : X) (xs : List X) → (k ≡ i → ⊥) → k ≡ j → outside i j k (x ∷ xs) ≡ outside i j (suc k) xs
  outside_second = at_second

-- one element more, unless it stands at one of the places
pub outside_next : {X Y : Type 0} (f : X → Y) (i j k : ℕ) (d : X) (xs : List X) (old new W : List Y) → k < length xs
    → new ≡ (if nat_eq k i || nat_eq k j then old else old ++ f (slice_index_or xs k d) ∷ [])
    → old ++ map f (outside i j k (drop k xs)) ≡ W → new ++ map f (outside i j (k + 1) (drop (k + 1) xs)) ≡ W
outside_next f i j k d xs old new W l e w = go (nat_eq k i || nat_eq k j) refl
  where
    s : drop k xs ≡ slice_index_or xs k d ∷ drop (k + 1) xs
    s = drop_more xs k d l

    n : suc k ≡ k + 1
    n = omega arith

    go : (b : Bool) → (nat_eq k i || nat_eq k j) ≡ b → new ++ map f (outside i j (k + 1) (drop (k + 1) xs)) ≡ W
    go true t =
        ap (λ v. v ++ map f (outside i j (k + 1) (drop (k + 1) xs))) (e ∙ ap (λ b. if b then old else old ++ f (slice_index_or xs k d) ∷ []) t)
        ∙ (ap (λ m. old ++ map f (outside i j m (drop (k + 1) xs))) (sym n)
        ∙ (ap (λ v. old ++ map f v) (sym (ap (λ b. if b then outside i j (suc k) (drop (k + 1) xs) else slice_index_or xs k d ∷ outside i j (suc k) (drop (k + 1) xs)) t))
        ∙ (ap (λ v. old ++ map f (outside i j k v)) (sym s) ∙ w)))
    go false t =
        ap (λ v. v ++ map f (outside i j (k + 1) (drop (k + 1) xs))) (e ∙ ap (λ b. if b then old else old ++ f (slice_index_or xs k d) ∷ []) t)
        ∙ (append_assoc old (f (slice_index_or xs k d) ∷ []) (map f (outside i j (k + 1) (drop (k + 1) xs)))
        ∙ (ap (λ m. old ++ f (slice_index_or xs k d) ∷ map f (outside i j m (drop (k + 1) xs))) (sym n)
        ∙ (ap (λ v. old ++ map f v) (sym (ap (λ b. if b then outside i j (suc k) (drop (k + 1) xs) else slice_index_or xs k d ∷ outside i j (suc k) (drop (k + 1) xs)) t))
        ∙ (ap (λ v. old ++ map f (outside i j k v)) (sym s) ∙ w))))

-- after the last element
pub outside_end : {X Y : Type 0} (f : X → Y) (i j k : ℕ) (xs : List X) (new W : List Y) (a : Y) → length xs ≤ k → i < j → new ++ map f (outside i j k (drop k xs)) ≡ a ∷ map f (outside i j 0 xs)
    → new ≡ a ∷ map f (leave_out i (leave_out j xs))
outside_end f i j k xs new W a l b e =
    sym (append-nil new) ∙ (ap (λ v. new ++ map f (outside i j k v)) (sym (drop_all k xs l)) ∙ (e ∙ ap (λ v. a ∷ map f v) (outside_is i j xs b)))
