-- Elements of lists, lists without repetition, and elements at places.
use Rattle.std.proofs.Common.{◌≡◌, ℕ, zero, suc, ◌<◌, List, [], ◌∷◌, ◌++◌, length, get_or, map, ◌⊎◌, inl, inr, refl, sym, ap, subst, ◌∙◌, arith}
use Rattle.std.specs.Prelude.{Some, nat_eq, slice_get, true}
use Rattle.std.specs.Cmp.Lexicographic.{pointwise}
use Rattle.std.specs.List.{AllByRecursion}
use Rattle.std.proofs.lemmas.Bool.{eqb-true}
use Rattle.std.proofs.lemmas.List.{get_or-map}
use Rattle.std.proofs.lemmas.Option.{none-some, same_Some}
use Rattle.mast_terms.specs.Vocabularies.{EachOnce}
use Rattle.mast_terms.proofs.OrderLemmas.{list_same}
use Rattle.mast_relations.specs.Matches.{In}
use Rattle.mast_relations.specs.Plans.{AreBelow, Once, picked}

-- an element of two lists one after the other is one of the first or of the second
pub in_append : {X : Type 0} (x : X) (xs ys : List X) → In x (xs ++ ys) → In x xs ⊎ In x ys
in_append x [] ys h = inr h
in_append x (z ∷ xs) ys (inl e) = inl (inl e)
in_append x (z ∷ xs) ys (inr h) = elim (in_append x xs ys h) [ inl a ↦ inl (inr a) | inr b ↦ inr b ]

-- what is in the first is in both
pub append_left : {X : Type 0} (x : X) (xs ys : List X) → In x xs → In x (xs ++ ys)
append_left x [] ys i = absurd i
append_left x (y ∷ xs) ys (inl e) = inl e
append_left x (y ∷ xs) ys (inr i) = inr (append_left x xs ys i)

-- and what is in the second
pub append_right : {X : Type 0} (x : X) (xs ys : List X) → In x ys → In x (xs ++ ys)
append_right x [] ys i = i
append_right x (y ∷ xs) ys i = inr (append_right x xs ys i)

-- what holds of each holds of an element
pub each_in : {X : Type 0} (P : X → Type 0) (x : X) (xs : List X) → AllByRecursion P xs → In x xs → P x
each_in P x [] h i = absurd i
each_in P x (y ∷ xs) h (inl e) = subst P (sym e) h.0
each_in P x (y ∷ xs) h (inr i) = each_in P x xs h.1 i

-- and what holds of all elements holds of each
pub in_each : {X : Type 0} (P : X → Type 0) (xs : List X) → ((x : X) → In x xs → P x) → AllByRecursion P xs
in_each P [] k = tt
in_each P (x ∷ xs) k = (k x (inl refl), in_each P xs (λ y i. k y (inr i)))

-- an element at a place
pub in_get : {X : Type 0} (xs : List X) (i : ℕ) (d : X) → i < length xs → In (get_or xs i d) xs
in_get [] i d lt = absurd (omega arith)
in_get (x ∷ xs) zero d lt = inl refl
in_get (x ∷ xs) (suc i) d lt = inr (in_get xs i d (omega arith))

-- the place of an element
pub record StandsAt {X : Type 0} (x : X) (xs : List X) : Type 0 where
  pub place : ℕ
  pub within : place < length xs
  pub is : (d : X) → get_or xs place d ≡ x
  pub read : slice_get xs place ≡ Some x

-- each element has one
pub stands_at : {X : Type 0} (x : X) (xs : List X) → In x xs → StandsAt x xs
stands_at x [] i = absurd i
stands_at x (y ∷ xs) (inl e) = record { place = 0; within = omega arith; is = λ d. sym e; read = ap Some (sym e) }
stands_at x (y ∷ xs) (inr i) =
    let h = stands_at x xs i in
    let lt : h.place < length xs = h.within in
    record { place = suc h.place; within = omega arith; is = h.is; read = h.read }

-- what is read at a place
pub get_of_read : {X : Type 0} (xs : List X) (i : ℕ) (x d : X) → slice_get xs i ≡ Some x → (i < length xs) × (get_or xs i d ≡ x)
get_of_read [] i x d h = absurd (none-some x h)
get_of_read (y ∷ xs) zero x d h = (omega arith, same_Some y x h)
get_of_read (y ∷ xs) (suc i) x d h =
    let r = get_of_read xs i x d h in
    let lt : i < length xs = r.0 in
    (omega arith, r.1)

-- and read it is
pub read_of_get : {X : Type 0} (xs : List X) (i : ℕ) (d : X) → i < length xs → slice_get xs i ≡ Some (get_or xs i d)
read_of_get [] i d lt = absurd (omega arith)
read_of_get (y ∷ xs) zero d lt = refl
read_of_get (y ∷ xs) (suc i) d lt = read_of_get xs i d (omega arith)

-- what holds at each place holds of each
pub each_by_place : {X : Type 0} (P : X → Type 0) (d : X) (xs : List X) → ((i : ℕ) → i < length xs → P (get_or xs i d)) → AllByRecursion P xs
each_by_place P d [] k = tt
each_by_place P d (x ∷ xs) k = (k 0 (omega arith), each_by_place P d xs (λ i lt. k (suc i) (omega arith)))

-- what holds of each holds at each place
pub each_at_place : {X : Type 0} (P : X → Type 0) (d : X) (xs : List X) (i : ℕ) → AllByRecursion P xs → i < length xs → P (get_or xs i d)
each_at_place P d xs i h lt = each_in P (get_or xs i d) xs h (in_get xs i d lt)

-- what holds of each of two lists holds of each of both
pub each_append : {X : Type 0} (P : X → Type 0) (xs ys : List X) → AllByRecursion P xs → AllByRecursion P ys → AllByRecursion P (xs ++ ys)
each_append P [] ys h k = k
each_append P (x ∷ xs) ys h k = (h.0, each_append P xs ys h.1 k)

-- and what holds of each implies what holds of each
pub each_as : {X : Type 0} (P Q : X → Type 0) (xs : List X) → ((x : X) → P x → Q x) → AllByRecursion P xs → AllByRecursion Q xs
each_as P Q [] k h = tt
each_as P Q (x ∷ xs) k h = (k x h.0, each_as P Q xs k h.1)

-- two such lists without a common element, one after the other
pub once_append : {X : Type 0} (xs ys : List X) → Once xs → Once ys → ((x : X) → In x xs → In x ys → ⊥) → Once (xs ++ ys)
once_append [] ys p q apart = q
once_append (x ∷ xs) ys p q apart = (
  λ i. elim (in_append x xs ys i) [ inl a ↦ p.0 a | inr b ↦ apart x (inl refl) b ],
  once_append xs ys p.1 q (λ y i j. apart y (inr i) j),
)

-- with one more that is not there
pub once_push : {X : Type 0} (xs : List X) (y : X) → Once xs → (In y xs → ⊥) → Once (xs ++ y ∷ [])
once_push {X} xs y p new = once_append xs (y ∷ []) p ((λ i. i), tt) apart
  where
    apart : (x : X) → In x xs → In x (y ∷ []) → ⊥
    apart x i (inl e) = new (subst (λ (k : X). In k xs) e i)
    apart x i (inr j) = absurd j

in_read : {X : Type 0} (xs : List X) (i : ℕ) (x : X) → slice_get xs i ≡ Some x → In x xs
in_read {X} xs i x h = let r = get_of_read xs i x x h in subst (λ (k : X). In k xs) r.1 (in_get xs i x r.0)

-- two places of one element of such a list are one
pub each_once : {X : Type 0} (xs : List X) → Once xs → EachOnce xs
each_once [] p i j x a b = absurd (none-some x a)
each_once (y ∷ xs) p zero zero x a b = refl
each_once {X} (y ∷ xs) p zero (suc j) x a b = absurd (p.0 (subst (λ (k : X). In k xs) (sym (same_Some y x a)) (in_read xs j x b)))
each_once {X} (y ∷ xs) p (suc i) zero x a b = absurd (p.0 (subst (λ (k : X). In k xs) (sym (same_Some y x b)) (in_read xs i x a)))
each_once (y ∷ xs) p (suc i) (suc j) x a b = ap suc (each_once xs p.1 i j x a b)

suc_same : (i j : ℕ) → suc i ≡ suc j → i ≡ j
suc_same i j e = omega (arith, e)

-- and the other way
pub once_each : {X : Type 0} (xs : List X) → EachOnce xs → Once xs
once_each [] e = tt
once_each {X} (x ∷ xs) e = (
  λ i. let h = stands_at x xs i in let z : 0 ≡ suc h.place = e 0 (suc h.place) x refl h.read in absurd (omega (arith, z)),
  once_each xs (λ i j y a b. suc_same i j (e (suc i) (suc j) y a b)),
)

-- a map of equal values is the same
pub map_same : {X Y : Type 0} (f g : X → Y) (xs : List X) → ((x : X) → In x xs → f x ≡ g x) → map f xs ≡ map g xs
map_same f g [] k = refl
map_same {X} {Y} f g (x ∷ xs) k =
    ap (λ (y : Y). y ∷ map f xs) (k x (inl refl)) ∙ ap (λ (ys : List Y). g x ∷ ys) (map_same f g xs (λ y i. k y (inr i)))

-- a mapped element
pub in_map : {X Y : Type 0} (f : X → Y) (x : X) (xs : List X) → In x xs → In (f x) (map f xs)
in_map f x [] i = absurd i
in_map f x (y ∷ xs) (inl e) = inl (ap f e)
in_map f x (y ∷ xs) (inr i) = inr (in_map f x xs i)

-- the place of a mapped element
pub record StandsMapped {X Y : Type 0} (f : X → Y) (y : Y) (xs : List X) : Type 0 where
  pub from : X
  pub stands : In from xs
  pub is : y ≡ f from

-- each has one
pub map_in : {X Y : Type 0} (f : X → Y) (y : Y) (xs : List X) → In y (map f xs) → StandsMapped f y xs
map_in f y [] i = absurd i
map_in f y (x ∷ xs) (inl e) = record { from = x; stands = inl refl; is = e }
map_in f y (x ∷ xs) (inr i) = let h = map_in f y xs i in record { from = h.from; stands = inr h.stands; is = h.is }

abbrev rest_of : {X : Type 0} → List X → List X
rest_of [] = []
rest_of (x ∷ xs) = xs

abbrev head_of : {X : Type 0} → X → List X → X
head_of d [] = d
head_of d (x ∷ xs) = x

rest_same : {X : Type 0} (x y : X) (xs ys : List X) → x ∷ xs ≡ y ∷ ys → xs ≡ ys
rest_same {X} x y xs ys e = ap (λ (k : List X). rest_of k) e

head_same : {X : Type 0} (x y : X) (xs ys : List X) → x ∷ xs ≡ y ∷ ys → x ≡ y
head_same {X} x y xs ys e = ap (λ (k : List X). head_of x k) e

-- equal lists with fronts of one length have equal fronts and equal ends
pub append_split : {X : Type 0} (a b c d : List X) → length a ≡ length c → a ++ b ≡ c ++ d → (a ≡ c) × (b ≡ d)
append_split [] b [] d l e = (refl, e)
append_split [] b (y ∷ c) d l e = absurd (omega (arith, l))
append_split (x ∷ a) b [] d l e = absurd (omega (arith, l))
append_split {X} (x ∷ a) b (y ∷ c) d l e =
    let r = append_split a b c d (suc_same (length a) (length c) (add_same l)) (rest_same x y (a ++ b) (c ++ d) e) in
    (ap (λ (k : X). k ∷ a) (head_same x y (a ++ b) (c ++ d) e) ∙ ap (λ (k : List X). y ∷ k) r.0, r.1)
  where
    add_same : length (x ∷ a) ≡ length (y ∷ c) → suc (length a) ≡ suc (length c)
    add_same e = omega (arith, e)

-- picking from a map is a map of what is picked
pub picked_map : (s : ℕ → ℕ) (xs places : List ℕ) → AreBelow (length xs) places → picked (map s xs) places ≡ map s (picked xs places)
picked_map s xs [] b = refl
picked_map s xs (p ∷ places) b =
    ap (λ (k : ℕ). k ∷ picked (map s xs) places) (get_or-map s xs p 0 0 b.0) ∙ ap (λ (k : List ℕ). s (get_or xs p 0) ∷ k) (picked_map s xs places b.1)

-- what is picked the same is the same at each of the places
pub picked_at : (a b places : List ℕ) (p : ℕ) → picked a places ≡ picked b places → In p places → get_or a p 0 ≡ get_or b p 0
picked_at a b [] p e i = absurd i
picked_at a b (q ∷ places) p e (inl h) =
    ap (λ (k : ℕ). get_or a k 0) h ∙ head_same (get_or a q 0) (get_or b q 0) (picked a places) (picked b places) e ∙ ap (λ (k : ℕ). get_or b k 0) (sym h)
picked_at a b (q ∷ places) p e (inr i) = picked_at a b places p (rest_same (get_or a q 0) (get_or b q 0) (picked a places) (picked b places) e) i

-- lists of numbers that are found equal are one
pub numbers_same : (a b : List ℕ) → pointwise nat_eq a b ≡ true → a ≡ b
numbers_same a b h = list_same nat_eq eqb-true a b h
