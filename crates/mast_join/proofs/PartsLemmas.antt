-- Lists of one length, kept one after another.
use Rattle.std.proofs.Common.{◌≡◌, ℕ, zero, suc, ◌+◌, ◌*◌, ◌<◌, ◌≤◌, List, [], ◌∷◌, ◌++◌, length, get_or, take, drop, refl, sym, ap, ◌∙◌, add-one, arith}
use Rattle.std.proofs.lemmas.List.{drop-drop, length-drop, nil_from_length, take_all, take-append-le, drop-append-le}
use Rattle.std.proofs.Math.Nat.{suc-mul, zero-mul, mul-le-mul_right}
use Rattle.mast_join.specs.Chosen.{ChoiceList}
use Rattle.mast_join.specs.inside.Parts.{parts}

-- there are as many as were said
pub length-parts : (w n : ℕ) (xs : List ℕ) → length (parts w n xs) ≡ n
length-parts w zero xs = refl
length-parts w (suc n) xs = let rest : length (parts w n (drop w xs)) ≡ n = length-parts w n (drop w xs) in omega arith

-- each is a slice of the elements
pub part_at : (w n : ℕ) (xs : List ℕ) (i : ℕ) → i < n → get_or (parts w n xs) i [] ≡ take w (drop (i * w) xs)
part_at w zero xs i lt = absurd (omega arith)
part_at w (suc n) xs zero lt = ap (λ (k : ℕ). take w (drop k xs)) (sym (zero-mul w))
part_at w (suc n) xs (suc i) lt =
    part_at w n (drop w xs) i (omega arith) ∙ ap (take w) (drop-drop (i * w) w xs) ∙ ap (λ (k : ℕ). take w (drop k xs)) (omega (arith, suc-mul i w))

-- each is whole
pub part_within : (w n i size : ℕ) → size ≡ n * w → i < n → i * w + w ≤ size
part_within w n i size e lt = let le : i + 1 ≤ n = omega arith in omega (arith, e, mul-le-mul_right w le, suc-mul i w, add-one i)

-- one more
pub parts_push : (w n : ℕ) (xs ys : List ℕ) → length xs ≡ n * w → length ys ≡ w → parts w (n + 1) (xs ++ ys) ≡ parts w n xs ++ ys ∷ []
parts_push w n xs ys size long = ap (λ (k : ℕ). parts w k (xs ++ ys)) (add-one n) ∙ by n xs size
  where
    last : (xs : List ℕ) → xs ≡ [] → parts w (suc zero) (xs ++ ys) ≡ ys ∷ []
    last xs e = rw (e, take_all w ys (omega (arith, long))) refl

    by : (n : ℕ) (xs : List ℕ) → length xs ≡ n * w → parts w (suc n) (xs ++ ys) ≡ parts w n xs ++ ys ∷ []
    by zero xs h = let none : xs ≡ [] = nil_from_length xs (h ∙ zero-mul w) in last xs none
    by (suc n) xs h =
        let le : w ≤ length xs = omega (arith, h, suc-mul n w) in
        let size : length (drop w xs) ≡ n * w = omega (arith, length-drop w xs, h, suc-mul n w) in
        let head : take w (xs ++ ys) ≡ take w xs = take-append-le w xs ys le in
        let tail : drop w (xs ++ ys) ≡ drop w xs ++ ys = drop-append-le w xs ys le in
        let rest : parts w (suc n) (drop w xs ++ ys) ≡ parts w n (drop w xs) ++ ys ∷ [] = by n (drop w xs) size in
        ap (λ (k : List ℕ). k ∷ parts w (suc n) (drop w (xs ++ ys))) head ∙ ap (λ (k : List ℕ). take w xs ∷ parts w (suc n) k) tail ∙ ap (λ (k : List (List ℕ)). take w xs ∷ k) rest

-- so many lists that are not empty have as many elements or more
pub parts_few : (w n : ℕ) → 0 < w → n ≤ n * w
parts_few w zero p = omega arith
parts_few w (suc n) p = let r : n ≤ n * w = parts_few w n p in omega (arith, suc-mul n w)

abbrev listed : ℕ → List (List ℕ) → ChoiceList
listed width list = record { width = width; list = list }

-- The same of a list of choices, by what is seen of it.
module _ (w n : ℕ) (xs : List ℕ) (now : ChoiceList) (size : length xs ≡ n * w) (view : listed w (parts w n xs) ≡ now) where
  pub view_count : n ≡ length now.list
  view_count = sym (length-parts w n xs) ∙ ap (λ (x : ChoiceList). length x.list) view

  pub view_width : w ≡ now.width
  view_width = ap (λ (x : ChoiceList). x.width) view

  pub view_within : (i : ℕ) → i < length now.list → i * w + w ≤ length xs
  view_within i lt = part_within w n i (length xs) size (omega (arith, lt, view_count))

  pub view_part : (i : ℕ) → i < length now.list → take w (drop (i * w) xs) ≡ get_or now.list i []
  view_part i lt = sym (part_at w n xs i (omega (arith, lt, view_count))) ∙ ap (λ (x : ChoiceList). get_or x.list i []) view

  count_case : (k : ℕ) → k ≡ w → (now.width ≡ 0 → now.list ≡ []) → n ≤ length xs
  count_case zero e none =
      let z : length now.list ≡ 0 = ap length (none (sym view_width ∙ sym e)) in omega (arith, z, view_count)
  count_case (suc k) e none = let r : n ≤ n * w = parts_few w n (omega (arith, e)) in omega (arith, r, size)

  pub view_few : (now.width ≡ 0 → now.list ≡ []) → n ≤ length xs
  view_few none = count_case w refl none

  pub view_push : (ys new : List ℕ) → length ys ≡ now.width → new ≡ xs ++ ys → parts w (n + 1) new ≡ now.list ++ ys ∷ []
  view_push ys new long e = ap (parts w (n + 1)) e ∙ parts_push w n xs ys size (long ∙ sym view_width) ∙ ap (λ (x : ChoiceList). x.list ++ ys ∷ []) view
