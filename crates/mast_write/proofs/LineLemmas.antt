-- Lines sorted as places, each kept once.
use Rattle.std.proofs.Common.{◌≡◌, ◌<◌, ◌+◌, ℕ, zero, suc, Bool, true, false, cond, List, [], ◌∷◌, map, length, get_or, subst, sym, ap, ◌∙◌, refl, nat_cmp, nat_eq, Less, Ordering, Contains, IsPermutation, IsSorted, arith}
use Rattle.std.proofs.lemmas.List.Kept.{IsStrictlySortedBy-dedup, Contains-dedup, Contains-from_dedup}
use Rattle.std.proofs.lemmas.List.Sorted.{All-permutation, Contains-permutation, IsPermutation-map, IsPermutation-sym}
use Rattle.std.proofs.lemmas.Cmp.{nat_list_eq_equiv}
use Rattle.std.specs.List.{All, dedup, dedup_from, AllByRecursion}
use Rattle.std.specs.List.Sorted.{IsStrictlySortedBy}
use Rattle.std.specs.Ordering.{is_lt}
use Rattle.std.specs.Cmp.Lexicographic.{slice_cmp, pointwise, bytes_decides, on_texts, texts_ties}
use Rattle.mast_write.specs.LineText.{IsCountedText, IsTextOf, StandsIn, lines_text}
use Rattle.mast_write.specs.inside.Places.{ArePlaces, Begins, IsPlace, Place, kept, line_of, lines_of}
use Rattle.mast_write.proofs.WordLemmas.{place_order, same_order}

by_test : {X : Type 0} (b : Bool) (x y u v : X) → x ≡ u → y ≡ v → cond b x y ≡ cond b u v
by_test true x y u v e h = e
by_test false x y u v e h = h

map_cond : {X Y : Type 0} (f : X → Y) (b : Bool) (xs ys : List X) → map f (cond b xs ys) ≡ cond b (map f xs) (map f ys)
map_cond f true xs ys = refl
map_cond f false xs ys = refl

dedup_from_map : {X Y : Type 0} (f : X → Y) (same : Y → Y → Bool) (x : X) (xs : List X) → map f (dedup_from (λ a b. same (f a) (f b)) x xs) ≡ dedup_from same (f x) (map f xs)
dedup_from_map f same x [] = refl
dedup_from_map f same x (y ∷ ys) =
    map_cond f (same (f y) (f x)) _ _ ∙ by_test (same (f y) (f x)) _ _ _ _ (dedup_from_map f same x ys) (ap (λ ls. f x ∷ ls) (dedup_from_map f same y ys))

dedup_map : {X Y : Type 0} (f : X → Y) (same : Y → Y → Bool) (xs : List X) → map f (dedup (λ a b. same (f a) (f b)) xs) ≡ dedup same (map f xs)
dedup_map f same [] = refl
dedup_map f same (x ∷ xs) = dedup_from_map f same x xs

all_map : {X Y : Type 0} (f : X → Y) (P : Y → Type 0) (xs : List X) → AllByRecursion (λ a. P (f a)) xs → AllByRecursion P (map f xs)
all_map f P [] h = tt
all_map f P (x ∷ xs) h = (h.0, all_map f P xs h.1)

strict_map : {X Y : Type 0} (f : X → Y) (R : Y → Y → Ordering) (xs : List X) → IsStrictlySortedBy (λ a b. R (f a) (f b)) xs → IsStrictlySortedBy R (map f xs)
unfolding IsStrictlySortedBy
strict_map f R [] h = tt
strict_map f R (x ∷ xs) h = (all_map f (λ y. R (f x) y ≡ Less) xs h.0, strict_map f R xs h.1)

-- lists of bytes that compare as equal are one
same_bytes : (xs ys : List ℕ) → pointwise nat_eq xs ys ≡ true → xs ≡ ys
same_bytes xs ys h = (bytes_decides xs ys).0 h

all_at : {X : Type 0} (P : X → Type 0) (xs : List X) → AllByRecursion P xs → (k : ℕ) (d : X) → k < length xs → P (get_or xs k d)
all_at P [] h k d less = absurd (omega arith)
all_at P (x ∷ xs) h zero d less = h.0
all_at P (x ∷ xs) h (suc k) d less = all_at P xs h.1 k d (omega arith)

fronts_at : (front : List ℕ) (places : List Place) → AllByRecursion (Begins front) (lines_of places) → (k : ℕ) (d : Place) → k < length places → Begins front (line_of (get_or places k d))
fronts_at front [] h k d less = absurd (omega arith)
fronts_at front (p ∷ places) h zero d less = h.0
fronts_at front (p ∷ places) h (suc k) d less = fronts_at front places h.1 k d (omega arith)

-- places in their order are in the order of their lines
sorted_lines : (front : List ℕ) (places : List Place) → All (λ p. Begins front (line_of p)) places → All (IsPlace (length front)) places
    → IsSorted place_order places → IsSorted (λ p q. slice_cmp nat_cmp (line_of p) (line_of q)) places
sorted_lines front places fronts words sorted k d from less =
    let low : k < length places = omega arith in
    sym (ap is_lt (same_order front (get_or places (k + 1) d) (get_or places k d) (fronts (k + 1) d less) (fronts k d low) (words (k + 1) d less) (words k d low)))
    ∙ sorted k d from less

text_of_places : (lines : List (List ℕ)) (places sorted : List Place) (text : List ℕ) → ArePlaces lines places → IsPermutation places sorted → IsSorted place_order sorted
    → text ≡ lines_text (kept (lines_of sorted)) → IsTextOf (StandsIn lines) text
text_of_places lines places sorted text are moved ordered is =
    let begun = subst (AllByRecursion (Begins are.front)) (sym are.are) are.begin in
    let fronts = All-permutation (λ (p : Place). Begins are.front (line_of p)) places sorted moved (fronts_at are.front places begun) in
    let words = All-permutation (IsPlace (length are.front)) places sorted moved (all_at (IsPlace (length are.front)) places are.words) in
    let same = dedup_map line_of (pointwise nat_eq) sorted in
    let there = IsPermutation-map line_of places sorted moved in
    record {
      lines = dedup (pointwise nat_eq) (lines_of sorted);
      sorted = subst (IsStrictlySortedBy (slice_cmp nat_cmp)) same (strict_map line_of (slice_cmp nat_cmp) _ (IsStrictlySortedBy-dedup (on_texts line_of) (λ a b. texts_ties (line_of a) (line_of b)) sorted (sorted_lines are.front sorted fronts words ordered)));
      each = λ l h. subst (λ ls. Contains ls l) are.are (Contains-permutation (lines_of sorted) (lines_of places) l (IsPermutation-sym _ _ there) (Contains-from_dedup (pointwise nat_eq) (lines_of sorted) l h));
      all = λ l h. Contains-dedup nat_list_eq_equiv same_bytes (lines_of sorted) l (Contains-permutation (lines_of places) (lines_of sorted) l there (subst (λ ls. Contains ls l) (sym are.are) h));
      is = is;
    }

-- the lines of sorted places, each once, are the text of the lines before, and are as many
pub counted_of_places : (lines : List (List ℕ)) (places sorted : List Place) (text : List ℕ) (count : ℕ) → ArePlaces lines places → IsPermutation places sorted
    → IsSorted place_order sorted → text ≡ lines_text (kept (lines_of sorted)) → count ≡ length (kept (lines_of sorted)) → IsCountedText (StandsIn lines) text count
unfolding text_of_places
counted_of_places lines places sorted text count are moved ordered is members = record {
  set = text_of_places lines places sorted text are moved ordered is;
  members = members;
}
