-- Reading digits one by one accepts what is a number, and stops where no number goes on.
use Rattle.std.proofs.Common.{◌≡◌, inl, inr, ℕ, zero, suc, ◌+◌, ◌*◌, ◌-◌, ◌<◌, ◌≤◌, ◌^◌, ◌&&◌, Bool, true, false, List, ◌∷◌, [], ◌++◌, length, take, refl, ap, sym, ◌∙◌, subst, arith, add-one}
use Rattle.std.specs.Prelude.{Option, Some, None, IsSome, Result, Ok, Err, nat_le, if◌then◌else◌, IfErr}
use Rattle.std.specs.Result.{result_ok}
use Rattle.std.proofs.lemmas.List.{append-nil}
use Rattle.std.proofs.lemmas.Bool.{and_parts, and_cases, and_left, and_right, cases_Bool, ne_eqb}
use Rattle.std.proofs.lemmas.Bool.Decides.{nat_tests}
use Rattle.mast_terms.specs.Cells.{Begins, IsLongestFront}
use Rattle.mast_terms.specs.IntegerCell.{is_digit, are_digits, number_after, magnitude, as_positive, as_negative, integer_of, IsInteger}
use Rattle.mast_terms.specs.inside.Digits.{LongestMagnitude, NoSign, read_digits, read_all_digits}

grows : (n : ℕ) (bs : List ℕ) → n ≤ number_after n bs
grows n [] = omega arith
grows n (b ∷ bs) = omega (arith, grows (n * 10 + (b - 48)) bs)

-- digits of a number that is not above `most`
abbrev pub within : ℕ → ℕ → List ℕ → Bool
within most size ds = are_digits ds && nat_le (number_after size ds) most

-- the first byte does not go on
stops : (most size b : ℕ) (bs : List ℕ) → (is_digit b && nat_le (size * 10 + (b - 48)) most) ≡ false → within most size (b ∷ bs) ≡ false
stops most size b bs h = elim (and_cases (is_digit b) (nat_le (size * 10 + (b - 48)) most) h) [
  | inl fails ↦ and_left (is_digit b && are_digits bs) (nat_le (number_after (size * 10 + (b - 48)) bs) most) (and_left (is_digit b) (are_digits bs) fails)
  | inr fails ↦ and_right (is_digit b && are_digits bs) (nat_le (number_after (size * 10 + (b - 48)) bs) most) (let g = grows (size * 10 + (b - 48)) bs in grind (arith, nat_tests, fails, g))
]

goes : (most size b : ℕ) (bs : List ℕ) → is_digit b ≡ true → within most size (b ∷ bs) ≡ within most (size * 10 + (b - 48)) bs
goes most size b bs h = rw h refl

ok_is : (most at size : ℕ) (ds : List ℕ) → size ≤ most → result_ok (read_digits most at size ds) ≡ (if within most size ds then Some (number_after size ds) else None)
ok_is most at size [] h = grind (arith, nat_tests)
ok_is most at size (b ∷ bs) h = elim (cases_Bool (is_digit b && nat_le (size * 10 + (b - 48)) most)) [
  | inl e ↦
      let p = and_parts (is_digit b) (nat_le (size * 10 + (b - 48)) most) e in
      let small : size * 10 + (b - 48) ≤ most = grind (arith, nat_tests, p) in
      rw (e, goes most size b bs p.0) (ok_is most (at + 1) (size * 10 + (b - 48)) bs small)
  | inr e ↦ rw (e, stops most size b bs e) refl
]

-- an error stands behind where reading began
low : (most at size k : ℕ) (ds : List ℕ) → read_digits most at size ds ≡ Err k → at ≤ k
low most at size k [] h = absurd (cc)
low most at size k (b ∷ bs) h = elim (cases_Bool (is_digit b && nat_le (size * 10 + (b - 48)) most)) [
  | inl e ↦ let r = low most (at + 1) (size * 10 + (b - 48)) k bs (rw e at h) in omega arith
  | inr e ↦ let r : ◌≡◌ {A = Result ℕ ℕ} (Err at) (Err k) = rw e at h in let s : at ≡ k = cc in omega arith
]

-- and before the end
high : (most at size k : ℕ) (ds : List ℕ) → read_digits most at size ds ≡ Err k → k < at + length ds
high most at size k [] h = absurd (cc)
high most at size k (b ∷ bs) h = elim (cases_Bool (is_digit b && nat_le (size * 10 + (b - 48)) most)) [
  | inl e ↦ let r = high most (at + 1) (size * 10 + (b - 48)) k bs (rw e at h) in omega arith
  | inr e ↦ let r : ◌≡◌ {A = Result ℕ ℕ} (Err at) (Err k) = rw e at h in let s : at ≡ k = cc in omega arith
]

-- what was read before it are digits of a number that is not above `most`
front : (most at size j k : ℕ) (ds : List ℕ) → size ≤ most → k ≡ at + j → read_digits most at size ds ≡ Err k → within most size (take j ds) ≡ true
front most at size j k [] h same r = absurd (cc)
front most at size zero k (b ∷ bs) h same r = grind (arith, nat_tests)
front most at size (suc j) k (b ∷ bs) h same r = elim (cases_Bool (is_digit b && nat_le (size * 10 + (b - 48)) most)) [
  | inl e ↦
      let p = and_parts (is_digit b) (nat_le (size * 10 + (b - 48)) most) e in
      let small : size * 10 + (b - 48) ≤ most = grind (arith, nat_tests, p) in
      goes most size b (take j bs) p.0 ∙ front most (at + 1) (size * 10 + (b - 48)) j k bs small (omega arith) (rw e at r)
  | inr e ↦ let q : ◌≡◌ {A = Result ℕ ℕ} (Err at) (Err k) = rw e at r in let s : at ≡ k = cc in absurd (omega arith)
]

-- with the next byte, reading stops there whatever follows
stop_at : (most at size k n : ℕ) (ds more : List ℕ) → read_digits most at size ds ≡ Err k → k < at + n → read_digits most at size (take n ds ++ more) ≡ Err k
stop_at most at size k n [] more r h = absurd (cc)
stop_at most at size k zero (b ∷ bs) more r h = let l = low most at size k (b ∷ bs) r in absurd (omega arith)
stop_at most at size k (suc n) (b ∷ bs) more r h = elim (cases_Bool (is_digit b && nat_le (size * 10 + (b - 48)) most)) [
  | inl e ↦ rw e (stop_at most (at + 1) (size * 10 + (b - 48)) k n bs more (rw e at r) (omega arith))
  | inr e ↦ rw e (rw e at r)
]

-- reading gives what `magnitude` says
pub all_is : (most : ℕ) (ds : List ℕ) → result_ok (read_all_digits most ds) ≡ magnitude most ds
all_is most [] = refl
all_is most (b ∷ bs) = ok_is most 0 0 (b ∷ bs) (omega arith)

some_front : (most : ℕ) (b : ℕ) (bs : List ℕ) → within most 0 (b ∷ bs) ≡ true → IsSome (magnitude most (b ∷ bs))
some_front most b bs h = rw h refl

zero_begins : (most : ℕ) → IsSome (magnitude most (48 ∷ []))
zero_begins most = grind (arith, nat_tests)

mag_begins : (most k j : ℕ) (ds : List ℕ) → k ≡ j → read_digits most 0 0 ds ≡ Err k → (more : List ℕ) × IsSome (magnitude most (take j ds ++ more))
mag_begins most k zero ds same r = (48 ∷ [], zero_begins most)
mag_begins most k (suc j) [] same r = absurd (cc)
mag_begins most k (suc j) (b ∷ bs) same r = ([], subst (λ (t : List ℕ). IsSome (magnitude most (b ∷ t))) (sym (append-nil (take j bs))) (some_front most b (take j bs) (front most 0 0 (suc j) k (b ∷ bs) (omega arith) (omega arith) r)))

mag_none : (most k n : ℕ) (ds more : List ℕ) → read_digits most 0 0 ds ≡ Err k → k < n → magnitude most (take n ds ++ more) ≡ None
mag_none most k zero ds more r h = absurd (omega arith)
mag_none most k (suc n) [] more r h = absurd (cc)
mag_none most k (suc n) (b ∷ bs) more r h = sym (all_is most (b ∷ (take n bs ++ more))) ∙ ap result_ok (stop_at most 0 0 k (suc n) (b ∷ bs) more r (omega arith))

-- where reading stops, the longest front that begins a number ends
pub mag_longest : (most k : ℕ) (ds : List ℕ) → read_all_digits most ds ≡ Err k → LongestMagnitude most ds k
mag_longest most k [] h = let e : k ≡ 0 = cc in record { inside = omega arith; begins = (48 ∷ [], subst (λ (j : ℕ). IsSome (magnitude most (take j [] ++ 48 ∷ []))) (sym e) (zero_begins most)); longest = λ n more lt le. absurd (omega arith) }
mag_longest most k (b ∷ bs) h = record {
  inside = omega (arith, high most 0 0 k (b ∷ bs) h);
  begins = mag_begins most k k (b ∷ bs) refl h;
  longest = λ n more lt le. mag_none most k n (b ∷ bs) more h lt;
}

none_is : (m : Option ℕ) → m ≡ None → IsSome (as_positive m) → ⊥
none_is None e h = absurd (cc)
none_is (Some x) e h = absurd (cc)

none_is_negative : (m : Option ℕ) → m ≡ None → IsSome (as_negative m) → ⊥
none_is_negative None e h = absurd (cc)
none_is_negative (Some x) e h = absurd (cc)

some_positive : (m : Option ℕ) → IsSome m → IsSome (as_positive m)
some_positive None h = absurd (cc)
some_positive (Some x) h = refl

some_negative : (m : Option ℕ) → IsSome m → IsSome (as_negative m)
some_negative None h = absurd (cc)
some_negative (Some x) h = refl

not_above : (n at : ℕ) → (at < n → ⊥) → n ≤ at
not_above n at h = grind arith

-- after a minus
pub minus_longest : (ds : List ℕ) (at : ℕ) → LongestMagnitude (2 ^ 63) ds at → IsLongestFront IsInteger (45 ∷ ds) (at + 1)
minus_longest ds at h = record {
  within = omega (arith, h.inside);
  begins = rw add-one (h.begins.0, some_negative (magnitude (2 ^ 63) (take at ds ++ h.begins.0)) h.begins.1);
  longest = far;
} where
  far : (n : ℕ) → n ≤ length (45 ∷ ds) → Begins IsInteger (take n (45 ∷ ds)) → n ≤ at + 1
  far zero le b = omega arith
  far (suc n) le b = not_above (suc n) (at + 1) (λ lt. none_is_negative (magnitude (2 ^ 63) (take n ds ++ b.0)) (h.longest n b.0 (omega arith) (omega arith)) b.1)

-- after a plus
pub plus_longest : (ds : List ℕ) (at : ℕ) → LongestMagnitude (2 ^ 63 - 1) ds at → IsLongestFront IsInteger (43 ∷ ds) (at + 1)
plus_longest ds at h = record {
  within = omega (arith, h.inside);
  begins = rw add-one (h.begins.0, some_positive (magnitude (2 ^ 63 - 1) (take at ds ++ h.begins.0)) h.begins.1);
  longest = far;
} where
  far : (n : ℕ) → n ≤ length (43 ∷ ds) → Begins IsInteger (take n (43 ∷ ds)) → n ≤ at + 1
  far zero le b = omega arith
  far (suc n) le b = not_above (suc n) (at + 1) (λ lt. none_is (magnitude (2 ^ 63 - 1) (take n ds ++ b.0)) (h.longest n b.0 (omega arith) (omega arith)) b.1)

-- without a sign, an integer is the number of its digits
pub plain_int : (b : ℕ) (bs : List ℕ) → NoSign (b ∷ bs) → integer_of (b ∷ bs) ≡ as_positive (magnitude (2 ^ 63 - 1) (b ∷ bs))
plain_int b bs h = rw (ne_eqb b 45 h.0, ne_eqb b 43 h.1) refl

-- without a sign
pub plain_longest : (ds : List ℕ) (at : ℕ) → NoSign ds → LongestMagnitude (2 ^ 63 - 1) ds at → IsLongestFront IsInteger ds at
plain_longest ds at s h = record { within = h.inside; begins = near at ds s h.begins; longest = λ n le b. far n ds s le (h.longest n) b } where
  near : (j : ℕ) (xs : List ℕ) → NoSign xs → (more : List ℕ) × IsSome (magnitude (2 ^ 63 - 1) (take j xs ++ more)) → Begins IsInteger (take j xs)
  near zero xs s b = (48 ∷ [], refl)
  near (suc j) [] s b = (48 ∷ [], refl)
  near (suc j) (x ∷ xs) s b = (b.0, subst IsSome (sym (plain_int x (take j xs ++ b.0) s)) (some_positive (magnitude (2 ^ 63 - 1) (x ∷ (take j xs ++ b.0))) b.1))

  far : (n : ℕ) (xs : List ℕ) → NoSign xs → n ≤ length xs → ((more : List ℕ) → at < n → n ≤ length xs → magnitude (2 ^ 63 - 1) (take n xs ++ more) ≡ None) → Begins IsInteger (take n xs) → n ≤ at
  far zero xs s le stop b = omega arith
  far (suc n) [] s le stop b = absurd (omega arith)
  far (suc n) (x ∷ xs) s le stop b = not_above (suc n) at (λ lt. none_is (magnitude (2 ^ 63 - 1) (x ∷ (take n xs ++ b.0))) (stop b.0 lt le) (subst IsSome (plain_int x (take n xs ++ b.0) s) b.1))

-- the number of the whole text
pub plain_value : (ds : List ℕ) → NoSign ds → integer_of ds ≡ as_positive (magnitude (2 ^ 63 - 1) ds)
plain_value [] s = refl
plain_value (d ∷ ds) s = plain_int d ds s

-- what reading says of magnitudes
pub mag_answer : (most : ℕ) (ds : List ℕ) (r : Result ℕ ℕ) → r ≡ read_all_digits most ds → IfErr r (λ at. LongestMagnitude most ds at)
mag_answer most ds (Ok x) e = tt
mag_answer most ds (Err k) e = mag_longest most k ds (sym e)

-- of no bytes the longest front is empty
pub empty_front : (bytes : List ℕ) → length bytes < 1 → IsLongestFront IsInteger bytes 0
empty_front [] h = record { within = omega arith; begins = (48 ∷ [], refl); longest = λ n le b. le }
empty_front (b ∷ bs) h = absurd (omega arith)
