-- The printed form of a value tells the value, whatever follows a comma.
use Rattle.std.proofs.Common.{◌≡◌, ℕ, pos, negsuc, zero, suc, ◌+◌, ◌/◌, ◌%◌, ◌<◌, ◌≤◌, ◌==◌, true, false, List, map, ◌∷◌, [], ◌++◌, refl, ap, sym, ◌∙◌, subst, arith}
use Rattle.std.proofs.lemmas.List.{append_assoc}
use Rattle.std.proofs.lemmas.Bool.{and_parts, and_from, both_ways}
use Rattle.std.proofs.lemmas.Bool.Decides.{nat_tests}
use Rattle.std.proofs.lemmas.Int.Digits.{same_from_digits_of, number_digits_of, all_below_base_digits_of}
use Rattle.std.specs.Int.Digits.{digits_of, number_from_digits, AllBelowBase}
use Rattle.std.specs.List.{flat_map}
use Rattle.std.specs.Coded.{le_prop}
use Rattle.std.specs.Prelude.{Option, Some, None, if◌then◌else◌}
use Rattle.mast_terms.specs.Printed.{number_text, two_digits, date_text, escaped, quoted, value_text}
use Rattle.mast_terms.specs.IntegerCell.{is_digit, are_digits}
use Rattle.mast_terms.specs.Calendar.{IsDay}
use Rattle.mast_terms.specs.declared.date.Date.{Date}
use Rattle.mast_terms.specs.declared.value.Value.{Value}
use Rattle.mast_terms.specs.declared.value.Value.TheVariants as v

-- the digits of a number, as characters
shown : List ℕ → List ℕ
shown ds = map (λ d. 48 + d) ds

shown_same : (ds es : List ℕ) → shown ds ≡ shown es → ds ≡ es
unfolding shown
shown_same [] [] h = refl
shown_same [] (e ∷ es) h = absurd (cc)
shown_same (d ∷ ds) [] h = absurd (cc)
shown_same (d ∷ ds) (e ∷ es) h =
    let first : 48 + d ≡ 48 + e = cc in
    let rest : map (λ d. 48 + d) ds ≡ map (λ d. 48 + d) es = cc in
    let same : d ≡ e = omega arith in
    let more : ds ≡ es = shown_same ds es rest in cc

shown_digits : (ds : List ℕ) → AllBelowBase 10 ds → are_digits (shown ds) ≡ true
unfolding shown
shown_digits [] h = refl
shown_digits (d ∷ ds) h = and_from _ _ (grind (arith, nat_tests)) (shown_digits ds h.1)

-- a number is printed in digits
pub number_digits : (n : ℕ) → are_digits (number_text n) ≡ true
unfolding number_text shown
number_digits zero = refl
number_digits (suc n) = shown_digits (digits_of 10 (suc n)) (all_below_base_digits_of 10 (suc n) (omega arith))

some_digits : (ds : List ℕ) → are_digits ds ≡ true → (ds ≡ [] → ⊥) → (b : ℕ) × (bs : List ℕ) × (ds ≡ b ∷ bs) × (is_digit b ≡ true)
some_digits [] h some = absurd (some refl)
some_digits (b ∷ bs) h some = (b, bs, refl, (and_parts (is_digit b) (are_digits bs) h).0)

-- a number is printed in one digit or more
pub number_some : (n : ℕ) → number_text n ≡ [] → ⊥
unfolding number_text shown
number_some zero h = cc
number_some (suc n) h =
    let none : digits_of 10 (suc n) ≡ [] = shown_same (digits_of 10 (suc n)) [] h in
    let same : suc n ≡ 0 = same_from_digits_of 10 (suc n) 0 (omega arith) none in cc

-- there is a first digit
number_first : (n : ℕ) → (b : ℕ) × (bs : List ℕ) × (number_text n ≡ b ∷ bs) × (is_digit b ≡ true)
number_first n = some_digits (number_text n) (number_digits n) (number_some n)

not_zero : (n : ℕ) → number_text 0 ≡ number_text (suc n) → ⊥
unfolding number_text shown
not_zero n h =
    let e : 0 ∷ [] ≡ digits_of 10 (suc n) = shown_same (0 ∷ []) (digits_of 10 (suc n)) h in
    let f : 0 ≡ suc n = ap (number_from_digits 10) e ∙ number_digits_of 10 (suc n) (omega arith) in cc

number_same : (m n : ℕ) → number_text m ≡ number_text n → m ≡ n
unfolding number_text shown
number_same zero zero h = refl
number_same zero (suc n) h = absurd (not_zero n h)
number_same (suc m) zero h = absurd (not_zero m (sym h))
number_same (suc m) (suc n) h = same_from_digits_of 10 (suc m) (suc n) (omega arith) (shown_same (digits_of 10 (suc m)) (digits_of 10 (suc n)) h)

-- no digit comes first
abbrev pub NoDigitFirst : List ℕ → Type 0
NoDigitFirst [] = Unit {0}
NoDigitFirst (b ∷ bs) = is_digit b ≡ false

-- digits end where no digit follows
digits_end : (xs ys r s : List ℕ) → are_digits xs ≡ true → are_digits ys ≡ true → NoDigitFirst r → NoDigitFirst s → xs ++ r ≡ ys ++ s → (xs ≡ ys) × (r ≡ s)
digits_end [] [] r s dx dy nr ns h = (refl, h)
digits_end [] (y ∷ ys) r s dx dy nr ns h = absurd (both_ways (is_digit y) (subst NoDigitFirst h nr) (and_parts (is_digit y) (are_digits ys) dy).0)
digits_end (x ∷ xs) [] r s dx dy nr ns h = absurd (both_ways (is_digit x) (subst NoDigitFirst (sym h) ns) (and_parts (is_digit x) (are_digits xs) dx).0)
digits_end (x ∷ xs) (y ∷ ys) r s dx dy nr ns h =
    let first : x ≡ y = cc in
    let rest : xs ++ r ≡ ys ++ s = cc in
    let more = digits_end xs ys r s (and_parts (is_digit x) (are_digits xs) dx).1 (and_parts (is_digit y) (are_digits ys) dy).1 nr ns rest in
    let m0 : xs ≡ ys = more.0 in (cc, more.1)

-- reads one byte of a quoted text
plain : ℕ → ℕ
plain c = if c == 110 then 10 else if c == 114 then 13 else if c == 116 then 9 else c

first_of_quoted : List ℕ → Option (ℕ × List ℕ)
first_of_quoted [] = None
first_of_quoted (b ∷ []) = if b == 34 then None else Some (b, [])
first_of_quoted (b ∷ c ∷ rest) = if b == 34 then None else if b == 92 then Some (plain c, rest) else Some (b, c ∷ rest)

-- it gives back the byte
escaped_read : (b : ℕ) (rest : List ℕ) → first_of_quoted (escaped b ++ rest) ≡ Some (b, rest)
unfolding first_of_quoted plain
escaped_read b [] = grind (arith, nat_tests)
escaped_read b (c ∷ rest) = grind (arith, nat_tests)

-- a quote ends it
quote_read : (rest : List ℕ) → first_of_quoted (34 ∷ rest) ≡ None
unfolding first_of_quoted
quote_read [] = refl
quote_read (c ∷ rest) = refl

first_or : Option (ℕ × List ℕ) → ℕ
first_or None = 0
first_or (Some p) = p.0

rest_or : Option (ℕ × List ℕ) → List ℕ
rest_or None = []
rest_or (Some p) = p.1

quoted_end : (a b r s : List ℕ) → flat_map escaped a ++ 34 ∷ r ≡ flat_map escaped b ++ 34 ∷ s → (a ≡ b) × (r ≡ s)
unfolding first_or rest_or
quoted_end [] [] r s h = let e : r ≡ s = cc in (refl, e)
quoted_end [] (y ∷ ys) r s h =
    let e = rw append_assoc at h in
    let p = escaped_read y (flat_map escaped ys ++ 34 ∷ s) in
    let q = quote_read r in
    let k = ap first_of_quoted e in absurd (cc (p, q, k))
quoted_end (x ∷ xs) [] r s h =
    let e = rw append_assoc at h in
    let p = escaped_read x (flat_map escaped xs ++ 34 ∷ r) in
    let q = quote_read s in
    let k = ap first_of_quoted e in absurd (cc (p, q, k))
quoted_end (x ∷ xs) (y ∷ ys) r s h =
    let e : escaped x ++ (flat_map escaped xs ++ 34 ∷ r) ≡ escaped y ++ (flat_map escaped ys ++ 34 ∷ s) = simp append_assoc at h in
    let p = escaped_read x (flat_map escaped xs ++ 34 ∷ r) in
    let q = escaped_read y (flat_map escaped ys ++ 34 ∷ s) in
    let k : Some (x, flat_map escaped xs ++ 34 ∷ r) ≡ Some (y, flat_map escaped ys ++ 34 ∷ s) = sym p ∙ ap first_of_quoted e ∙ q in
    let same : x ≡ y = ap first_or k in
    let rest : flat_map escaped xs ++ 34 ∷ r ≡ flat_map escaped ys ++ 34 ∷ s = ap rest_or k in
    let more = quoted_end xs ys r s rest in
    let m0 : xs ≡ ys = more.0 in (cc, more.1)

-- nothing more, or a comma first
abbrev pub Ends : List ℕ → Type 0
Ends [] = Unit {0}
Ends (b ∷ bs) = b ≡ 44

Ends-no_digit : (r : List ℕ) → Ends r → NoDigitFirst r
Ends-no_digit [] h = tt
Ends-no_digit (b ∷ bs) h = rw h refl

is_day_prop : (y m d : ℕ) → IsProp (IsDay y m d)
is_day_prop y m d = hlevel le_prop

-- a date is its year, month and day
day_at : ℕ → ℕ → ℕ → Date → Type 0
day_at y m d a = (w : IsDay y m d) → a ≡ record { year = y; month = m; day = d; valid = w }

date_same : (a b : Date) → a.year ≡ b.year → a.month ≡ b.month → a.day ≡ b.day → a ≡ b
unfolding day_at
date_same a b y m d =
    let same : day_at a.year a.month a.day a = λ w. ap (λ (v : IsDay a.year a.month a.day). let it : Date = record { year = a.year; month = a.month; day = a.day; valid = v } in it) (is_day_prop a.year a.month a.day a.valid w) in
    let day : day_at a.year a.month b.day a = subst (λ (k : ℕ). day_at a.year a.month k a) d same in
    let month : day_at a.year b.month b.day a = subst (λ (k : ℕ). day_at a.year k b.day a) m day in
    let year : day_at b.year b.month b.day a = subst (λ (k : ℕ). day_at k b.month b.day a) y month in
    year b.valid

-- a date begins with four digits
pub date_digits : (d : Date) → (d.year < 10000) → are_digits (two_digits (d.year / 100) ++ two_digits (d.year % 100)) ≡ true
date_digits d h = grind (arith, nat_tests)

-- what begins no date and no number
starts_apart : (m : ℕ) (r : List ℕ) (b : ℕ) (bs : List ℕ) → is_digit b ≡ false → number_text m ++ r ≡ b ∷ bs → ⊥
starts_apart m r b bs n h =
    let f = number_first m in
    let e : f.0 ∷ (f.1 ++ r) ≡ b ∷ bs = subst (λ (t : List ℕ). t ++ r ≡ b ∷ bs) f.2 h in
    let same : f.0 ≡ b = cc in
    both_ways (is_digit b) n (subst (λ (k : ℕ). is_digit k ≡ true) same f.3)

-- a number is no front of a date
number_date : (m : ℕ) (d : Date) (r s : List ℕ) → Ends r → number_text m ++ r ≡ date_text d ++ s → ⊥
number_date m d r s er h =
    let e : number_text m ++ r ≡ (two_digits (d.year / 100) ++ two_digits (d.year % 100)) ++ (45 ∷ two_digits d.month ++ 45 ∷ two_digits d.day) ++ s = h in
    let f = digits_end (number_text m) (two_digits (d.year / 100) ++ two_digits (d.year % 100)) r ((45 ∷ two_digits d.month ++ 45 ∷ two_digits d.day) ++ s) (number_digits m) (date_digits d (omega arith)) (Ends-no_digit r er) refl e in
    let g : ◌≡◌ {A = ℕ} 45 44 = subst Ends f.1 er in omega arith

date_end : (d e : Date) (r s : List ℕ) → date_text d ++ r ≡ date_text e ++ s → (d ≡ e) × (r ≡ s)
date_end d e r s h =
    let a : 48 + d.year / 100 / 10 ≡ 48 + e.year / 100 / 10 = cc in
    let b : 48 + d.year / 100 % 10 ≡ 48 + e.year / 100 % 10 = cc in
    let c : 48 + d.year % 100 / 10 ≡ 48 + e.year % 100 / 10 = cc in
    let f : 48 + d.year % 100 % 10 ≡ 48 + e.year % 100 % 10 = cc in
    let g : 48 + d.month / 10 ≡ 48 + e.month / 10 = cc in
    let i : 48 + d.month % 10 ≡ 48 + e.month % 10 = cc in
    let j : 48 + d.day / 10 ≡ 48 + e.day / 10 = cc in
    let k : 48 + d.day % 10 ≡ 48 + e.day % 10 = cc in
    let rest : r ≡ s = cc in
    (date_same d e (omega arith) (omega arith) (omega arith), rest)

-- a date begins with a digit
date_first : (d : Date) (s : List ℕ) (b : ℕ) (bs : List ℕ) → date_text d ++ s ≡ b ∷ bs → 48 ≤ b
date_first d s b bs h = let e : 48 + d.year / 100 / 10 ≡ b = cc in omega arith

-- two texts in quotes
text_end : (t u r s : List ℕ) → quoted t ++ r ≡ quoted u ++ s → (t ≡ u) × (r ≡ s)
text_end t u r s h =
    let rest : (flat_map escaped t ++ 34 ∷ []) ++ r ≡ (flat_map escaped u ++ 34 ∷ []) ++ s = cc in
    let e : flat_map escaped t ++ 34 ∷ r ≡ flat_map escaped u ++ 34 ∷ s = simp append_assoc at rest in
    quoted_end t u r s e

negatives_end : (m n : ℕ) (r s : List ℕ) → Ends r → Ends s → 45 ∷ number_text (suc m) ++ r ≡ 45 ∷ number_text (suc n) ++ s → (m ≡ n) × (r ≡ s)
negatives_end m n r s er es h =
    let e : number_text (suc m) ++ r ≡ number_text (suc n) ++ s = cc in
    let f = digits_end (number_text (suc m)) (number_text (suc n)) r s (number_digits (suc m)) (number_digits (suc n)) (Ends-no_digit r er) (Ends-no_digit s es) e in
    let g : suc m ≡ suc n = number_same (suc m) (suc n) f.0 in
    let k : m ≡ n = omega arith in (k, f.1)

numbers_end : (m n : ℕ) (r s : List ℕ) → Ends r → Ends s → number_text m ++ r ≡ number_text n ++ s → (m ≡ n) × (r ≡ s)
numbers_end m n r s er es h =
    let f = digits_end (number_text m) (number_text n) r s (number_digits m) (number_digits n) (Ends-no_digit r er) (Ends-no_digit s es) h in
    (number_same m n f.0, f.1)

negative_text : (xs ys : List ℕ) → 45 ∷ xs ≡ 34 ∷ ys → ⊥
negative_text xs ys h = cc

negative_date : (d : Date) (s xs : List ℕ) → date_text d ++ s ≡ 45 ∷ xs → ⊥
negative_date d s xs h = let p = date_first d s 45 xs h in omega arith

text_date : (d : Date) (s xs : List ℕ) → date_text d ++ s ≡ 34 ∷ xs → ⊥
text_date d s xs h = let p = date_first d s 34 xs h in omega arith

-- the printed form of a value, and then nothing or a comma, tells the value
pub value_end : (a b : Value) (r s : List ℕ) → Ends r → Ends s → value_text a ++ r ≡ value_text b ++ s → (a ≡ b) × (r ≡ s)
value_end (v.Int (pos m)) (v.Int (pos n)) r s er es h = let f = numbers_end m n r s er es h in (ap (λ (k : ℕ). v.Int (pos k)) f.0, f.1)
value_end (v.Int (pos m)) (v.Int (negsuc n)) r s er es h = absurd (starts_apart m r 45 (number_text (suc n) ++ s) refl h)
value_end (v.Int (negsuc m)) (v.Int (pos n)) r s er es h = absurd (starts_apart n s 45 (number_text (suc m) ++ r) refl (sym h))
value_end (v.Int (negsuc m)) (v.Int (negsuc n)) r s er es h = let f = negatives_end m n r s er es h in (ap (λ (k : ℕ). v.Int (negsuc k)) f.0, f.1)
value_end (v.Int (pos m)) (v.Text t) r s er es h = absurd (starts_apart m r 34 ((flat_map escaped t ++ 34 ∷ []) ++ s) refl h)
value_end (v.Int (negsuc m)) (v.Text t) r s er es h = absurd (negative_text (number_text (suc m) ++ r) ((flat_map escaped t ++ 34 ∷ []) ++ s) h)
value_end (v.Int (pos m)) (v.Date d) r s er es h = absurd (number_date m d r s er h)
value_end (v.Int (negsuc m)) (v.Date d) r s er es h = absurd (negative_date d s (number_text (suc m) ++ r) (sym h))
value_end (v.Text t) (v.Int (pos n)) r s er es h = absurd (starts_apart n s 34 ((flat_map escaped t ++ 34 ∷ []) ++ r) refl (sym h))
value_end (v.Text t) (v.Int (negsuc n)) r s er es h = absurd (negative_text (number_text (suc n) ++ s) ((flat_map escaped t ++ 34 ∷ []) ++ r) (sym h))
value_end (v.Text t) (v.Text u) r s er es h = let f = text_end t u r s h in (ap (λ (k : List ℕ). v.Text k) f.0, f.1)
value_end (v.Text t) (v.Date d) r s er es h = absurd (text_date d s ((flat_map escaped t ++ 34 ∷ []) ++ r) (sym h))
value_end (v.Date d) (v.Int (pos n)) r s er es h = absurd (number_date n d s r es (sym h))
value_end (v.Date d) (v.Int (negsuc n)) r s er es h = absurd (negative_date d r (number_text (suc n) ++ s) h)
value_end (v.Date d) (v.Text t) r s er es h = absurd (text_date d r ((flat_map escaped t ++ 34 ∷ []) ++ s) h)
value_end (v.Date d) (v.Date e) r s er es h = let f = date_end d e r s h in (ap (λ (k : Date). v.Date k) f.0, f.1)

-- a printed value is not nothing
pub value_not_nothing : (a : Value) (r : List ℕ) → value_text a ++ r ≡ [] → ⊥
value_not_nothing (v.Int (pos n)) r h =
    let f = number_first n in
    let e : f.0 ∷ (f.1 ++ r) ≡ [] = subst (λ (t : List ℕ). t ++ r ≡ []) f.2 h in cc
value_not_nothing (v.Int (negsuc n)) r h = cc
value_not_nothing (v.Text t) r h = cc
value_not_nothing (v.Date d) r h = cc
