-- Reading a date part by part: where a part ends, and what it tells of the whole.
use Rattle.std.proofs.Common.{◌≡◌, ℕ, zero, suc, ◌+◌, ◌*◌, ◌-◌, ◌/◌, ◌%◌, ◌<◌, ◌≤◌, List, [], ◌∷◌, ◌++◌, length, get_or, take, drop, refl, ap, sym, ◌∙◌, subst, append_assoc, arith}
use Rattle.std.specs.Prelude.{Bool, true, false, ◌==◌, if◌then◌else◌}
use Rattle.std.specs.Int.{from_bool}
use Rattle.std.proofs.Math.Seq.{take-append-add}
use Rattle.std.proofs.lemmas.List.{length-append, take_rest}
use Rattle.std.proofs.lemmas.Bool.Decides.{nat_tests}
use Rattle.mast_terms.specs.Calendar.{IsDay, days_of}
use Rattle.mast_terms.specs.Cells.{Begins}
use Rattle.mast_terms.specs.DateCell.{IsDateText}
use Rattle.mast_terms.specs.inside.DateParts.{After, Stops, NotShown, BeginsNumber, EndsNumber, year_text, dashed, least_in_century}
use Rattle.mast_terms.specs.Printed.{two_digits, date_text}
use Rattle.mast_terms.specs.declared.date.Date.{Date}

-- ---- one part

-- no first digit
pub no_tens : (least most : ℕ) → least ≤ most → NotShown two_digits least most [] 0
no_tens least most h = record {
  within = omega arith;
  begins = (most, h, omega arith, two_digits most, refl);
  short = λ n more l m e. cc;
  longest = λ n number more rest le l m e. le;
}

-- another byte comes first
pub not_tens : (least most b : ℕ) (bs : List ℕ) → least ≤ most → (BeginsNumber most b → ⊥) → NotShown two_digits least most (b ∷ bs) 0
not_tens least most b bs h bad = record {
  within = omega arith;
  begins = (most, h, omega arith, two_digits most, refl);
  short = λ n more l m e. first n bs ((48 + n % 10) ∷ more) m e;
  longest = far;
} where
  first : (n : ℕ) (xs ys : List ℕ) → n ≤ most → b ∷ xs ≡ (48 + n / 10) ∷ ys → ⊥
  first n xs ys m e = let same : b ≡ 48 + n / 10 = cc in bad (omega arith, omega arith)

  far : (n number : ℕ) (more rest : List ℕ) → n ≤ length (b ∷ bs) → least ≤ number → number ≤ most → take n (b ∷ bs) ++ more ≡ two_digits number ++ rest → n ≤ 0
  far zero number more rest le l m e = omega arith
  far (suc n) number more rest le l m e = absurd (first number (take n bs ++ more) ((48 + number % 10) ∷ rest) m e)

-- some number begins with the digit
started : (least most b : ℕ) → least ≤ 1 → 9 ≤ most → BeginsNumber most b → (number : ℕ) × (least ≤ number) × (number ≤ most) × (b ≡ 48 + number / 10)
started least most b l m ok = by (b - 48) (omega (arith, ok))
  where
    by : (tens : ℕ) → b ≡ 48 + tens → (number : ℕ) × (least ≤ number) × (number ≤ most) × (b ≡ 48 + number / 10)
    by zero e = (least, omega arith, omega arith, omega arith)
    by (suc tens) e = (10 * suc tens, omega arith, omega (arith, ok), omega arith)

-- nothing follows the first digit
pub no_ones : (least most b : ℕ) (bs : List ℕ) → least ≤ 1 → 9 ≤ most → BeginsNumber most b → length bs < 1 → NotShown two_digits least most (b ∷ bs) 1
no_ones least most b [] l m ok none = let s = started least most b l m ok in record {
  within = omega arith;
  begins = (s.0, s.1, s.2, (48 + s.0 % 10) ∷ [], ap (λ k. k ∷ (48 + s.0 % 10) ∷ []) s.3);
  short = λ n more x y e. cc;
  longest = λ n number more rest le x y e. omega arith;
}
no_ones least most b (c ∷ cs) l m ok none = absurd (omega arith)

-- a byte follows that gives no number
pub not_ones : (least most b c : ℕ) (cs : List ℕ) → least ≤ 1 → 9 ≤ most → BeginsNumber most b → (EndsNumber least most b c → ⊥) → NotShown two_digits least most (b ∷ c ∷ cs) 1
not_ones least most b c cs l m ok bad = let s = started least most b l m ok in record {
  within = omega arith;
  begins = (s.0, s.1, s.2, (48 + s.0 % 10) ∷ [], ap (λ k. k ∷ (48 + s.0 % 10) ∷ []) s.3);
  short = λ n more x y e. both n cs more x y e;
  longest = far;
} where
  both : (n : ℕ) (xs ys : List ℕ) → least ≤ n → n ≤ most → b ∷ c ∷ xs ≡ (48 + n / 10) ∷ (48 + n % 10) ∷ ys → ⊥
  both n xs ys x y e =
      let first : b ≡ 48 + n / 10 = cc in
      let second : c ≡ 48 + n % 10 = cc in
      bad (omega arith, omega arith, omega arith, omega arith)

  far : (n number : ℕ) (more rest : List ℕ) → n ≤ length (b ∷ c ∷ cs) → least ≤ number → number ≤ most → take n (b ∷ c ∷ cs) ++ more ≡ two_digits number ++ rest → n ≤ 1
  far zero number more rest le x y e = omega arith
  far (suc zero) number more rest le x y e = omega arith
  far (suc (suc n)) number more rest le x y e = absurd (both number (take n cs ++ more) rest x y e)

-- the same, of what follows the first digit
pub bad_ones : (least most b : ℕ) (bs : List ℕ) → least ≤ 1 → 9 ≤ most → BeginsNumber most b → 1 ≤ length bs → (EndsNumber least most b (get_or bs 0 0) → ⊥) → NotShown two_digits least most (b ∷ bs) 1
bad_ones least most b [] l m ok some bad = absurd (omega arith)
bad_ones least most b (c ∷ cs) l m ok some bad = not_ones least most b c cs l m ok bad

-- both digits
pub two_shown : (least most b c : ℕ) (cs : List ℕ) → BeginsNumber most b → EndsNumber least most b c → b ∷ c ∷ cs ≡ two_digits (10 * (b - 48) + (c - 48)) ++ cs
two_shown least most b c cs ok end =
    let first : b ≡ 48 + (10 * (b - 48) + (c - 48)) / 10 = omega (arith, ok, end) in
    let second : c ≡ 48 + (10 * (b - 48) + (c - 48)) % 10 = omega (arith, ok, end) in
    λ i. first i ∷ second i ∷ cs

-- no dash
pub no_dash : (least most : ℕ) → least ≤ most → NotShown dashed least most [] 0
no_dash least most h = record {
  within = omega arith;
  begins = (most, h, omega arith, dashed most, refl);
  short = λ n more l m e. cc;
  longest = λ n number more rest le l m e. le;
}

-- another byte than a hyphen comes first
pub not_dash : (least most b : ℕ) (bs : List ℕ) → least ≤ most → (b ≡ 45 → ⊥) → NotShown dashed least most (b ∷ bs) 0
not_dash least most b bs h bad = record {
  within = omega arith;
  begins = (most, h, omega arith, dashed most, refl);
  short = λ n more l m e. first bs (two_digits n ++ more) e;
  longest = far;
} where
  first : (xs ys : List ℕ) → b ∷ xs ≡ 45 ∷ ys → ⊥
  first xs ys e = let same : b ≡ 45 = cc in bad same

  far : (n number : ℕ) (more rest : List ℕ) → n ≤ length (b ∷ bs) → least ≤ number → number ≤ most → take n (b ∷ bs) ++ more ≡ dashed number ++ rest → n ≤ 0
  far zero number more rest le l m e = omega arith
  far (suc n) number more rest le l m e = absurd (first (take n bs ++ more) (two_digits number ++ rest) e)

-- a dash, and then no number
after_dash : (least most : ℕ) (ds : List ℕ) (at : ℕ) → NotShown two_digits least most ds at → NotShown dashed least most (45 ∷ ds) (suc at)
after_dash least most ds at h = record {
  within = omega (arith, h.within);
  begins = (h.begins.0, h.begins.1, h.begins.2, h.begins.3, ap (λ t. 45 ∷ t) h.begins.4);
  short = λ n more l m e. let rest : ds ≡ two_digits n ++ more = cc in h.short n more l m rest;
  longest = far;
} where
  far : (n number : ℕ) (more rest : List ℕ) → n ≤ length (45 ∷ ds) → least ≤ number → number ≤ most → take n (45 ∷ ds) ++ more ≡ dashed number ++ rest → n ≤ suc at
  far zero number more rest le l m e = omega arith
  far (suc n) number more rest le l m e =
      let tail : take n ds ++ more ≡ two_digits number ++ rest = cc in
      let small = h.longest n number more rest (omega arith) l m tail in omega arith

-- a hyphen, and then what is no number
pub dash_then : (least most : ℕ) (ds : List ℕ) (at : ℕ) → NotShown two_digits least most ds at → NotShown dashed least most (45 ∷ ds) (1 + at)
dash_then least most ds at h = let e : suc at ≡ 1 + at = omega arith in subst (NotShown dashed least most (45 ∷ ds)) e (after_dash least most ds at h)

-- ---- the whole

-- Each accepted text begins with a number in range, and each number in range begins one: then what stops the number stops the text.
pub part_stops : (Accepted : List ℕ → Type 0) (shown : ℕ → List ℕ) (least most : ℕ) (bytes : List ℕ) (at : ℕ)
    → ((t : List ℕ) → Accepted t → (n : ℕ) × (least ≤ n) × (n ≤ most) × (rest : List ℕ) × (t ≡ shown n ++ rest))
    → ((n : ℕ) → least ≤ n → n ≤ most → (rest : List ℕ) × Accepted (shown n ++ rest))
    → NotShown shown least most bytes at → Stops Accepted bytes at
part_stops Accepted shown least most bytes at split join h = record {
  refused = λ a. let s = split bytes a in h.short s.0 s.3 s.1 s.2 s.4;
  front = record {
    within = h.within;
    begins =
        let b = h.begins in
        let j = join b.0 b.1 b.2 in
        (b.3 ++ j.0, subst Accepted (ap (λ t. t ++ j.0) (sym b.4) ∙ append_assoc (take at bytes) b.3 j.0) j.1);
    longest = λ n le a. let s = split (take n bytes ++ a.0) a.1 in h.longest n s.0 a.0 s.3 le s.1 s.2 s.4;
  };
}

-- What stops the rest stops the whole, at that much more.
step : (Accepted : List ℕ → Type 0) (front rest : List ℕ) (at : ℕ) → Stops (λ t. Accepted (front ++ t)) rest at → Stops Accepted (front ++ rest) (length front + at)
step Accepted front rest at h = record {
  refused = h.refused;
  front = record {
    within = omega (arith, length-append front rest, h.front.within);
    begins = (h.front.begins.0, subst Accepted (sym (append_assoc front (take at rest) h.front.begins.0) ∙ ap (λ t. t ++ h.front.begins.0) (sym (take-append-add front rest at))) h.front.begins.1);
    longest = far;
  };
} where
  past : (n j : ℕ) → n ≡ length front + j → n ≤ length (front ++ rest) → Begins Accepted (take n (front ++ rest)) → n ≤ length front + at
  past n j e le a =
      let seen : take n (front ++ rest) ≡ front ++ take j rest = ap (λ k. take k (front ++ rest)) e ∙ take-append-add front rest j in
      let b : Accepted (front ++ (take j rest ++ a.0)) = subst Accepted (ap (λ t. t ++ a.0) seen ∙ append_assoc front (take j rest) a.0) a.1 in
      let small = h.front.longest j (omega (arith, length-append front rest)) (a.0, b) in omega arith

  by : (n j : ℕ) → j ≡ n - length front → n ≤ length (front ++ rest) → Begins Accepted (take n (front ++ rest)) → n ≤ length front + at
  by n zero e le a = omega arith
  by n (suc j) e le a = past n (suc j) (omega arith) le a

  far : (n : ℕ) → n ≤ length (front ++ rest) → Begins Accepted (take n (front ++ rest)) → n ≤ length front + at
  far n le a = by n (n - length front) refl le a

-- what stops the rest of a text stops the text
pub step_stops : (Accepted : List ℕ → Type 0) (front rest bytes : List ℕ) (at : ℕ) → bytes ≡ front ++ rest → Stops (λ t. Accepted (front ++ t)) rest at → Stops Accepted bytes (length front + at)
step_stops Accepted front rest bytes at e h = subst (λ t. Stops Accepted t (length front + at)) (sym e) (step Accepted front rest at h)

-- the text of a date, by its parts
date_of : (century year month day : ℕ) → year ≤ 99 → (valid : IsDay (100 * century + year) month day) → IsDateText (two_digits century ++ two_digits year ++ dashed month ++ dashed day)
date_of century year month day small valid =
    let date : Date = record { year = 100 * century + year; month = month; day = day; valid = valid } in
    let first : century ≡ (100 * century + year) / 100 = omega arith in
    let second : year ≡ (100 * century + year) % 100 = omega arith in
    (date, λ i. two_digits (first i) ++ two_digits (second i) ++ dashed month ++ dashed day)

some_day : (year month : ℕ) → 1 ≤ days_of year month
some_day year month = grind (arith, nat_tests)

first_of_month : (year month : ℕ) → 1 ≤ year → year ≤ 9999 → 1 ≤ month → month ≤ 12 → IsDay year month 1
first_of_month year month a b c d = record { year_from = a; year_to = b; month_from = c; month_to = d; day_from = omega arith; day_to = some_day year month }

-- the least year of a century, as it is computed
one_if : (b : Bool) → from_bool b ≡ (if b then 1 else 0)
one_if true = refl
one_if false = refl

-- what the code computes is the least year of the century
pub least_is : (century : ℕ) → from_bool (century == 0) ≡ least_in_century century
least_is century = one_if (century == 0)

-- what a century says of the year
least_year : (century year : ℕ) → least_in_century century ≤ year → 1 ≤ 100 * century + year
least_year century year h = grind (arith, nat_tests)

year_least : (century year : ℕ) → 1 ≤ 100 * century + year → least_in_century century ≤ year
year_least century year h = grind (arith, nat_tests)

-- what stops the first two digits stops the date
pub century_stops : (bytes : List ℕ) (at : ℕ) → NotShown two_digits 0 99 bytes at → Stops IsDateText bytes at
century_stops bytes at h = part_stops IsDateText two_digits 0 99 bytes at
    (λ t a. (a.0.year / 100, omega arith, omega (arith, a.0.valid.year_to), two_digits (a.0.year % 100) ++ dashed a.0.month ++ dashed a.0.day, a.1))
    (λ n l m. (two_digits 1 ++ dashed 1 ++ dashed 1, date_of n 1 1 1 (omega arith) (first_of_month (100 * n + 1) 1 (omega arith) (omega arith) (omega arith) (omega arith))))
    h

-- the parts of two equal texts
same_two : (m n : ℕ) (xs ys : List ℕ) → two_digits m ++ xs ≡ two_digits n ++ ys → (m ≡ n) × (xs ≡ ys)
same_two m n xs ys e =
    let first : 48 + m / 10 ≡ 48 + n / 10 = cc in
    let second : 48 + m % 10 ≡ 48 + n % 10 = cc in
    let rest : xs ≡ ys = cc in
    (omega arith, rest)

same_dashed : (m n : ℕ) (xs ys : List ℕ) → dashed m ++ xs ≡ dashed n ++ ys → (m ≡ n) × (xs ≡ ys)
same_dashed m n xs ys e = let rest : two_digits m ++ xs ≡ two_digits n ++ ys = cc in same_two m n xs ys rest

same_year : (m n : ℕ) (xs ys : List ℕ) → year_text m ++ xs ≡ year_text n ++ ys → (m ≡ n) × (xs ≡ ys)
same_year m n xs ys e =
    let a = same_two (m / 100) (n / 100) (two_digits (m % 100) ++ xs) (two_digits (n % 100) ++ ys) e in
    let b = same_two (m % 100) (n % 100) xs ys a.1 in
    (omega (arith, a.0, b.0), b.1)

-- what stops the last two digits of the year stops what follows the century
pub year_stops : (century : ℕ) (bytes : List ℕ) (at : ℕ) → century ≤ 99 → NotShown two_digits (least_in_century century) 99 bytes at → Stops (After (two_digits century)) bytes at
year_stops century bytes at small h = part_stops (After (two_digits century)) two_digits (least_in_century century) 99 bytes at split join h
  where
    split : (t : List ℕ) → After (two_digits century) t → (n : ℕ) × (least_in_century century ≤ n) × (n ≤ 99) × (rest : List ℕ) × (t ≡ two_digits n ++ rest)
    split t a =
        let s = same_two century (a.0.year / 100) t (two_digits (a.0.year % 100) ++ dashed a.0.month ++ dashed a.0.day) a.1 in
        (a.0.year % 100, year_least century (a.0.year % 100) (omega (arith, s.0, a.0.valid.year_from)), omega arith, dashed a.0.month ++ dashed a.0.day, s.1)

    join : (n : ℕ) → least_in_century century ≤ n → n ≤ 99 → (rest : List ℕ) × After (two_digits century) (two_digits n ++ rest)
    join n l m = (dashed 1 ++ dashed 1, date_of century n 1 1 m (first_of_month (100 * century + n) 1 (least_year century n l) (omega arith) (omega arith) (omega arith)))

-- the text of a date by its year
date_in : (year month day : ℕ) → (valid : IsDay year month day) → IsDateText (year_text year ++ dashed month ++ dashed day)
date_in year month day valid = let date : Date = record { year = year; month = month; day = day; valid = valid } in (date, refl)

-- what stops the month stops what follows the year
pub month_stops : (year : ℕ) (bytes : List ℕ) (at : ℕ) → 1 ≤ year → year ≤ 9999 → NotShown dashed 1 12 bytes at → Stops (After (year_text year)) bytes at
month_stops year bytes at from to h = part_stops (After (year_text year)) dashed 1 12 bytes at split join h
  where
    split : (t : List ℕ) → After (year_text year) t → (n : ℕ) × (1 ≤ n) × (n ≤ 12) × (rest : List ℕ) × (t ≡ dashed n ++ rest)
    split t a =
        let s = same_year year a.0.year t (dashed a.0.month ++ dashed a.0.day) a.1 in
        (a.0.month, a.0.valid.month_from, a.0.valid.month_to, dashed a.0.day, s.1)

    join : (n : ℕ) → 1 ≤ n → n ≤ 12 → (rest : List ℕ) × After (year_text year) (dashed n ++ rest)
    join n l m = (dashed 1, date_in year n 1 (first_of_month year n from to l m))

-- what stops the day stops what follows the month
pub day_stops : (year month : ℕ) (bytes : List ℕ) (at : ℕ) → 1 ≤ year → year ≤ 9999 → 1 ≤ month → month ≤ 12 → NotShown dashed 1 (days_of year month) bytes at → Stops (After (year_text year ++ dashed month)) bytes at
day_stops year month bytes at yf yt mf mt h = part_stops (After (year_text year ++ dashed month)) dashed 1 (days_of year month) bytes at split join h
  where
    split : (t : List ℕ) → After (year_text year ++ dashed month) t → (n : ℕ) × (1 ≤ n) × (n ≤ days_of year month) × (rest : List ℕ) × (t ≡ dashed n ++ rest)
    split t a =
        let s = same_year year a.0.year (dashed month ++ t) (dashed a.0.month ++ dashed a.0.day) a.1 in
        let r = same_dashed month a.0.month t (dashed a.0.day) s.1 in
        (a.0.day, a.0.valid.day_from, subst (λ y. a.0.day ≤ days_of y month) (sym s.0) (subst (λ m. a.0.day ≤ days_of a.0.year m) (sym r.0) a.0.valid.day_to), [], r.1)

    join : (n : ℕ) → 1 ≤ n → n ≤ days_of year month → (rest : List ℕ) × After (year_text year ++ dashed month) (dashed n ++ rest)
    join n l m = ([], date_in year month n (record { year_from = yf; year_to = yt; month_from = mf; month_to = mt; day_from = l; day_to = m }))

-- nothing follows a date
pub end_stops : (date : Date) (b : ℕ) (bs : List ℕ) → Stops (After (date_text date)) (b ∷ bs) 0
end_stops date b bs = record {
  refused = none (b ∷ bs) b bs refl;
  front = record {
    within = omega arith;
    begins = ([], (date, refl));
    longest = far;
  };
} where
  none : (t : List ℕ) (x : ℕ) (xs : List ℕ) → t ≡ x ∷ xs → After (date_text date) t → ⊥
  none t x xs e a =
      let r : t ≡ [] = cc in cc

  far : (n : ℕ) → n ≤ length (b ∷ bs) → Begins (After (date_text date)) (take n (b ∷ bs)) → n ≤ 0
  far zero le a = omega arith
  far (suc n) le a = absurd (none (b ∷ (take n bs ++ a.0)) b (take n bs ++ a.0) refl a.1)

-- the same of the rest of a slice
pub step_rest : (Accepted : List ℕ → Type 0) (front : List ℕ) (n : ℕ) (bytes : List ℕ) (at : ℕ) → bytes ≡ front ++ drop n bytes → Stops (λ t. Accepted (front ++ t)) (take (length bytes - n) (drop n bytes)) at → Stops Accepted bytes (length front + at)
step_rest Accepted front n bytes at e h =
    step_stops Accepted front (drop n bytes) bytes at e (subst (λ rest. Stops (λ t. Accepted (front ++ t)) rest at) (take_rest bytes n) h)

-- a year is its century and the rest
pub year_step : (century year whole : ℕ) (rest : List ℕ) (at : ℕ) → whole ≡ century * 100 + year → year ≤ 99 → Stops (After (year_text whole)) rest at → Stops (λ t. After (two_digits century) (two_digits year ++ t)) rest at
year_step century year whole rest at e small h =
    let first : whole / 100 ≡ century = omega arith in
    let second : whole % 100 ≡ year = omega arith in
    subst (λ y. Stops (λ t. After (two_digits century) (two_digits y ++ t)) rest at) second
    (subst (λ c. Stops (λ t. After (two_digits c) (two_digits (whole % 100) ++ t)) rest at) first h)

-- a date, and then more
pub end_day : (year month day : ℕ) (bytes : List ℕ) → (valid : IsDay year month day) → bytes ≡ dashed day ++ drop 3 bytes → 3 < length bytes → Stops (After (year_text year ++ dashed month)) bytes 3
end_day year month day bytes valid e more = by (drop 3 bytes) e
  where
    date : Date
    date = record { year = year; month = month; day = day; valid = valid }

    by : (rest : List ℕ) → bytes ≡ dashed day ++ rest → Stops (After (year_text year ++ dashed month)) bytes 3
    by [] q = let l : length bytes ≡ 3 = ap length q in absurd (omega arith)
    by (b ∷ bs) q = step_stops (After (year_text year ++ dashed month)) (dashed day) (b ∷ bs) bytes 0 q (end_stops date b bs)
