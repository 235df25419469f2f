-- Each text is a date or not, and of one date alone: there are the dates of all texts, and no others.
use Rattle.std.proofs.Common.{◌≡◌, ◌⊎◌, inl, inr, ℕ, zero, suc, ◌+◌, ◌-◌, ◌*◌, ◌/◌, ◌%◌, ◌≤◌, true≢false, List, ◌∷◌, [], ◌++◌, refl, ap, sym, ◌∙◌, subst, arith}
use Rattle.std.specs.Prelude.{Option, Some, None}
use Rattle.std.specs.Str.{bytes_eq}
use Rattle.std.proofs.Math.Path.{fun_ext}
use Rattle.std.proofs.lemmas.Bool.{cases_Bool}
use Rattle.std.proofs.lemmas.Slice.Eq.{bytes_eq-Decides}
use Rattle.mast_terms.specs.Calendar.{IsDay, days_of}
use Rattle.mast_terms.specs.DateCell.{IsDateText}
use Rattle.mast_terms.specs.Printed.{two_digits, date_text}
use Rattle.mast_terms.specs.declared.date.Date.{Date}
use Rattle.mast_terms.proofs.SameLemmas.{date_is}
use Rattle.mast_tree.specs.Constants.{IsDateOf, AreDates}

le_decided : (a b : ℕ) → (a ≤ b) ⊎ (a ≤ b → ⊥)
le_decided zero b = inl (omega arith)
le_decided (suc a) zero = inr (λ h. omega arith)
le_decided (suc a) (suc b) = elim (le_decided a b) [
  | inl h ↦ inl (omega arith)
  | inr n ↦ inr (λ h. n (omega arith))
]

list_decided : (xs ys : List ℕ) → (xs ≡ ys) ⊎ (xs ≡ ys → ⊥)
list_decided xs ys = elim (cases_Bool (bytes_eq xs ys)) [
  | inl h ↦ inl ((bytes_eq-Decides xs ys).0 h)
  | inr h ↦ inr (λ e. true≢false (sym ((bytes_eq-Decides xs ys).1 e) ∙ h))
]

day_decided : (y m d : ℕ) → IsDay y m d ⊎ (IsDay y m d → ⊥)
day_decided y m d = elim (le_decided 1 y) [
  | inr n ↦ inr (λ v. n v.year_from)
  | inl a ↦ elim (le_decided y 9999) [
    | inr n ↦ inr (λ v. n v.year_to)
    | inl b ↦ elim (le_decided 1 m) [
      | inr n ↦ inr (λ v. n v.month_from)
      | inl c ↦ elim (le_decided m 12) [
        | inr n ↦ inr (λ v. n v.month_to)
        | inl e ↦ elim (le_decided 1 d) [
          | inr n ↦ inr (λ v. n v.day_from)
          | inl f ↦ elim (le_decided d (days_of y m)) [
            | inr n ↦ inr (λ v. n v.day_to)
            | inl g ↦ inl (record { year_from = a; year_to = b; month_from = c; month_to = e; day_from = f; day_to = g })
          ]
        ]
      ]
    ]
  ]
]

-- the numbers that a text would have as a date

abbrev two : ℕ → ℕ → ℕ
two a b = 10 * (a - 48) + (b - 48)

abbrev year_in : List ℕ → ℕ
year_in (a ∷ b ∷ c ∷ d ∷ bs) = 100 * two a b + two c d
year_in bs = 0

abbrev month_in : List ℕ → ℕ
month_in (a ∷ b ∷ c ∷ d ∷ e ∷ f ∷ g ∷ bs) = two f g
month_in bs = 0

abbrev day_in : List ℕ → ℕ
day_in (a ∷ b ∷ c ∷ d ∷ e ∷ f ∷ g ∷ h ∷ i ∷ j ∷ bs) = two i j
day_in bs = 0

two_of : (n : ℕ) → two (48 + n / 10) (48 + n % 10) ≡ n
two_of n = omega arith

year_of : (d : Date) → year_in (date_text d) ≡ d.year
year_of d =
    let a = two_of (d.year / 100) in
    let b = two_of (d.year % 100) in
    omega arith

month_of : (d : Date) → month_in (date_text d) ≡ d.month
month_of d = two_of d.month

day_of : (d : Date) → day_in (date_text d) ≡ d.day
day_of d = two_of d.day

text_of : ℕ → ℕ → ℕ → List ℕ
text_of y m d = two_digits (y / 100) ++ two_digits (y % 100) ++ 45 ∷ two_digits m ++ 45 ∷ two_digits d

same_numbers : (y m d : ℕ) (date : Date) → y ≡ date.year → m ≡ date.month → d ≡ date.day → (v : IsDay y m d) → date_text date ≡ date_text (record { year = y; month = m; day = d; valid = v })
unfolding text_of
same_numbers y m d date e f g v =
    sym (ap (λ x. text_of x m d) e ∙ ap (λ x. text_of date.year x d) f ∙ ap (λ x. text_of date.year date.month x) g)

date_decided : (text : List ℕ) → ((d : Date) × (text ≡ date_text d)) ⊎ (IsDateText text → ⊥)
date_decided text = elim (day_decided (year_in text) (month_in text) (day_in text)) [
  | inr n ↦ inr (λ t. n (
      subst (λ y. IsDay y (month_in text) (day_in text)) (sym (ap (λ x. year_in x) t.1 ∙ year_of t.0))
      (subst (λ m. IsDay t.0.year m (day_in text)) (sym (ap (λ x. month_in x) t.1 ∙ month_of t.0))
      (subst (λ d. IsDay t.0.year t.0.month d) (sym (ap (λ x. day_in x) t.1 ∙ day_of t.0)) t.0.valid))))
  | inl v ↦ elim (list_decided text (date_text (record { year = year_in text; month = month_in text; day = day_in text; valid = v }))) [
    | inl e ↦ inl (record { year = year_in text; month = month_in text; day = day_in text; valid = v }, e)
    | inr n ↦ inr (λ t. n (t.1 ∙ same_numbers (year_in text) (month_in text) (day_in text) t.0 (ap (λ x. year_in x) t.1 ∙ year_of t.0) (ap (λ x. month_in x) t.1 ∙ month_of t.0) (ap (λ x. day_in x) t.1 ∙ day_of t.0) v))
  ]
]

one_date : (a b : Date) → date_text a ≡ date_text b → a ≡ b
one_date a b e = date_is a b
    (sym (year_of a) ∙ ap (λ x. year_in x) e ∙ year_of b)
    (sym (month_of a) ∙ ap (λ x. month_in x) e ∙ month_of b)
    (sym (day_of a) ∙ ap (λ x. day_in x) e ∙ day_of b)

-- each text is a date or none
the_date : (text : List ℕ) → (date : Option Date) × IsDateOf text date
the_date text = elim (date_decided text) [
  | inl t ↦ (Some t.0, t.1)
  | inr n ↦ (None, n)
]

-- and it is one date alone
only_date : (text : List ℕ) (a b : Option Date) → IsDateOf text a → IsDateOf text b → a ≡ b
only_date text None None t u = refl
only_date text None (Some d) t u = absurd (t (d, u))
only_date text (Some d) None t u = absurd (u (d, t))
only_date text (Some d) (Some e) t u = ap (λ x. Some x) (one_date d e (sym t ∙ u))

-- the dates of all texts
pub the_dates : List ℕ → Option Date
the_dates text = (the_date text).0

-- they are so
pub are_dates : AreDates the_dates
unfolding the_dates
are_dates text = (the_date text).1

-- and no others are
pub one_dates : (a b : List ℕ → Option Date) → AreDates a → AreDates b → a ≡ b
one_dates a b h k = fun_ext (λ text. only_date text (a text) (b text) (h text) (k text))
