-- Worked inputs: cells of integer and date columns, and printed terms.
use Rattle.std.specs.Prelude.{◌≡◌, ◌∷◌, [], pos, negsuc, Some, None, codes, refl}
use Rattle.mast_terms.specs.Calendar.{IsDay}
use Rattle.mast_terms.specs.DateCell.{IsDateText}
use Rattle.mast_terms.specs.IntegerCell.{integer_of}
use Rattle.mast_terms.specs.Printed.{number_text, value_text, term_text}
use Rattle.mast_terms.specs.declared.date.Date.{Date}
use Rattle.mast_terms.specs.declared.term.Term.TheVariants as t
use Rattle.mast_terms.specs.declared.value.Value.TheVariants as v
use Rattle.std.proofs.Common.{arith}

-- ---- integers

zeros_before : integer_of (codes "007") ≡ Some (pos 7)
zeros_before = refl

with_a_plus : integer_of (codes "+5") ≡ Some (pos 5)
with_a_plus = refl

minus_zero : integer_of (codes "-0") ≡ Some (pos 0)
minus_zero = refl

the_least : integer_of (codes "-9223372036854775808") ≡ Some (negsuc 9223372036854775807)
the_least = refl

the_greatest : integer_of (codes "9223372036854775807") ≡ Some (pos 9223372036854775807)
the_greatest = refl

past_the_greatest : integer_of (codes "9223372036854775808") ≡ None
past_the_greatest = refl

past_the_least : integer_of (codes "-9223372036854775809") ≡ None
past_the_least = refl

nothing : integer_of (codes "") ≡ None
nothing = refl

a_sign_alone : integer_of (codes "-") ≡ None
a_sign_alone = refl

two_signs : integer_of (codes "+-1") ≡ None
two_signs = refl

a_blank_behind : integer_of (codes "12 ") ≡ None
a_blank_behind = refl

-- ---- dates

leap_day : IsDay 2024 2 29
leap_day = record { year_from = omega arith; year_to = omega arith; month_from = omega arith; month_to = omega arith; day_from = omega arith; day_to = omega arith }

last_of_february : Date
last_of_february = record { year = 2024; month = 2; day = 29; valid = leap_day }

a_leap_day : IsDateText (codes "2024-02-29")
unfolding last_of_february
a_leap_day = (last_of_february, refl)

no_leap_year : IsDay 1900 2 29 → ⊥
no_leap_year day = absurd (omega (arith, day.day_to))

no_such_month : IsDay 2023 13 1 → ⊥
no_such_month day = absurd (omega (arith, day.month_to))

no_year_zero : IsDay 0 1 1 → ⊥
no_year_zero day = absurd (omega (arith, day.year_from))

-- ---- printed terms

printed_zero : value_text (v.Int (pos 0)) ≡ codes "0"
unfolding number_text
printed_zero = refl

printed_negative : value_text (v.Int (negsuc 119)) ≡ codes "-120"
unfolding number_text
printed_negative = refl

printed_date : value_text (v.Date last_of_february) ≡ codes "2024-02-29"
unfolding last_of_february
printed_date = refl

printed_text : value_text (v.Text (codes "a\"b\\c\nd\re\tf,")) ≡ codes "\"a\\\"b\\\\c\\nd\\re\\tf,\""
printed_text = refl

printed_object : term_text (t.Object (record { symbol = codes "p"; args = v.Int (pos 7) ∷ v.Text (codes "x") ∷ v.Date last_of_february ∷ [] })) ≡ codes "p(7,\"x\",2024-02-29)"
unfolding number_text last_of_february
printed_object = refl

no_arguments : term_text (t.Object (record { symbol = codes "world"; args = [] })) ≡ codes "world()"
no_arguments = refl
