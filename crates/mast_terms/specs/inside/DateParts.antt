-- Reading a date cell part by part: the year in two steps, the month, and the day.
use Rattle.std.specs.Prelude.{◌≡◌, ℕ, ◌+◌, ◌-◌, ◌*◌, ◌≤◌, ◌/◌, ◌%◌, ◌==◌, if◌then◌else◌, List, ◌∷◌, ◌++◌, length, take}
use Rattle.mast_terms.specs.Bytes.{digit_zero, digit_nine, hyphen}
use Rattle.mast_terms.specs.Cells.{IsLongestFront}
use Rattle.mast_terms.specs.DateCell.{IsDateText}
use Rattle.mast_terms.specs.Printed.{two_digits}

-- what follows a front, so that the whole is accepted
abbrev pub After : List ℕ → List ℕ → Type 0
After front bytes = IsDateText (front ++ bytes)

-- no date, and how far one goes
pub record Stops (Accepted : List ℕ → Type 0) (bytes : List ℕ) (at : ℕ) : Type 0 where
  pub refused : Accepted bytes → ⊥
  pub front : IsLongestFront Accepted bytes at

-- a year in four digits
abbrev pub year_text : ℕ → List ℕ
year_text year = two_digits (year / 100) ++ two_digits (year % 100)

-- two digits after a hyphen
abbrev pub dashed : ℕ → List ℕ
dashed number = hyphen ∷ two_digits number

-- the least number that may follow the century: there is no year 0
abbrev pub least_in_century : ℕ → ℕ
least_in_century century = if century == 0 then 1 else 0

-- the bytes begin with none of these numbers, as `shown` shows it; `at` is the length of the longest front that begins one
pub record NotShown (shown : ℕ → List ℕ) (least most : ℕ) (bytes : List ℕ) (at : ℕ) : Type 0 where
  pub within : at ≤ length bytes
  pub begins :
      (number : ℕ) × (least ≤ number) × (number ≤ most) × (more : List ℕ) × (take at bytes ++ more ≡ shown number)
  pub short : (number : ℕ) (more : List ℕ) → least ≤ number → number ≤ most → bytes ≡ shown number ++ more → ⊥
  pub longest :
      (n number : ℕ) (more rest : List ℕ) → n ≤ length bytes → least ≤ number → number ≤ most
      → take n bytes ++ more ≡ shown number ++ rest → n ≤ at

-- the first digit of some number that is at most `most`
abbrev pub BeginsNumber : ℕ → ℕ → Type 0
BeginsNumber most tens = (digit_zero ≤ tens) × (tens ≤ digit_zero + most / 10)

-- the number of two digits
abbrev pub number_of : ℕ → ℕ → ℕ
number_of tens ones = 10 * (tens - digit_zero) + (ones - digit_zero)

-- the second digit of a number from `least` to `most`
abbrev pub EndsNumber : ℕ → ℕ → ℕ → ℕ → Type 0
EndsNumber least most tens ones =
    (digit_zero ≤ ones) × (ones ≤ digit_nine) × (least ≤ number_of tens ones) × (number_of tens ones ≤ most)
