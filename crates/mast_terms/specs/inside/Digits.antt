-- Reading the digits of an integer cell one by one.
use Rattle.std.specs.Prelude.{◌≡◌, ℕ, ◌+◌, ◌*◌, ◌-◌, ◌<◌, ◌≤◌, ◌&&◌, nat_le, if◌then◌else◌, List, [], ◌∷◌, ◌++◌, length, take, None, IsSome, Result, Ok, Err}
use Rattle.mast_terms.specs.Bytes.{digit_zero, hyphen, plus}
use Rattle.mast_terms.specs.IntegerCell.{is_digit, magnitude}

-- reads digits one by one: the number, or how many bytes were read before one that does not go on
abbrev pub read_digits : ℕ → ℕ → ℕ → List ℕ → Result ℕ ℕ
read_digits most at size [] = Ok size
read_digits most at size (b ∷ bs) =
    if is_digit b && nat_le (size * 10 + (b - digit_zero)) most
    then read_digits most (at + 1) (size * 10 + (b - digit_zero)) bs
    else Err at

-- reads one digit or more
abbrev pub read_all_digits : ℕ → List ℕ → Result ℕ ℕ
read_all_digits most [] = Err 0
read_all_digits most (b ∷ bs) = read_digits most 0 0 (b ∷ bs)

-- the longest front that begins a number
pub record LongestMagnitude (most : ℕ) (ds : List ℕ) (at : ℕ) : Type 0 where
  pub inside : at ≤ length ds
  pub begins : (more : List ℕ) × IsSome (magnitude most (take at ds ++ more))
  pub longest : (n : ℕ) (more : List ℕ) → at < n → n ≤ length ds → magnitude most (take n ds ++ more) ≡ None

-- no sign stands first
abbrev pub NoSign : List ℕ → Type 0
NoSign [] = Unit {0}
NoSign (b ∷ bs) = (b ≡ hyphen → ⊥) × (b ≡ plus → ⊥)
