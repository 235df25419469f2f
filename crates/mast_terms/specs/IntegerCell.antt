-- The cells that an integer column accepts.
use Rattle.std.specs.Prelude.{ℕ, ℤ, pos, negsuc, zero, suc, ◌+◌, ◌*◌, ◌-◌, ◌^◌, ◌==◌, ◌&&◌, Bool, true, nat_le, if◌then◌else◌, List, [], ◌∷◌, Option, Some, None, IsSome}
use Rattle.mast_terms.specs.Bytes.{digit_zero, digit_nine, hyphen, plus}

-- an ASCII digit
abbrev pub is_digit : ℕ → Bool
is_digit b = nat_le digit_zero b && nat_le b digit_nine

-- digits alone
abbrev pub are_digits : List ℕ → Bool
are_digits [] = true
are_digits (b ∷ bs) = is_digit b && are_digits bs

-- the number that digits stand for, after a number
abbrev pub number_after : ℕ → List ℕ → ℕ
number_after n [] = n
number_after n (b ∷ bs) = number_after (n * 10 + (b - digit_zero)) bs

-- one digit or more, whose number is at most `most`
abbrev pub magnitude : ℕ → List ℕ → Option ℕ
magnitude most [] = None
magnitude most (b ∷ bs) =
    if are_digits (b ∷ bs) && nat_le (number_after 0 (b ∷ bs)) most then Some (number_after 0 (b ∷ bs)) else None

-- the number of digits after no sign, or after a plus
abbrev pub as_positive : Option ℕ → Option ℤ
as_positive None = None
as_positive (Some n) = Some (pos n)

-- minus a number
abbrev pub negated : ℕ → ℤ
negated zero = pos 0
negated (suc n) = negsuc n

-- the number of digits after a minus
abbrev pub as_negative : Option ℕ → Option ℤ
as_negative None = None
as_negative (Some n) = Some (negated n)

-- an optional sign and digits, from -2^63 to 2^63-1
abbrev pub integer_of : List ℕ → Option ℤ
integer_of [] = None
integer_of (b ∷ bs) =
    if b == hyphen then as_negative (magnitude (2 ^ 63) bs)
    else if b == plus then as_positive (magnitude (2 ^ 63 - 1) bs)
    else as_positive (magnitude (2 ^ 63 - 1) (b ∷ bs))

-- an accepted cell
abbrev pub IsInteger : List ℕ → Type 0
IsInteger bytes = IsSome (integer_of bytes)
