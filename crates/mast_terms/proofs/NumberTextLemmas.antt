-- The printed form of integers is that of std.
use Rattle.std.proofs.Common.{◌≡◌, ℕ, ℤ, pos, negsuc, zero, suc, ◌<◌, ◌^◌, ◌∷◌, ap, arith}
use Rattle.std.specs.Fmt.{decimal, signed_decimal}
use Rattle.std.proofs.lemmas.Fmt.{decimal_digit, decimal-digits_of}
use lib.Signed.{mag}
use Rattle.mast_terms.specs.Printed.{number_text, int_text}

-- std's decimal is the number's text
pub decimal_is : (n : ℕ) → n < 2 ^ 64 → decimal n ≡ number_text n
unfolding number_text
decimal_is zero h = decimal_digit 0 (omega arith)
decimal_is (suc n) h = decimal-digits_of (suc n) (omega arith) h

-- std's signed decimal is the integer's text
pub signed_decimal_is : (z : ℤ) → mag z < 2 ^ 63 → signed_decimal z ≡ int_text z
signed_decimal_is (pos n) h = decimal_is n (omega arith)
signed_decimal_is (negsuc n) h = ap (λ ds. 45 ∷ ds) (decimal_is (suc n) (omega arith))
