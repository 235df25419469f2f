-- Bytes and tests of them.
use Rattle.std.proofs.Common.{◌≡◌, inl, inr, ℕ, ◌==◌, Bool, true, false, subst, arith}
use Rattle.std.proofs.lemmas.Bool.{cases_Bool}
use Rattle.std.proofs.lemmas.Bool.Decides.{nat_tests}

-- a byte that a test finds equal is equal
pub is_byte : (b n : ℕ) → (b == n) ≡ true → b ≡ n
is_byte b n h = grind (arith, nat_tests)

-- a byte that passes a test is none that does not
pub other_byte : (test : ℕ → Bool) (b n : ℕ) → test b ≡ true → test n ≡ false → (b == n) ≡ false
other_byte test b n h q = elim (cases_Bool (b == n)) [
  | inl e ↦ absurd (let s = is_byte b n e in let f : test n ≡ true = subst (λ x. test x ≡ true) s h in cc)
  | inr e ↦ e
]
