-- Items by their number.
use Rattle.std.proofs.Common.{◌≡◌, refl, sym, ℕ, zero, suc, ◌<◌, ◌≤◌, List, [], ◌∷◌, length, get_or, drop, arith}

module _ {A : Type 0} where
  -- two items
  pub two_are : (xs : List A) (a b : A) → 2 ≤ length xs → length xs < 3 → a ≡ get_or xs 0 a → b ≡ get_or xs 1 b → xs ≡ a ∷ (b ∷ [])
  two_are [] a b h k e f = absurd (omega (arith, h))
  two_are (x ∷ []) a b h k e f = absurd (omega (arith, h))
  two_are (x ∷ (y ∷ [])) a b h k e f = λ i. sym e i ∷ (sym f i ∷ [])
  two_are (x ∷ (y ∷ (z ∷ zs))) a b h k e f = absurd (omega (arith, k))

  -- three items
  pub three_are : (xs : List A) (a b c : A) → 3 ≤ length xs → length xs < 4 → a ≡ get_or xs 0 a → b ≡ get_or xs 1 b → c ≡ get_or xs 2 c → xs ≡ a ∷ (b ∷ (c ∷ []))
  three_are [] a b c h k e f g = absurd (omega (arith, h))
  three_are (x ∷ []) a b c h k e f g = absurd (omega (arith, h))
  three_are (x ∷ (y ∷ [])) a b c h k e f g = absurd (omega (arith, h))
  three_are (x ∷ (y ∷ (z ∷ []))) a b c h k e f g = λ i. sym e i ∷ (sym f i ∷ (sym g i ∷ []))
  three_are (x ∷ (y ∷ (z ∷ (w ∷ ws)))) a b c h k e f g = absurd (omega (arith, k))

  -- one item and more
  pub one_is : (xs : List A) (a : A) → 1 ≤ length xs → a ≡ get_or xs 0 a → xs ≡ a ∷ drop 1 xs
  one_is [] a h e = absurd (omega (arith, h))
  one_is (x ∷ xs) a h e = λ i. sym e i ∷ xs

  -- two items and more
  pub first_is : (xs : List A) (a : A) → 2 ≤ length xs → a ≡ get_or xs 0 a → (b : A) × (rest : List A) × (xs ≡ a ∷ (b ∷ rest)) × (drop 1 xs ≡ b ∷ rest)
  first_is [] a h e = absurd (omega (arith, h))
  first_is (x ∷ []) a h e = absurd (omega (arith, h))
  first_is (x ∷ (y ∷ ys)) a h e = (y, ys, (λ i. sym e i ∷ (y ∷ ys)), refl)

  -- nothing is left behind the last
  pub nothing_left : (xs : List A) (i : ℕ) → length xs ≤ i → drop i xs ≡ []
  nothing_left [] zero h = refl
  nothing_left [] (suc i) h = refl
  nothing_left (x ∷ xs) zero h = absurd (omega (arith, h))
  nothing_left (x ∷ xs) (suc i) h = nothing_left xs i (omega (arith, h))
