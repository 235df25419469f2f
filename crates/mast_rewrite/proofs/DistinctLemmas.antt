-- The queries of a set of views stand each once, and what all of them have.
use Rattle.std.proofs.Common.{◌≡◌, ℕ, zero, suc, Bool, true, false, List, [], ◌∷◌, map, Contains, ◌↔◌, slice_get, Some, sym, refl, ap, ◌∙◌}
use Rattle.std.specs.List.{AllByRecursion, IsDistinct}
use Rattle.mast_terms.specs.Vocabularies.{EachOnce}
use Rattle.mast_cq.specs.declared.query.Cq.{Cq}
use Rattle.mast_tbox.proofs.MemberLemmas.{front, later}

module _ {T : Type 0} (f : T → Cq) (same : T → T → Bool) (law : (x y : T) → (same x y ≡ true) ↔ (f x ≡ f y)) where
  some_one : (x y : Cq) → Some x ≡ Some y → x ≡ y
  some_one x y e = cc

  apart : (x : T) (xs : List T) (j : ℕ) (e : Cq) → AllByRecursion (λ y. same x y ≡ false) xs → f x ≡ e → slice_get (map f xs) j ≡ Some e → ⊥
  apart x [] j e d p q = cc
  apart x (y ∷ xs) zero e d p q = let t : same x y ≡ true = (law x y).1 (p ∙ sym (some_one (f y) e q)) in absurd (let g : true ≡ false = sym t ∙ d.0 in cc)
  apart x (y ∷ xs) (suc j) e d p q = apart x xs j e d.1 p q

  -- views that differ pairwise lend queries that stand each once
  pub each_once : (xs : List T) → IsDistinct same xs → EachOnce (map f xs)
  unfolding IsDistinct
  each_once [] d i j e p q = cc
  each_once (x ∷ xs) d zero zero e p q = refl
  each_once (x ∷ xs) d zero (suc j) e p q = absurd (apart x xs j e d.0 (some_one (f x) e p) q)
  each_once (x ∷ xs) d (suc i) zero e p q = absurd (apart x xs i e d.0 (some_one (f x) e q) p)
  each_once (x ∷ xs) d (suc i) (suc j) e p q = ap suc (each_once xs d.1 i j e p q)

-- what holds of each element by membership holds of all
pub all_have : (P : Cq → Type 0) (xs : List Cq) → ((m : Cq) → Contains xs m → P m) → AllByRecursion P xs
all_have P [] k = tt
all_have P (x ∷ xs) k = (k x (front x xs), all_have P xs (λ m c. k m (later m x xs c)))
