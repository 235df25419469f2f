-- Formulas over two meanings of K that agree.
use Rattle.std.proofs.Common.{◌≡◌, ◌↔◌, ℕ, List, [], ◌∷◌, get_or, ◌⊎◌, inl, inr}
use Rattle.mast_terms.specs.declared.term.Term.{Term}
use Rattle.mast_eql.specs.Formulas.{Formula, Always, Known, Equals, Items, Not, And, Or, SomeColumns, SomeAnswer}
use Rattle.mast_eql.specs.Satisfaction.{AreKnown, Sat}

module _ (D : Term → Type 0) (K L : ℕ → List Term → Type 0) (same : (table : ℕ) (row : List Term) → K table row ↔ L table row) where
  known_same : (tables : List ℕ) (rows : List (List Term)) → AreKnown K tables rows ↔ AreKnown L tables rows
  known_same [] [] = (λ k. k, λ k. k)
  known_same [] (r ∷ rs) = (λ k. k, λ k. k)
  known_same (t ∷ ts) [] = (λ k. k, λ k. k)
  known_same (t ∷ ts) (r ∷ rs) = (
    λ k. ((same t r).0 k.0, (known_same ts rs).0 k.1),
    λ k. ((same t r).1 k.0, (known_same ts rs).1 k.1),
  )

  -- a formula is satisfied alike
  pub sat_same : (a : Formula) (froms : List (List (List Term))) (answer : List Term) → Sat D K a froms answer ↔ Sat D L a froms answer
  sat_same Always froms answer = (λ s. s, λ s. s)
  sat_same (Known tables) froms answer = known_same tables (get_or froms 0 [])
  sat_same (Equals left right) froms answer = (λ s. s, λ s. s)
  sat_same (Items items) froms answer = (λ s. s, λ s. s)
  sat_same (Not a) froms answer = (λ s x. s ((sat_same a froms answer).1 x), λ s x. s ((sat_same a froms answer).0 x))
  sat_same (And a b) froms answer = (
    λ s. ((sat_same a froms answer).0 s.0, (sat_same b froms answer).0 s.1),
    λ s. ((sat_same a froms answer).1 s.0, (sat_same b froms answer).1 s.1),
  )
  sat_same (Or a b) froms answer = (
    λ s. elim s [ inl x ↦ inl ((sat_same a froms answer).0 x) | inr y ↦ inr ((sat_same b froms answer).0 y) ],
    λ s. elim s [ inl x ↦ inl ((sat_same a froms answer).1 x) | inr y ↦ inr ((sat_same b froms answer).1 y) ],
  )
  sat_same (SomeColumns a) froms answer = (
    λ s. (s.0, s.1, (sat_same a (s.0 ∷ froms) answer).0 s.2),
    λ s. (s.0, s.1, (sat_same a (s.0 ∷ froms) answer).1 s.2),
  )
  sat_same (SomeAnswer a) froms answer = (
    λ s. (s.0, s.1, (sat_same a froms s.0).0 s.2),
    λ s. (s.0, s.1, (sat_same a froms s.0).1 s.2),
  )
