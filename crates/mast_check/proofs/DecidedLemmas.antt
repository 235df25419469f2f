-- What is decided, of what its parts are.
use Rattle.std.proofs.Common.{◌≡◌, ℕ, inl, inr, List, [], ◌∷◌, refl, subst}
use Rattle.std.proofs.lemmas.Bool.{cases_eq}
use Rattle.mast_terms.specs.declared.term.Term.{Term}
use Rattle.mast_terms.proofs.OrderLemmas.{term_equality_test}
use Rattle.mast_terms.specs.contracts.term.TermPartialEq.TheImpl as term_eq
use Rattle.mast_cq.specs.Queries.{In}
use Rattle.mast_tbox.specs.Laws.{Decided}
use Rattle.mast_canon.proofs.KeptRangeLemmas.{decide}

-- what follows from a decided statement is decided
pub dec_then : {A B : Type 0} → Decided A → Decided B → Decided (A → B)
dec_then (inr n) d = inl (λ a. absurd (n a))
dec_then (inl a) (inl b) = inl (λ x. b)
dec_then (inl a) (inr n) = inr (λ f. n (f a))

-- whether what is decided of each is so of some element of a list
pub dec_among : {X : Type 0} {Q : X → Type 0} → ((x : X) → Decided (Q x)) → (xs : List X) → Decided ((x : X) × (In x xs × Q x))
dec_among dec [] = inr (λ w. w.1.0)
dec_among {X} {Q} dec (x ∷ xs) = go (dec x) (dec_among dec xs)
  where
    go : Decided (Q x) → Decided ((y : X) × (In y xs × Q y)) → Decided ((y : X) × (In y (x ∷ xs) × Q y))
    go (inl p) d = inl (x, (inl refl, p))
    go (inr n) (inl w) = inl (w.0, (inr w.1.0, w.1.1))
    go (inr n) (inr m) = inr (λ w. elim w.1.0 [ inl e ↦ n (subst Q e w.1.1) | inr i ↦ m (w.0, (i, w.1.1)) ])

-- whether two numbers are the same is decided
pub same_number : (k j : ℕ) → Decided (k ≡ j)
same_number k j = cases_eq k j

-- whether two terms are the same is decided
pub same_term : (t u : Term) → Decided (t ≡ u)
same_term t u = decide term_eq.ghosts.eq term_equality_test t u
