-- Terminals have one answer.
use Rattle.std.proofs.Common.{◌≡◌, ◌⊎◌, inl, inr, ℕ, ◌≤◌, true, List, refl, ap, sym, ◌∙◌, subst, arith}
use Rattle.std.specs.Prelude.{Option, Some, None, take}
use Rattle.mast_source.specs.Grammar.{UnexpectedAt}
use Rattle.mast_source.proofs.GrammarLemmas.{ordered, sentence_expected, one_unexpected}
use Rattle.mast_grammar.specs.declared.terminal.Terminal.{Terminal}
use Rattle.mast_grammar.specs.declared.terminal.Terminal.TheVariants as terminal
use Rattle.mast_grammar.specs.declared.breach.GrammarKind.{GrammarKind}
use Rattle.mast_grammar.specs.declared.breach.GrammarKind.TheVariants as kind
use Rattle.mast_grammar.specs.declared.breach.GrammarBreach.{GrammarBreach}
use Rattle.mast_grammar.specs.Grammar.{IsQuery}
use Rattle.mast_grammar.specs.Breaches.{is_operator, is_object, Passes, LimitAt, NoLimitAt, IsFirstBreach, IsFirstLimit, IsWithinLimits, Tells}
use Rattle.mast_grammar.specs.Laws.{HasOneAnswer}
use Rattle.mast_grammar.specs.inside.Reader.{breach_at}
use Rattle.mast_grammar.proofs.PredictLemmas.{false_true}
use Rattle.mast_grammar.proofs.LookLemmas.{look_exact, some_terminal}
use Rattle.mast_grammar.proofs.ReaderLemmas.{told}

-- the one limit that a terminal can pass
abbrev limit_of : Terminal → GrammarKind
limit_of terminal.Open = kind.Depth
limit_of terminal.Union = kind.Operators
limit_of terminal.Except = kind.Operators
limit_of terminal.Intersect = kind.Operators
limit_of terminal.And = kind.Operators
limit_of terminal.Or = kind.Operators
limit_of terminal.Not = kind.Operators
limit_of terminal.Sparqltable = kind.Entries
limit_of terminal.OpenBrace = kind.Disjuncts
limit_of _ = kind.Atoms

operator_limit : (k : Terminal) → is_operator k ≡ true → kind.Operators ≡ limit_of k
operator_limit terminal.Union h = refl
operator_limit terminal.Except h = refl
operator_limit terminal.Intersect h = refl
operator_limit terminal.And h = refl
operator_limit terminal.Or h = refl
operator_limit terminal.Not h = refl
operator_limit _ h = absurd (false_true h)

object_limit : (k : Terminal) → is_object k ≡ true → kind.Atoms ≡ limit_of k
object_limit terminal.Var h = refl
object_limit terminal.Pname h = refl
object_limit terminal.Iri h = refl
object_limit terminal.Integer h = refl
object_limit terminal.Doubled h = refl
object_limit _ h = absurd (false_true h)

passed_limit : (limits : GrammarKind) (before : List Terminal) (k : Terminal) → Passes limits before k → limits ≡ limit_of k
passed_limit kind.Grammar before k p = absurd p
passed_limit kind.Depth before k p = ap limit_of (sym p.0)
passed_limit kind.Operators before k p = operator_limit k p.0
passed_limit kind.Entries before k p = ap limit_of (sym p.0)
passed_limit kind.Disjuncts before k p = ap limit_of (sym p.0)
passed_limit kind.Atoms before k p = object_limit k p.0

-- one terminal passes one limit
one_limit : (ks : List Terminal) (i : ℕ) (a b : GrammarKind) → LimitAt ks i a → LimitAt ks i b → a ≡ b
one_limit ks i a b h g =
    let e : h.0 ≡ g.0 = some_terminal h.0 g.0 (sym h.1 ∙ g.1) in
    passed_limit a (take i ks) h.0 h.2 ∙ (ap limit_of e ∙ sym (passed_limit b (take i ks) g.0 g.2))

-- a first breach of the grammar, and a first limit
abbrev IsGrammarBreach : List Terminal → ℕ → Type 0
IsGrammarBreach ks i = UnexpectedAt IsQuery ks i × ((j : ℕ) → j ≤ i → NoLimitAt ks j)

-- a first breach is one of these
abbrev Sorted : List Terminal → ℕ → GrammarKind → Type 0
Sorted ks i limits = ((limits ≡ kind.Grammar) × IsGrammarBreach ks i) ⊎ IsFirstLimit ks i limits

sorted : (ks : List Terminal) (i : ℕ) (limits : GrammarKind) → IsFirstBreach ks i limits → Sorted ks i limits
sorted ks i kind.Grammar h = inl (refl, h)
sorted ks i kind.Depth h = inr h
sorted ks i kind.Operators h = inr h
sorted ks i kind.Entries h = inr h
sorted ks i kind.Disjuncts h = inr h
sorted ks i kind.Atoms h = inr h

-- a limit and a breach of the grammar are not both the first
not_both : (ks : List Terminal) (i j : ℕ) (limits : GrammarKind) → IsGrammarBreach ks i → IsFirstLimit ks j limits → ⊥
not_both ks i j limits h g = elim (ordered i j) [
  | inl l ↦ g.2 i l h.0
  | inr m ↦ h.1 j (elim m [ inl e ↦ omega arith | inr l ↦ omega arith ]) limits g.0
]

same_breach : (m n : ℕ) (k l : GrammarKind) → m ≡ n → k ≡ l → breach_at m k ≡ breach_at n l
same_breach m n k l e f = ap (λ x. breach_at x k) e ∙ ap (λ x. breach_at n x) f

-- two first limits are one
limits_one : (ks : List Terminal) (i j : ℕ) (a b : GrammarKind) → IsFirstLimit ks i a → IsFirstLimit ks j b → breach_at i a ≡ breach_at j b
limits_one ks i j a b h g = elim (ordered i j) [
  | inl l ↦ absurd (g.1 i l a h.0)
  | inr m ↦ elim m [
    | inl e ↦ same_breach i j a b e (one_limit ks j a b (subst (λ x. LimitAt ks x a) e h.0) g.0)
    | inr l ↦ absurd (h.1 j l b g.0)
  ]
]

breaches_one : (ks : List Terminal) (i j : ℕ) (a b : GrammarKind) → Sorted ks i a → Sorted ks j b → breach_at i a ≡ breach_at j b
breaches_one ks i j a b (inl h) (inl g) = same_breach i j a b (one_unexpected IsQuery ks i j h.1.0 g.1.0) (h.0 ∙ sym g.0)
breaches_one ks i j a b (inl h) (inr g) = absurd (not_both ks i j b h.1 g)
breaches_one ks i j a b (inr h) (inl g) = absurd (not_both ks j i a g.1 h)
breaches_one ks i j a b (inr h) (inr g) = limits_one ks i j a b h g

-- a query within the limits has no breach
no_breach : (ks : List Terminal) (i : ℕ) (limits : GrammarKind) → IsWithinLimits ks → Sorted ks i limits → ⊥
no_breach ks i limits h (inl g) = sentence_expected IsQuery ks h.0.0 i h.0.1 g.1.0
no_breach ks i limits h (inr g) = h.1 i limits g.0

one_told : (ks : List Terminal) (a b : Option GrammarBreach) → Tells ks a → Tells ks b → a ≡ b
one_told ks None None h g = refl
one_told ks None (Some y) h g = absurd (no_breach ks y.at y.kind h (sorted ks y.at y.kind g))
one_told ks (Some x) None h g = absurd (no_breach ks x.at x.kind g (sorted ks x.at x.kind h))
one_told ks (Some x) (Some y) h g =
    breaches_one ks x.at y.at x.kind y.kind (sorted ks x.at x.kind h) (sorted ks y.at y.kind g)

-- terminals have one answer
pub has_one_answer : (ks : List Terminal) → HasOneAnswer ks
has_one_answer ks = record { either = (told ks, look_exact ks); one = one_told ks }
