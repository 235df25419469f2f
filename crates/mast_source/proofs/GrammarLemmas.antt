-- The first symbol that no sentence goes on with, over any grammar.
use Rattle.std.proofs.Common.{◌≡◌, ◌⊎◌, inl, inr, ℕ, zero, suc, ◌<◌, ◌≤◌, List, [], ◌++◌, length, take, refl, ap, sym, subst, arith, append_assoc}
use Rattle.std.proofs.lemmas.List.{append-nil}
use Rattle.mast_source.specs.Grammar.{Begins, UnexpectedAt}
use Rattle.mast_source.proofs.ListLemmas.{take_all, take_more}

-- a front of what begins a sentence begins one
pub front_begins : {K T : Type 0} (Is : List K → T → Type 0) (xs ys : List K) → Begins Is (xs ++ ys) → Begins Is xs
front_begins Is xs ys b = (ys ++ b.0, b.1, subst (λ x. Is x b.1) (append_assoc xs ys b.0) b.2)

-- with fewer symbols it still begins one
pub fewer_begin : {K T : Type 0} (Is : List K → T → Type 0) (ks : List K) (m n : ℕ) → m ≤ n → Begins Is (take n ks) → Begins Is (take m ks)
fewer_begin Is ks m n l b = let t = take_more ks m n l in front_begins Is (take m ks) t.0 (subst (λ x. Begins Is x) t.1 b)

-- a sentence begins one
pub whole_begins : {K T : Type 0} (Is : List K → T → Type 0) (ks : List K) (t : T) → Is ks t → Begins Is ks
whole_begins Is ks t h = ([], t, subst (λ x. Is x t) (sym (append-nil ks)) h)

-- each front of a sentence begins one
pub sentence_begins : {K T : Type 0} (Is : List K → T → Type 0) (ks : List K) (t : T) (n : ℕ) → Is ks t → Begins Is (take n ks)
sentence_begins Is ks t n h = elim (under n (length ks)) [
  | inl l ↦ fewer_begin Is ks n (length ks) l (subst (λ x. Begins Is x) (sym (take_all ks (length ks) (omega arith))) (whole_begins Is ks t h))
  | inr l ↦ subst (λ x. Begins Is x) (sym (take_all ks n (omega arith))) (whole_begins Is ks t h)
]
  where
    under : (a b : ℕ) → (a ≤ b) ⊎ (b < a)
    under zero b = inl (omega arith)
    under (suc a) zero = inr (omega arith)
    under (suc a) (suc b) = elim (under a b) [
      | inl l ↦ inl (omega arith)
      | inr l ↦ inr (omega arith)
    ]

-- of two numbers one is less, or they are equal
pub ordered : (a b : ℕ) → (a < b) ⊎ ((a ≡ b) ⊎ (b < a))
ordered zero zero = inr (inl refl)
ordered zero (suc b) = inl (omega arith)
ordered (suc a) zero = inr (inr (omega arith))
ordered (suc a) (suc b) = elim (ordered a b) [
  | inl h ↦ inl (omega arith)
  | inr h ↦ elim h [
    | inl e ↦ inr (inl (ap suc e))
    | inr l ↦ inr (inr (omega arith))
  ]
]

-- a sentence has no symbol that is unexpected
pub sentence_expected : {K T : Type 0} (Is : List K → T → Type 0) (ks : List K) (t : T) (i : ℕ) → Is ks t → UnexpectedAt Is ks i → ⊥
sentence_expected Is ks t i h u = elim (ordered i (length ks)) [
  | inl l ↦ u.next l (sentence_begins Is ks t (suc i) h)
  | inr m ↦ elim m [
    | inl e ↦ u.whole e t h
    | inr l ↦ (let w = u.within in omega arith)
  ]
]

-- behind the symbol that is unexpected none is
pub earlier_unexpected : {K T : Type 0} (Is : List K → T → Type 0) (ks : List K) (i j : ℕ) → i < j → UnexpectedAt Is ks i → UnexpectedAt Is ks j → ⊥
earlier_unexpected Is ks i j l u v = u.next (let w = v.within in omega arith) (fewer_begin Is ks (suc i) j (omega arith) v.begins)

-- where a sentence begins with more symbols, none before is unexpected
pub begun_expected : {K T : Type 0} (Is : List K → T → Type 0) (ks : List K) (i n : ℕ) → i < n → i < length ks → Begins Is (take n ks) → UnexpectedAt Is ks i → ⊥
begun_expected Is ks i n l m b u = u.next m (fewer_begin Is ks (suc i) n (omega arith) b)

-- only one symbol is unexpected
pub one_unexpected : {K T : Type 0} (Is : List K → T → Type 0) (ks : List K) (i j : ℕ) → UnexpectedAt Is ks i → UnexpectedAt Is ks j → i ≡ j
one_unexpected Is ks i j u v = elim (ordered i j) [
  | inl l ↦ absurd (earlier_unexpected Is ks i j l u v)
  | inr m ↦ elim m [
    | inl e ↦ e
    | inr l ↦ absurd (earlier_unexpected Is ks j i l v u)
  ]
]
