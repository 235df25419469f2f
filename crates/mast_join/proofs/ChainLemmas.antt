-- Chains of places with one key.
use Rattle.std.proofs.Common.{◌≡◌, ℕ, zero, suc, ◌+◌, ◌<◌, Bool, true, false, if◌then◌else◌, List, [], ◌∷◌, ◌++◌, length, get_or, set, ◌⊎◌, inl, inr, refl, sym, ap, subst, ◌∙◌, add-one, arith}
use Rattle.std.specs.Prelude.{Option, Some, None}
use Rattle.std.proofs.lemmas.Bool.{cases_Bool, cases_eq, cond-true, cond-false, false≢true, eq-eqb, ne_eqb}
use Rattle.std.proofs.lemmas.List.{get_or-set_same, get_or-set_other, get_or_append_left, get_or_push, length_push, length-set}
use Rattle.std.proofs.lemmas.Option.{none-some, same_Some}
use Rattle.mast_cq.specs.Queries.{In}
use Rattle.mast_join.specs.inside.Chains.{has_key, chain, last, AreHeads, AreNexts, heads_after, next_of, IsIndexed}
use Rattle.mast_join.specs.inside.Partial.{Once}

-- the last of the places with a key, before those before it
pub record HasLast (keys : List (Option ℕ)) (key count : ℕ) : Type 0 where
  pub place : ℕ
  pub is : last keys key count ≡ suc place
  pub below : place < count
  pub key_there : has_key key (get_or keys place None) ≡ true
  pub chained : chain keys key count ≡ place ∷ chain keys key place

-- there is no place with the key, or a last one
pub last_of : (keys : List (Option ℕ)) (key count : ℕ) → ((last keys key count ≡ 0) × (chain keys key count ≡ [])) ⊎ HasLast keys key count
last_of keys key zero = inl (refl, refl)
last_of keys key (suc n) = elim (cases_Bool (has_key key (get_or keys n None))) [
  | inl e ↦ inr (record {
    place = n;
    is = cond-true (has_key key (get_or keys n None)) (suc n) (last keys key n) e;
    below = omega arith;
    key_there = e;
    chained = cond-true (has_key key (get_or keys n None)) (n ∷ chain keys key n) (chain keys key n) e;
  })
  | inr e ↦ elim (last_of keys key n) [
    | inl p ↦ inl (
      cond-false (has_key key (get_or keys n None)) (suc n) (last keys key n) e ∙ p.0,
      cond-false (has_key key (get_or keys n None)) (n ∷ chain keys key n) (chain keys key n) e ∙ p.1,
    )
    | inr h ↦ let lt : h.place < n = h.below in inr (record {
      place = h.place;
      is = cond-false (has_key key (get_or keys n None)) (suc n) (last keys key n) e ∙ h.is;
      below = omega arith;
      key_there = h.key_there;
      chained = cond-false (has_key key (get_or keys n None)) (n ∷ chain keys key n) (chain keys key n) e ∙ h.chained;
    })
  ]
]

chain_case : (b : Bool) (place n : ℕ) (ks : List ℕ) → b ≡ true → place ≡ n → In place (if b then n ∷ ks else ks)
chain_case true place n ks e q = inl q
chain_case false place n ks e q = absurd (false≢true e)

chain_later : (b : Bool) (place n : ℕ) (ks : List ℕ) → In place ks → In place (if b then n ∷ ks else ks)
chain_later true place n ks i = inr i
chain_later false place n ks i = i

-- each place with the key is in the chain
pub chain_in : (keys : List (Option ℕ)) (key count place : ℕ) → place < count → has_key key (get_or keys place None) ≡ true → In place (chain keys key count)
chain_in keys key zero place lt e = absurd (omega arith)
chain_in keys key (suc n) place lt e = elim (cases_eq place n) [
  | inl q ↦ chain_case (has_key key (get_or keys n None)) place n (chain keys key n) (subst (λ (k : ℕ). has_key key (get_or keys k None) ≡ true) q e) q
  | inr ne ↦ chain_later (has_key key (get_or keys n None)) place n (chain keys key n) (chain_in keys key n place (omega (arith, ne)) e)
]

chain_split : (b : Bool) (place n : ℕ) (ks : List ℕ) → In place (if b then n ∷ ks else ks) → (place ≡ n) ⊎ In place ks
chain_split true place n ks i = i
chain_split false place n ks i = inr i

-- and the chain has none but places below the count
pub in_chain : (keys : List (Option ℕ)) (key count place : ℕ) → In place (chain keys key count) → place < count
in_chain keys key zero place i = absurd i
in_chain keys key (suc n) place i = elim (chain_split (has_key key (get_or keys n None)) place n (chain keys key n) i) [
  | inl q ↦ omega (arith, q)
  | inr j ↦ let lt : place < n = in_chain keys key n place j in omega arith
]

chain_once_case : (b : Bool) (n : ℕ) (ks : List ℕ) → Once ks → (In n ks → ⊥) → Once (if b then n ∷ ks else ks)
chain_once_case true n ks p a = (a, p)
chain_once_case false n ks p a = p

-- each once
pub chain_once : (keys : List (Option ℕ)) (key count : ℕ) → Once (chain keys key count)
chain_once keys key zero = tt
chain_once keys key (suc n) = chain_once_case (has_key key (get_or keys n None)) n (chain keys key n) (chain_once keys key n) (λ i. let lt : n < n = in_chain keys key n n i in absurd (omega arith))

head_case : (keys : List (Option ℕ)) (i key other : ℕ) (heads : List ℕ) → get_or keys i None ≡ Some key → AreHeads keys i heads → key < length heads → other < length heads → get_or (set heads key (i + 1)) other 0 ≡ last keys other (suc i)
head_case keys i key other heads e a lt within = elim (cases_eq other key) [
  | inl q ↦ ap (λ (k : ℕ). get_or (set heads key (i + 1)) k 0) q ∙ get_or-set_same heads key (i + 1) 0 lt ∙ add-one i
      ∙ sym (cond-true (has_key other (get_or keys i None)) (suc i) (last keys other i) (ap (has_key other) e ∙ eq-eqb key other (sym q)))
  | inr n ↦ get_or-set_other heads key other (i + 1) 0 n ∙ a other within
      ∙ sym (cond-false (has_key other (get_or keys i None)) (suc i) (last keys other i) (ap (has_key other) e ∙ ne_eqb key other (λ q. n (sym q))))
]

heads_more : (keys : List (Option ℕ)) (i : ℕ) (key : Option ℕ) (heads : List ℕ) → get_or keys i None ≡ key → AreHeads keys i heads → ((k : ℕ) → key ≡ Some k → k < length heads) → AreHeads keys (suc i) (heads_after key i heads)
heads_more keys i None heads e a within k lt =
    a k lt ∙ sym (cond-false (has_key k (get_or keys i None)) (suc i) (last keys k i) (ap (has_key k) e))
heads_more keys i (Some key) heads e a within k lt =
    head_case keys i key k heads e a (within key refl) (subst (λ (n : ℕ). k < n) (length-set heads key (i + 1)) lt)

next_here : (keys : List (Option ℕ)) (i : ℕ) (key : Option ℕ) (heads : List ℕ) (k : ℕ) → key ≡ Some k → AreHeads keys i heads → ((k : ℕ) → key ≡ Some k → k < length heads) → next_of key heads ≡ last keys k i
next_here keys i None heads k e a within = absurd (none-some k e)
next_here keys i (Some key) heads k e a within =
    let q : key ≡ k = same_Some key k e in
    a key (within key refl) ∙ ap (λ (n : ℕ). last keys n i) q

nexts_more : (keys : List (Option ℕ)) (i : ℕ) (key : Option ℕ) (heads nexts : List ℕ) → get_or keys i None ≡ key → AreHeads keys i heads → AreNexts keys i nexts → length nexts ≡ i → ((k : ℕ) → key ≡ Some k → k < length heads) → AreNexts keys (suc i) (nexts ++ next_of key heads ∷ [])
nexts_more keys i key heads nexts e a b long within place k lt h = elim (cases_eq place i) [
  | inl q ↦ get_or_push nexts (next_of key heads) 0 place (long ∙ sym q)
      ∙ next_here keys i key heads k (sym e ∙ ap (λ (n : ℕ). get_or keys n None) (sym q) ∙ h) a within ∙ ap (λ (n : ℕ). last keys k n) (sym q)
  | inr n ↦ get_or_append_left nexts (next_of key heads ∷ []) 0 place (omega (arith, n, long)) ∙ b place k (omega (arith, n)) h
]

-- one place more
pub indexed_more : (keys : List (Option ℕ)) (i : ℕ) (key : Option ℕ) (heads nexts : List ℕ) → IsIndexed keys i heads nexts → get_or keys i None ≡ key → ((k : ℕ) → key ≡ Some k → k < length heads) → IsIndexed keys (i + 1) (heads_after key i heads) (nexts ++ next_of key heads ∷ [])
indexed_more keys i key heads nexts x e within = record {
  heads_are = subst (λ (n : ℕ). AreHeads keys n (heads_after key i heads)) (sym (add-one i)) (heads_more keys i key heads e x.heads_are within);
  nexts_are = subst (λ (n : ℕ). AreNexts keys n (nexts ++ next_of key heads ∷ [])) (sym (add-one i)) (nexts_more keys i key heads nexts e x.heads_are x.nexts_are x.long within);
  long = length_push nexts (next_of key heads) ∙ ap (λ (n : ℕ). n + 1) x.long;
}
