-- The walk along the rows with one key.
use Rattle.std.proofs.Common.{◌≡◌, ℕ, suc, ◌-◌, ◌<◌, ◌≤◌, true, List, [], ◌∷◌, ◌++◌, length, get_or, map, inl, inr, refl, sym, ap, subst, ◌∙◌, arith, append_assoc, append-nil}
use Rattle.std.specs.Prelude.{Option, Some, None}
use Rattle.std.proofs.lemmas.Bool.{eqb-true, false≢true}
use Rattle.mast_join.specs.declared.index.Index.{Index}
use Rattle.mast_join.specs.inside.Chains.{chain, last, has_key}
use Rattle.mast_join.specs.inside.Lookups.{scattered, keys, IsIndex, numbered}
use Rattle.mast_join.proofs.ChainLemmas.{last_of}

-- the key of a number in an index
abbrev pub key_in : Index → ℕ → ℕ
key_in i number = scattered (length i.heads.items) number

-- the rows at places of an index
abbrev pub rows_at : Index → List ℕ → List ℕ
rows_at i places = map (λ place. get_or i.rows.now place 0) places

-- the place is 0, and nothing is left, or it is the next of the chain
pub record IsWalked (i : Index) (number : ℕ) (before found : List ℕ) (place : ℕ) : Type 0 where
  pub within : place ≤ length i.rows.now
  pub rest : found ++ rows_at i (chain (keys i) (key_in i number) place) ≡ before ++ numbered i number
  pub here : (next : ℕ) → place ≡ suc next → has_key (key_in i number) (get_or (keys i) next None) ≡ true

-- the last place with a key stands for the chain before a place
pub at_last : (i : Index) (number : ℕ) (before found : List ℕ) (count : ℕ) → count ≤ length i.rows.now → found ++ rows_at i (chain (keys i) (key_in i number) count) ≡ before ++ numbered i number → IsWalked i number before found (last (keys i) (key_in i number) count)
at_last i number before found count le e = elim (last_of (keys i) (key_in i number) count) [
  | inl p ↦ subst (λ (k : ℕ). IsWalked i number before found k) (sym p.0) (record {
    within = omega arith;
    rest = subst (λ (k : List ℕ). found ++ rows_at i k ≡ before ++ numbered i number) p.1 e;
    here = λ next q. absurd (omega (arith, q));
  })
  | inr h ↦
      let lt : h.place < count = h.below in
      let own : chain (keys i) (key_in i number) (suc h.place) ≡ h.place ∷ chain (keys i) (key_in i number) h.place = whole (keys i) (key_in i number) h.place h.key_there in
      subst (λ (k : ℕ). IsWalked i number before found k) (sym h.is) (record {
        within = omega arith;
        rest = subst (λ (k : List ℕ). found ++ rows_at i k ≡ before ++ numbered i number) (h.chained ∙ sym own) e;
        here = λ next q. subst (λ (k : ℕ). has_key (key_in i number) (get_or (keys i) k None) ≡ true) (omega (arith, q)) h.key_there;
      })
]
  where
    whole : (ks : List (Option ℕ)) (key n : ℕ) → has_key key (get_or ks n None) ≡ true → chain ks key (suc n) ≡ n ∷ chain ks key n
    whole ks key n e = rw e refl

-- at the end all is found
pub walked_out : (i : Index) (number : ℕ) (before found : List ℕ) (place : ℕ) → place ≡ 0 → IsWalked i number before found place → found ≡ before ++ numbered i number
walked_out i number before found place z w =
    sym (append-nil found) ∙ subst (λ (k : ℕ). found ++ rows_at i (chain (keys i) (key_in i number) k) ≡ before ++ numbered i number) z w.rest

is_key : (key : ℕ) (o : Option ℕ) → has_key key o ≡ true → o ≡ Some key
is_key key None e = absurd (false≢true e)
is_key key (Some other) e = ap (λ (k : ℕ). Some k) (eqb-true other key e)

-- the next place of the chain
pub walked_more : (i : Index) (x : IsIndex i) (number : ℕ) (before found : List ℕ) (next row : ℕ) → IsWalked i number before found (suc next) → row ≡ get_or i.rows.now next 0 → IsWalked i number before (found ++ row ∷ []) (get_or i.nexts.items next 0)
walked_more i x number before found next row w e =
    let lt : suc next ≤ length i.rows.now = w.within in
    let has : has_key (key_in i number) (get_or (keys i) next None) ≡ true = w.here next refl in
    let step : get_or i.nexts.items next 0 ≡ last (keys i) (key_in i number) next = x.indexed.nexts_are next (key_in i number) (omega arith) (is_key (key_in i number) (get_or (keys i) next None) has) in
    let own : chain (keys i) (key_in i number) (suc next) ≡ next ∷ chain (keys i) (key_in i number) next = whole (keys i) (key_in i number) next has in
    let rest : found ++ (row ∷ []) ++ rows_at i (chain (keys i) (key_in i number) next) ≡ before ++ numbered i number =
    append_assoc found (row ∷ []) (rows_at i (chain (keys i) (key_in i number) next))
    ∙ (ap (λ (k : ℕ). found ++ (k ∷ rows_at i (chain (keys i) (key_in i number) next))) e
    ∙ (ap (λ (k : List ℕ). found ++ rows_at i k) (sym own) ∙ w.rest)) in
    subst (λ (k : ℕ). IsWalked i number before (found ++ row ∷ []) k) (sym step) (at_last i number before (found ++ row ∷ []) next (omega arith) rest)
  where
    whole : (ks : List (Option ℕ)) (key n : ℕ) → has_key key (get_or ks n None) ≡ true → chain ks key (suc n) ≡ n ∷ chain ks key n
    whole ks key n e = rw e refl

-- at the beginning nothing is found, and the whole chain is left
pub walked_first : (i : Index) (x : IsIndex i) (number : ℕ) (before : List ℕ) (place key : ℕ) → key ≡ key_in i number → key < length i.heads.items → place ≡ get_or i.heads.items key 0 → IsWalked i number before before place
walked_first i x number before place key e lt at =
    let own : place ≡ last (keys i) (key_in i number) (length i.rows.now) = at ∙ ap (λ (k : ℕ). get_or i.heads.items k 0) e ∙ x.indexed.heads_are (key_in i number) (omega (arith, e, lt)) in
    subst (λ (k : ℕ). IsWalked i number before before k) (sym own) (at_last i number before before (length i.rows.now) (omega arith) refl)

last_below : (ks : List (Option ℕ)) (key n : ℕ) → last ks key n ≤ n
last_below ks key n = elim (last_of ks key n) [
  | inl p ↦ let z : last ks key n ≡ 0 = p.0 in omega arith
  | inr h ↦ let e : last ks key n ≡ suc h.place = h.is in let lt : h.place < n = h.below in omega arith
]

-- the next place is before this one
pub walked_smaller : (i : Index) (x : IsIndex i) (number : ℕ) (before found : List ℕ) (place next : ℕ) → IsWalked i number before found place → 0 < place → next ≡ get_or i.nexts.items (place - 1) 0 → next < place
walked_smaller i x number before found place next w some e =
    let one : place ≡ suc (place - 1) = omega arith in
    let within : place ≤ length i.rows.now = w.within in
    let has : has_key (key_in i number) (get_or (keys i) (place - 1) None) ≡ true = w.here (place - 1) one in
    let step : get_or i.nexts.items (place - 1) 0 ≡ last (keys i) (key_in i number) (place - 1) = x.indexed.nexts_are (place - 1) (key_in i number) (omega arith) (is_key (key_in i number) (get_or (keys i) (place - 1) None) has) in
    omega (arith, step, e, last_below (keys i) (key_in i number) (place - 1))

-- and the walk goes on there
pub walked_next : (i : Index) (x : IsIndex i) (number : ℕ) (before found new : List ℕ) (place next row : ℕ) → IsWalked i number before found place → 0 < place → row ≡ get_or i.rows.now (place - 1) 0 → new ≡ found ++ row ∷ [] → next ≡ get_or i.nexts.items (place - 1) 0 → IsWalked i number before new next
walked_next i x number before found new place next row w some r e n =
    let one : place ≡ suc (place - 1) = omega arith in
    let more = walked_more i x number before found (place - 1) row (subst (λ (k : ℕ). IsWalked i number before found k) one w) r in
    subst (λ (k : List ℕ). IsWalked i number before k next) (sym e) (subst (λ (k : ℕ). IsWalked i number before (found ++ row ∷ []) k) (sym n) more)
