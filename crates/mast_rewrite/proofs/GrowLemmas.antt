-- A set of queries that grows part by part.
use Rattle.std.proofs.Common.{◌≡◌, ℕ, zero, suc, ◌+◌, ◌<◌, ◌≤◌, ◌⊎◌, inl, inr, ◌↔◌, length, Contains, List, [], ◌∷◌, ◌++◌, take, slice_get, slice_index_or, Some, refl, sym, subst, ◌∙◌, arith}
use Rattle.std.proofs.lemmas.List.{take_more}
use Rattle.std.proofs.lemmas.List.Elements.{Contains-append_left, Contains-append_right, Contains-append_cases}
use native.Mathlib.Decide.{dec_lt}
use Rattle.mast_cq.specs.declared.query.Cq.{Cq}
use Rattle.mast_tbox.specs.Lists.{Reaches, itself, onward}
use Rattle.mast_tbox.proofs.MemberLemmas.{front, none, only_one, at_place, place_of}
use Rattle.mast_tbox.proofs.WorkLemmas.{extends_itself, extends_join, extends_contains, reaches_more}
use Rattle.mast_rewrite.specs.inside.Growing.{Extends, Within, Grown}

get_before : (xs ys : List Cq) (j : ℕ) → j < length xs → slice_get (xs ++ ys) j ≡ slice_get xs j
get_before [] ys j l = absurd (omega arith)
get_before (x ∷ xs) ys zero l = refl
get_before (x ∷ xs) ys (suc j) l = get_before xs ys j (omega arith)

extends_get : (xs ys : List Cq) → Extends xs ys → (j : ℕ) → j < length xs → slice_get ys j ≡ slice_get xs j
extends_get xs ys e j l = subst (λ w. slice_get w j ≡ slice_get xs j) e.1 (get_before xs e.0 j l)

-- nothing is added where nothing has the property
pub grown_none : (P : Cq → Type 0) (xs : List Cq) → ((m : Cq) → P m → ⊥) → Grown P xs xs
grown_none P xs n = record { extends = extends_itself xs; within = λ m c. inl c; all = λ m p. absurd (n m p) }

-- one part, and then another
pub grown_join : (P Q R : Cq → Type 0) (a b c : List Cq) → Grown P a b → Grown Q b c → ((m : Cq) → P m → R m) → ((m : Cq) → Q m → R m) → ((m : Cq) → R m → P m ⊎ Q m) → Grown R a c
grown_join P Q R a b c u v p q r = record {
  extends = extends_join a b c u.extends v.extends;
  within = λ m i. elim (v.within m i) [ inl j ↦ elim (u.within m j) [ inl k ↦ inl k | inr k ↦ inr (p m k) ] | inr j ↦ inr (q m j) ];
  all = λ m i. elim (r m i) [ inl j ↦ extends_contains b c v.extends m (u.all m j) | inr j ↦ v.all m j ];
}

-- one part, and then some of another
pub within_join : (P Q R : Cq → Type 0) (a b c : List Cq) → Grown P a b → Within Q b c → ((m : Cq) → P m → R m) → ((m : Cq) → Q m → R m) → Within R a c
within_join P Q R a b c u v p q m i = elim (v m i) [ inl j ↦ elim (u.within m j) [ inl k ↦ inl k | inr k ↦ inr (p m k) ] | inr j ↦ inr (q m j) ]

-- a property is another one
pub grown_as : (P R : Cq → Type 0) (a b : List Cq) → Grown P a b → ((m : Cq) → P m ↔ R m) → Grown R a b
grown_as P R a b u e = record {
  extends = u.extends;
  within = λ m i. elim (u.within m i) [ inl j ↦ inl j | inr j ↦ inr ((e m).0 j) ];
  all = λ m r. u.all m ((e m).1 r);
}

module _ (S : Cq → Cq → Type 0) (start : Cq) where
  -- what was added after the start alone is reached
  pub reached_first : (old new : List Cq) → length old ≡ 0 → Within (λ m. m ≡ start) old new → (m : Cq) → Contains new m → Reaches S start m
  reached_first [] new z w m c = elim (w m c) [ inl i ↦ absurd (none m i) | inr e ↦ subst (Reaches S start) (sym e) itself ]
  reached_first (x ∷ xs) new z w m c = absurd (omega arith)

  -- and so is what steps from a member add
  pub reached_next : (keys new : List Cq) (j : ℕ) (node : Cq) → ((m : Cq) → Contains keys m → Reaches S start m) → slice_get keys j ≡ Some node → Within (S node) keys new
      → (m : Cq) → Contains new m → Reaches S start m
  reached_next keys new j node r at w m c = elim (w m c) [
    | inl i ↦ r m i
    | inr s ↦ reaches_more start node m (r node (at_place keys j node at)) s
  ]

  -- the queries are reached from the start, which is one, and the steps from the first ones lead to queries of the list
  pub record Walked (keys : List Cq) (done : ℕ) : Type 0 where
    pub reached : (m : Cq) → Contains keys m → Reaches S start m
    pub begins : Contains keys start
    pub closed : (j : ℕ) (g h : Cq) → j < done → slice_get keys j ≡ Some g → S g h → Contains keys h

  -- in the beginning the start is there alone
  pub walked_first : (old new : List Cq) → length old ≡ 0 → Grown (λ m. m ≡ start) old new → Walked new 0
  walked_first old new z g = record {
    reached = reached_first old new z g.within;
    begins = g.all start refl;
    closed = λ j x h l. absurd (omega arith);
  }

  some_inj : (x y : Cq) → Some x ≡ Some y → x ≡ y
  some_inj x y e = cc

  -- one member more was gone from
  pub walked_next : (keys new : List Cq) (done : ℕ) (node : Cq) → Walked keys done → slice_get keys done ≡ Some node → done < length keys → Grown (S node) keys new → Walked new (done + 1)
  walked_next keys new done node w at within g = record {
    reached = reached_next keys new done node w.reached at g.within;
    begins = extends_contains keys new g.extends start w.begins;
    closed = λ j x h l i s. go j x h l i s (dec_lt j done);
  }
    where
      here : (x h : Cq) → slice_get new done ≡ Some x → S x h → Contains new h
      here x h i s = g.all h (subst (λ v. S v h) (some_inj x node (sym i ∙ (extends_get keys new g.extends done within ∙ at))) s)

      go : (j : ℕ) (x h : Cq) → j < done + 1 → slice_get new j ≡ Some x → S x h → Dec (j < done) → Contains new h
      go j x h l i s (yes d) = extends_contains keys new g.extends h (w.closed j x h d (sym (extends_get keys new g.extends j (omega arith)) ∙ i) s)
      go j x h l i s (no d) = let f : j ≡ done = omega arith in here x h (subst (λ v. slice_get new v ≡ Some x) f i) s

  walked_in : (keys : List Cq) (done : ℕ) → Walked keys done → length keys ≤ done → (g h : Cq) → Contains keys g → Reaches S g h → Contains keys h
  walked_in keys done w l g h c itself = c
  walked_in keys done w l g h c (onward {y = i} s d) =
      walked_in keys done w l i h (w.closed c.0 g i (let k = c.1 in omega arith) (place_of keys c.0 g c.1 c.2) s) d

  -- where all members were gone from they are exactly what is reached
  pub walked_all : (keys : List Cq) (done : ℕ) → Walked keys done → length keys ≤ done → (m : Cq) → Contains keys m ↔ Reaches S start m
  walked_all keys done w l m = (w.reached m, walked_in keys done w l start m w.begins)

-- an element of the first ones and one more
pub take_or : {X : Type 0} (xs : List X) (i : ℕ) (d x : X) → i < length xs → Contains (take (i + 1) xs) x → Contains (take i xs) x ⊎ (x ≡ slice_index_or xs i d)
take_or xs i d x l c = elim (Contains-append_cases (take i xs) (slice_index_or xs i d ∷ []) x (subst (λ w. Contains w x) (take_more xs i d l) c)) [
  | inl j ↦ inl j
  | inr j ↦ inr (only_one (slice_index_or xs i d) x j)
]

-- what is among the first ones is among one more
pub take_before : {X : Type 0} (xs : List X) (i : ℕ) (d x : X) → i < length xs → Contains (take i xs) x → Contains (take (i + 1) xs) x
take_before xs i d x l c = subst (λ w. Contains w x) (sym (take_more xs i d l)) (Contains-append_left (take i xs) (slice_index_or xs i d ∷ []) x c)

-- the next one is among one more
pub take_last : {X : Type 0} (xs : List X) (i : ℕ) (d : X) → i < length xs → Contains (take (i + 1) xs) (slice_index_or xs i d)
take_last xs i d l = subst (λ w. Contains w (slice_index_or xs i d)) (sym (take_more xs i d l)) (Contains-append_right (take i xs) (slice_index_or xs i d ∷ []) (slice_index_or xs i d) (front (slice_index_or xs i d) []))
