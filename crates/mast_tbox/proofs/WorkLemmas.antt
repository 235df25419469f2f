-- A work list: the elements reached from one, in the order in which they are found.
use Rattle.std.proofs.Common.{◌≡◌, ℕ, zero, suc, ◌+◌, ◌≤◌, ◌<◌, ◌⊎◌, inl, inr, ◌↔◌, Bool, true, false, List, [], ◌∷◌, ◌++◌, length, Contains, slice_get, Some, None, refl, sym, ap, subst, ◌∙◌, arith, append_assoc, append-nil, if◌then◌else◌}
use Rattle.std.specs.List.{list_any}
use Rattle.std.proofs.lemmas.List.Elements.{Contains-append_left, Contains-append_cases}
use native.Mathlib.Decide.{dec_lt}
use Rattle.indexmap.specs.IndexSet.{insert_key, insert_all}
use Rattle.indexmap.proofs.CallerLemmas.{Contains-insert_key}
use Rattle.mast_tbox.specs.Lists.{Reaches, itself, onward}
use Rattle.mast_tbox.proofs.MemberLemmas.{front, later, none, first_or, only_one, at_place, place_of}

module _ {X : Type 0} {S : X → X → Type 0} where
  -- one step more at the end, and lists of steps joined
  pub reaches_join : (x y z : X) → Reaches S x y → Reaches S y z → Reaches S x z
  reaches_join x y z itself r = r
  reaches_join x y z (onward {y = w} s d) r = onward s (reaches_join w y z d r)

  -- one step more at the end
  pub reaches_more : (x y z : X) → Reaches S x y → S y z → Reaches S x z
  reaches_more x y z r s = reaches_join x y z r (onward s itself)

-- what is reached by the steps of one kind is reached by the steps of another that has them
pub reaches_weaker : {X : Type 0} {S T : X → X → Type 0} → ((x y : X) → S x y → T x y) → (x y : X) → Reaches S x y → Reaches T x y
reaches_weaker f x y itself = itself
reaches_weaker f x y (onward {y = w} s d) = onward (f x w s) (reaches_weaker f w y d)

-- the second list begins with the first
abbrev pub Extends : {X : Type 0} → List X → List X → Type 0
Extends {X} xs ys = (more : List X) × (xs ++ more ≡ ys)

module _ {X : Type 0} where
  get_before : (xs ys : List X) (j : ℕ) → j < length xs → slice_get (xs ++ ys) j ≡ slice_get xs j
  get_before [] ys j l = absurd (omega arith)
  get_before (x ∷ xs) ys zero l = refl
  get_before (x ∷ xs) ys (suc j) l = get_before xs ys j (omega arith)

  extends_get : (xs ys : List X) → Extends xs ys → (j : ℕ) → j < length xs → slice_get ys j ≡ slice_get xs j
  extends_get xs ys e j l = subst (λ w. slice_get w j ≡ slice_get xs j) e.1 (get_before xs e.0 j l)

  pub extends_contains : (xs ys : List X) → Extends xs ys → (x : X) → Contains xs x → Contains ys x
  extends_contains xs ys e x c = subst (λ w. Contains w x) e.1 (Contains-append_left xs e.0 x c)

  pub extends_itself : (xs : List X) → Extends xs xs
  extends_itself xs = ([], append-nil xs)

  pub extends_join : (xs ys zs : List X) → Extends xs ys → Extends ys zs → Extends xs zs
  extends_join xs ys zs a b = (a.0 ++ b.0, sym (append_assoc xs a.0 b.0) ∙ (ap (λ w. w ++ b.0) a.1 ∙ b.1))

module _ {X : Type 0} (eq : X → X → Bool) (same : (x y : X) → eq x y ≡ true → x ≡ y) where
  insert_extends : (ks : List X) (k : X) → Extends ks (insert_key eq ks k)
  insert_extends ks k = go (list_any (eq k) ks)
    where
      go : (b : Bool) → Extends ks (if b then ks else ks ++ k ∷ [])
      go true = extends_itself ks
      go false = (k ∷ [], refl)

  insert_from : (ks : List X) (k x : X) → Contains (insert_key eq ks k) x → Contains ks x ⊎ (x ≡ k)
  insert_from ks k x c = go (list_any (eq k) ks) c
    where
      go : (b : Bool) → Contains (if b then ks else ks ++ k ∷ []) x → Contains ks x ⊎ (x ≡ k)
      go true c = inl c
      go false c = elim (Contains-append_cases ks (k ∷ []) x c) [ inl i ↦ inl i | inr i ↦ inr (only_one k x i) ]

  pub all_extends : (xs ks : List X) → Extends ks (insert_all eq ks xs)
  all_extends [] ks = extends_itself ks
  all_extends (x ∷ xs) ks = extends_join ks (insert_key eq ks x) (insert_all eq (insert_key eq ks x) xs) (insert_extends ks x) (all_extends xs (insert_key eq ks x))

  -- what stands in a list after others were inserted was there or is one of them
  pub all_from : (xs ks : List X) (x : X) → Contains (insert_all eq ks xs) x → Contains ks x ⊎ Contains xs x
  all_from [] ks x c = inl c
  all_from (y ∷ xs) ks x c = elim (all_from xs (insert_key eq ks y) x c) [
    | inl i ↦ elim (insert_from ks y x i) [ inl j ↦ inl j | inr e ↦ inr (rw e (front y xs)) ]
    | inr i ↦ inr (later x y xs i)
  ]

  -- each that was inserted stands there
  pub all_has : (xs ks : List X) (x : X) → Contains xs x → Contains (insert_all eq ks xs) x
  all_has [] ks x c = absurd (none x c)
  all_has (y ∷ xs) ks x c = elim (first_or y xs x c) [
    | inl e ↦ rw e (extends_contains (insert_key eq ks y) (insert_all eq (insert_key eq ks y) xs) (all_extends xs (insert_key eq ks y)) y (Contains-insert_key eq same ks y))
    | inr i ↦ all_has xs (insert_key eq ks y) x i
  ]

-- the keys are reached from the start, which is one, and hold what the steps on the first ones give
pub record Worked {X : Type 0} (steps : X → List X) (start : X) (keys : List X) (done : ℕ) : Type 0 where
  pub reached : (m : X) → Contains keys m → Reaches (λ g h. Contains (steps g) h) start m
  pub begins : Contains keys start
  pub closed : (j : ℕ) (g h : X) → j < done → slice_get keys j ≡ Some g → Contains (steps g) h → Contains keys h

module _ {X : Type 0} (eq : X → X → Bool) (same : (x y : X) → eq x y ≡ true → x ≡ y) (steps : X → List X) where
  -- where the steps on one element more are there, the first ones with it have what their steps give
  closed_more : (keys new : List X) (done : ℕ) (node : X) → Some node ≡ slice_get keys done → new ≡ insert_all eq keys (steps node) → done < length keys
      → ((j : ℕ) (g h : X) → j < done → slice_get keys j ≡ Some g → Contains (steps g) h → Contains keys h)
      → (j : ℕ) (g h : X) → j < done + 1 → slice_get new j ≡ Some g → Contains (steps g) h → Contains new h
  closed_more keys new done node at e within closed j g h l i c = go (dec_lt j done)
    where
      grows : Extends keys new
      grows = subst (Extends keys) (sym e) (all_extends eq same (steps node) keys)

      here : slice_get new done ≡ Some g → Contains new h
      here k =
          let q : Some g ≡ Some node = sym k ∙ (extends_get keys new grows done within ∙ sym at) in
          let f : g ≡ node = cc in
          subst (λ v. Contains v h) (sym e) (all_has eq same (steps node) keys h (subst (λ v. Contains (steps v) h) f c))

      go : Dec (j < done) → Contains new h
      go (yes d) = extends_contains keys new grows h (closed j g h d (sym (extends_get keys new grows j (omega arith)) ∙ i) c)
      go (no d) = let f : j ≡ done = omega arith in here (subst (λ v. slice_get new v ≡ Some g) f i)

module _ {X : Type 0} (eq : X → X → Bool) (same : (x y : X) → eq x y ≡ true → x ≡ y) (steps : X → List X) (start : X) where
  -- before any element was worked on, the start alone is there
  pub worked_first : (old new : List X) → length old ≡ 0 → new ≡ insert_key eq old start → Worked steps start new 0
  worked_first [] new z e = record {
    reached = λ m c. subst (Reaches (λ g h. Contains (steps g) h) start) (sym (only_one start m (subst (λ w. Contains w m) e c))) itself;
    begins = subst (λ w. Contains w start) (sym e) (front start []);
    closed = λ j g h l. absurd (omega arith);
  }
  worked_first (x ∷ xs) new z e = absurd (omega arith)

  -- one element more was worked on
  pub worked_more : (keys new : List X) (done : ℕ) (node : X) → Worked steps start keys done → Some node ≡ slice_get keys done → new ≡ insert_all eq keys (steps node) → done < length keys → Worked steps start new (done + 1)
  worked_more keys new done node w at e within = record {
    reached = λ m c. elim (all_from eq same (steps node) keys m (subst (λ v. Contains v m) e c)) [
      | inl i ↦ w.reached m i
      | inr i ↦ reaches_more start node m (w.reached node (at_place keys done node (sym at))) i
    ];
    begins = extends_contains keys new (subst (Extends keys) (sym e) (all_extends eq same (steps node) keys)) start w.begins;
    closed = closed_more eq same steps keys new done node at e within w.closed;
  }

  worked_in : (keys : List X) (done : ℕ) → Worked steps start keys done → length keys ≤ done → (g h : X) → Contains keys g → Reaches (λ x y. Contains (steps x) y) g h → Contains keys h
  worked_in keys done w l g h c itself = c
  worked_in keys done w l g h c (onward {y = i} s d) =
      worked_in keys done w l i h (w.closed c.0 g i (let k = c.1 in omega arith) (place_of keys c.0 g c.1 c.2) s) d

  -- where all keys were worked on they are exactly what is reached
  pub worked_all : (keys : List X) (done : ℕ) → Worked steps start keys done → length keys ≤ done → (m : X) → Contains keys m ↔ Reaches (λ g h. Contains (steps g) h) start m
  worked_all keys done w l m = (w.reached m, worked_in keys done w l start m w.begins)

-- and so by any relation that the steps are
pub worked_by : {X : Type 0} (eq : X → X → Bool) → ((x y : X) → eq x y ≡ true → x ≡ y) → (steps : X → List X) (S : X → X → Type 0) → ((x y : X) → Contains (steps x) y ↔ S x y) → (start : X) (keys : List X) (done : ℕ)
    → Worked steps start keys done → length keys ≤ done → (m : X) → Contains keys m ↔ Reaches S start m
worked_by eq same steps S are start keys done w l m =
    let h = worked_all eq same steps start keys done w l m in (
      λ c. reaches_weaker (λ x y. (are x y).0) start m (h.0 c),
      λ r. h.1 (reaches_weaker (λ x y. (are x y).1) start m r),
    )

-- the keys were there before or are reached from the start, which is one of them, and hold what the steps on the first ones give
pub record Widened {X : Type 0} (steps : X → List X) (old : List X) (start : X) (keys : List X) (done : ℕ) : Type 0 where
  pub reached : (m : X) → Contains keys m → Contains old m ⊎ Reaches (λ g h. Contains (steps g) h) start m
  pub extends : Extends old keys
  pub begins : Contains keys start
  pub closed : (j : ℕ) (g h : X) → j < done → slice_get keys j ≡ Some g → Contains (steps g) h → Contains keys h

module _ {X : Type 0} (eq : X → X → Bool) (same : (x y : X) → eq x y ≡ true → x ≡ y) (steps : X → List X) (start : X) where
  -- a set that has what the steps on its elements give, with the start
  pub widened_first : (old new : List X) → ((g h : X) → Contains old g → Contains (steps g) h → Contains old h) → new ≡ insert_key eq old start → Widened steps old start new (length old)
  widened_first old new closed e = record {
    reached = λ m c. elim (insert_from eq same old start m (subst (λ w. Contains w m) e c)) [
      | inl i ↦ inl i
      | inr f ↦ inr (subst (Reaches (λ g h. Contains (steps g) h) start) (sym f) itself)
    ];
    extends = grows;
    begins = subst (λ w. Contains w start) (sym e) (Contains-insert_key eq same old start);
    closed = λ j g h l i c. extends_contains old new grows h (closed g h (at_place old j g (sym (extends_get old new grows j l) ∙ i)) c);
  }
    where
      grows : Extends old new
      grows = subst (Extends old) (sym e) (insert_extends eq same old start)

  -- one element more was worked on
  pub widened_more : (old keys new : List X) (done : ℕ) (node : X) → Widened steps old start keys done → Some node ≡ slice_get keys done → new ≡ insert_all eq keys (steps node) → done < length keys
      → ((m : X) → Contains old node → Contains (steps node) m → Contains old m) → Widened steps old start new (done + 1)
  widened_more old keys new done node w at e within here = record {
    reached = λ m c. elim (all_from eq same (steps node) keys m (subst (λ v. Contains v m) e c)) [
      | inl i ↦ w.reached m i
      | inr i ↦ elim (w.reached node (at_place keys done node (sym at))) [ inl o ↦ inl (here m o i) | inr r ↦ inr (reaches_more start node m r i) ]
    ];
    extends = extends_join old keys new w.extends grows;
    begins = extends_contains keys new grows start w.begins;
    closed = closed_more eq same steps keys new done node at e within w.closed;
  }
    where
      grows : Extends keys new
      grows = subst (Extends keys) (sym e) (all_extends eq same (steps node) keys)

  widened_in : (old keys : List X) (done : ℕ) → Widened steps old start keys done → length keys ≤ done → (g h : X) → Contains keys g → Reaches (λ x y. Contains (steps x) y) g h → Contains keys h
  widened_in old keys done w l g h c itself = c
  widened_in old keys done w l g h c (onward {y = i} s d) =
      widened_in old keys done w l i h (w.closed c.0 g i (let k = c.1 in omega arith) (place_of keys c.0 g c.1 c.2) s) d

-- where all keys were worked on they are what was there and what is reached, by any relation that the steps are
pub widened_by : {X : Type 0} (eq : X → X → Bool) → ((x y : X) → eq x y ≡ true → x ≡ y) → (steps : X → List X) (S : X → X → Type 0) → ((x y : X) → Contains (steps x) y ↔ S x y) → (start : X) (old keys : List X) (done : ℕ)
    → Widened steps old start keys done → length keys ≤ done → (m : X) → Contains keys m ↔ (Contains old m ⊎ Reaches S start m)
widened_by eq same steps S are start old keys done w l m = (
  λ c. elim (w.reached m c) [ inl i ↦ inl i | inr r ↦ inr (reaches_weaker (λ x y. (are x y).0) start m r) ],
  λ d. elim d [
    | inl i ↦ extends_contains old keys w.extends m i
    | inr r ↦ widened_in eq same steps start old keys done w l start m w.begins (reaches_weaker (λ x y. (are x y).1) start m r)
  ],
)

-- then they have what the steps on any of them give
pub widened_closed : {X : Type 0} {S : X → X → Type 0} (start : X) (old new : List X) → ((g h : X) → Contains old g → S g h → Contains old h) → ((m : X) → Contains new m ↔ (Contains old m ⊎ Reaches S start m))
    → (g h : X) → Contains new g → S g h → Contains new h
widened_closed start old new closed are g h c s = (are h).1 (elim ((are g).0 c) [ inl i ↦ inl (closed g h i s) | inr r ↦ inr (reaches_more start g h r s) ])

-- a place that is not there is past the end
pub past_end : {X : Type 0} (xs : List X) (j : ℕ) → slice_get xs j ≡ None → length xs ≤ j
past_end [] j e = omega arith
past_end (x ∷ xs) zero e = cc
past_end (x ∷ xs) (suc j) e = let h = past_end xs j e in omega arith

-- and a place that is there is before it
pub before_end : {X : Type 0} (xs : List X) (j : ℕ) (x : X) → slice_get xs j ≡ Some x → j < length xs
before_end [] j x e = cc
before_end (y ∷ xs) zero x e = omega arith
before_end (y ∷ xs) (suc j) x e = let h = before_end xs j x e in omega arith

-- a list without length has no element
pub nothing : {X : Type 0} (xs : List X) → length xs ≡ 0 → (x : X) → Contains xs x → ⊥
nothing [] z x c = none x c
nothing (y ∷ xs) z x c = absurd (omega arith)

-- a property of the start that goes along the steps is one of all that is reached
pub reaches_least : {X : Type 0} {S : X → X → Type 0} (P : X → Type 0) → ((x y : X) → P x → S x y → P y) → (x y : X) → P x → Reaches S x y → P y
reaches_least P closed x y p itself = p
reaches_least P closed x y p (onward {y = w} s d) = reaches_least P closed w y (closed x w p s) d
