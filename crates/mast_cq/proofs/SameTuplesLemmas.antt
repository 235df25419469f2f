-- A query and its normal form have the same tuples.
use Rattle.std.proofs.Common.{◌≡◌, ℕ, zero, suc, ◌+◌, ◌≤◌, List, [], ◌∷◌, map, Bool, true, false, nat_eq, Some, None, Option, refl, arith}
use Rattle.std.specs.List.{AllByRecursion}
use Rattle.mast_cq.specs.declared.atom.Arg.{Arg}
use Rattle.mast_cq.specs.declared.atom.Arg.TheVariants.{Blank, Var, Constant}
use Rattle.mast_cq.specs.declared.atom.Atom.{Atom}
use Rattle.mast_cq.specs.declared.atom.Atom.TheVariants.{Class, Role, Attr}
use Rattle.mast_cq.specs.declared.query.Cq.{Cq}
use Rattle.mast_cq.specs.Queries.{has_var}
use Rattle.mast_cq.specs.NormalForms.{arg_uses, atom_uses, uses, places, blank_arg, blank, alone, first_var, in_order, without, settle, normal_form}
use Rattle.mast_cq.specs.Meanings.{Fact, InClass, InRole, InAttr}
use Rattle.mast_cq.specs.Meanings.{Fits as FitsBy, Match as MatchBy, Gives as GivesBy, MetBy, HasTuple as HasTupleBy}
use Rattle.mast_cq.proofs.ListLemmas.{each_map}
use Rattle.mast_cq.proofs.OrderLemmas.{order_each, order_out}
use Rattle.mast_cq.proofs.AloneLemmas.{alone_parts, first_true, or_false}

module _ {X : Type 0} (constant : ℕ → X) where
  abbrev Fits : (ℕ → X) → Arg → X → Type 0
  Fits s a t = FitsBy constant s a t

  abbrev Match : (ℕ → X) → Atom → Fact X → Type 0
  Match s g f = MatchBy constant s g f

  abbrev Gives : (ℕ → X) → List Arg → List X → Type 0
  Gives s answer tuple = GivesBy constant s answer tuple

  abbrev Met : (Fact X → Type 0) → (ℕ → X) → Atom → Type 0
  Met P s g = MetBy constant P s g

  -- the assignment with another term at one variable
  abbrev pub set_var : (ℕ → X) → ℕ → X → ℕ → X
  set_var s n w m = elim (nat_eq m n) [ true ↦ w | false ↦ s m ]

  fits_into_case : (s : ℕ → X) (m : ℕ) (t : X) (b : Bool) → t ≡ s m → Fits s (elim b [ true ↦ Blank | false ↦ Var m ]) t
  fits_into_case s m t true f = tt
  fits_into_case s m t false f = f

  fits_into : (s : ℕ → X) (n : ℕ) (a : Arg) (t : X) → Fits s a t → Fits s (blank_arg n a) t
  fits_into s n Blank t f = tt
  fits_into s n (Var m) t f = fits_into_case s m t (nat_eq m n) f
  fits_into s n (Constant c) t f = f

  match_into : (s : ℕ → X) (n : ℕ) (g : Atom) (f : Fact X) → Match s g f → Match s (blank n g) f
  match_into s n (Class a x) (InClass b t) m = (m.0, fits_into s n x t m.1)
  match_into s n (Class a x) (InRole b t u) m = absurd m
  match_into s n (Class a x) (InAttr b t u) m = absurd m
  match_into s n (Role a x y) (InRole b t u) m = (m.0, fits_into s n x t m.1, fits_into s n y u m.2)
  match_into s n (Role a x y) (InClass b t) m = absurd m
  match_into s n (Role a x y) (InAttr b t u) m = absurd m
  match_into s n (Attr a x y) (InAttr b t u) m = (m.0, fits_into s n x t m.1, fits_into s n y u m.2)
  match_into s n (Attr a x y) (InClass b t) m = absurd m
  match_into s n (Attr a x y) (InRole b t u) m = absurd m

  fits_out_case : (s : ℕ → X) (m : ℕ) (t : X) (b : Bool) → Fits s (elim b [ true ↦ Blank | false ↦ Var m ]) t → t ≡ elim b [ true ↦ t | false ↦ s m ]
  fits_out_case s m t true f = refl
  fits_out_case s m t false f = f

  fits_out : (s : ℕ → X) (n : ℕ) (a : Arg) (t : X) → Fits s (blank_arg n a) t → Fits (set_var s n t) a t
  fits_out s n Blank t f = tt
  fits_out s n (Var m) t f = fits_out_case s m t (nat_eq m n) f
  fits_out s n (Constant c) t f = f

  fits_away_case : (s : ℕ → X) (m : ℕ) (t w : X) (b : Bool) → ◌≡◌ {A = ℕ} (elim b [ true ↦ 1 | false ↦ 0 ]) 0 → Fits s (elim b [ true ↦ Blank | false ↦ Var m ]) t → t ≡ elim b [ true ↦ w | false ↦ s m ]
  fits_away_case s m t w true e f = absurd (omega arith)
  fits_away_case s m t w false e f = f

  fits_away : (s : ℕ → X) (n : ℕ) (w : X) (a : Arg) (t : X) → arg_uses n a ≡ 0 → Fits s (blank_arg n a) t → Fits (set_var s n w) a t
  fits_away s n w Blank t e f = tt
  fits_away s n w (Var m) t e f = fits_away_case s m t w (nat_eq m n) e f
  fits_away s n w (Constant c) t e f = f

  match_away : (s : ℕ → X) (n : ℕ) (w : X) (g : Atom) (f : Fact X) → atom_uses n g ≡ 0 → Match s (blank n g) f → Match (set_var s n w) g f
  match_away s n w (Class a x) (InClass b t) e m = (m.0, fits_away s n w x t e m.1)
  match_away s n w (Class a x) (InRole b t u) e m = absurd m
  match_away s n w (Class a x) (InAttr b t u) e m = absurd m
  match_away s n w (Role a x y) (InRole b t u) e m = (m.0, fits_away s n w x t (omega arith) m.1, fits_away s n w y u (omega arith) m.2)
  match_away s n w (Role a x y) (InClass b t) e m = absurd m
  match_away s n w (Role a x y) (InAttr b t u) e m = absurd m
  match_away s n w (Attr a x y) (InAttr b t u) e m = (m.0, fits_away s n w x t (omega arith) m.1, fits_away s n w y u (omega arith) m.2)
  match_away s n w (Attr a x y) (InClass b t) e m = absurd m
  match_away s n w (Attr a x y) (InRole b t u) e m = absurd m

  -- the term that stands in the place of the blank
  pub record Filled (s : ℕ → X) (n : ℕ) (g : Atom) (f : Fact X) : Type 0 where
    pub w : X
    pub matches : Match (set_var s n w) g f

  pair_filled : (s : ℕ → X) (n : ℕ) (x y : Arg) (t u : X) (k : ℕ) → arg_uses n x ≡ k → k + arg_uses n y ≤ 1 → Fits s (blank_arg n x) t → Fits s (blank_arg n y) u
      → (w : X) × Fits (set_var s n w) x t × Fits (set_var s n w) y u
  pair_filled s n x y t u zero e l f g = (u, fits_away s n u x t e f, fits_out s n y u g)
  pair_filled s n x y t u (suc k) e l f g = (t, fits_out s n x t f, fits_away s n t y u (omega arith) g)

  match_out : (s : ℕ → X) (n : ℕ) (g : Atom) (f : Fact X) → atom_uses n g ≤ 1 → Match s (blank n g) f → Filled s n g f
  match_out s n (Class a x) (InClass b t) e m = record { w = t; matches = (m.0, fits_out s n x t m.1) }
  match_out s n (Class a x) (InRole b t u) e m = absurd m
  match_out s n (Class a x) (InAttr b t u) e m = absurd m
  match_out s n (Role a x y) (InRole b t u) e m = let v = pair_filled s n x y t u (arg_uses n x) refl e m.1 m.2 in record { w = v.0; matches = (m.0, v.1, v.2) }
  match_out s n (Role a x y) (InClass b t) e m = absurd m
  match_out s n (Role a x y) (InAttr b t u) e m = absurd m
  match_out s n (Attr a x y) (InAttr b t u) e m = let v = pair_filled s n x y t u (arg_uses n x) refl e m.1 m.2 in record { w = v.0; matches = (m.0, v.1, v.2) }
  match_out s n (Attr a x y) (InClass b t) e m = absurd m
  match_out s n (Attr a x y) (InRole b t u) e m = absurd m

  each_away : (P : Fact X → Type 0) (s : ℕ → X) (n : ℕ) (w : X) (gs : List Atom) → uses n gs ≡ 0 → AllByRecursion (Met P s) (map (blank n) gs) → AllByRecursion (Met P (set_var s n w)) gs
  each_away P s n w [] e h = tt
  each_away P s n w (g ∷ gs) e h =
      (record { fact = h.0.fact; matches = match_away s n w g h.0.fact (omega arith) h.0.matches; holds = h.0.holds }, each_away P s n w gs (omega arith) h.1)

  pub record FilledAll (P : Fact X → Type 0) (s : ℕ → X) (n : ℕ) (gs : List Atom) : Type 0 where
    pub w : X
    pub each : AllByRecursion (Met P (set_var s n w)) gs

  filled_case : (P : Fact X → Type 0) (s : ℕ → X) (n : ℕ) (g : Atom) (gs : List Atom) (k : ℕ) → atom_uses n g ≡ k → k + uses n gs ≤ 1
      → Met P s (blank n g) → AllByRecursion (Met P s) (map (blank n) gs) → (uses n gs ≤ 1 → FilledAll P s n gs) → FilledAll P s n (g ∷ gs)
  filled_case P s n g gs zero e l m h ih =
      let v = ih (omega arith) in record { w = v.w; each = (record { fact = m.fact; matches = match_away s n v.w g m.fact e m.matches; holds = m.holds }, v.each) }
  filled_case P s n g gs (suc k) e l m h ih =
      let v = match_out s n g m.fact (omega arith) m.matches in
      record { w = v.w; each = (record { fact = m.fact; matches = v.matches; holds = m.holds }, each_away P s n v.w gs (omega arith) h) }

  filled_all : (P : Fact X → Type 0) (s : ℕ → X) (n : ℕ) (gs : List Atom) → uses n gs ≤ 1 → AllByRecursion (Met P s) (map (blank n) gs) → FilledAll P s n gs
  filled_all P s n [] l h = record { w = s n; each = tt }
  filled_all P s n (g ∷ gs) l h = filled_case P s n g gs (atom_uses n g) refl l h.0 h.1 (λ k. filled_all P s n gs k h.1)

  answers_case : (s : ℕ → X) (m n : ℕ) (w t : X) (b : Bool) → b ≡ false → t ≡ s m → t ≡ elim b [ true ↦ w | false ↦ s m ]
  answers_case s m n w t true e f = cc
  answers_case s m n w t false e f = f

  answers_away : (s : ℕ → X) (n : ℕ) (w : X) (answer : List Arg) (tuple : List X) → has_var answer n ≡ false → Gives s answer tuple → Gives (set_var s n w) answer tuple
  answers_away s n w [] [] e h = h
  answers_away s n w [] (t ∷ ts) e h = h
  answers_away s n w (a ∷ answer) [] e h = absurd h
  answers_away s n w (Blank ∷ answer) (t ∷ ts) e h = (tt, answers_away s n w answer ts e h.1)
  answers_away s n w (Constant c ∷ answer) (t ∷ ts) e h = (h.0, answers_away s n w answer ts e h.1)
  answers_away s n w (Var m ∷ answer) (t ∷ ts) e h =
      let k = or_false (nat_eq m n) (has_var answer n) e in
      (answers_case s m n w t (nat_eq m n) k.0 h.0, answers_away s n w answer ts k.1 h.1)

  module _ (P : Fact X → Type 0) (answer : List Arg) (tuple : List X) where
    -- the atoms have the tuple, for this answer list
    abbrev Has : List Atom → Type 0
    Has gs = HasTupleBy constant P (record { answer = answer; atoms = gs }) tuple

    sorted_into : (gs : List Atom) → Has gs → Has (in_order gs)
    sorted_into gs h = record { under = h.under; each = order_each (Met P h.under) gs h.each; answers = h.answers }

    sorted_out : (gs : List Atom) → Has (in_order gs) → Has gs
    sorted_out gs h = record { under = h.under; each = order_out (Met P h.under) gs h.each; answers = h.answers }

    without_into : (n : ℕ) (gs : List Atom) → Has gs → Has (without n gs)
    without_into n gs h = record {
      under = h.under;
      each = order_each (Met P h.under) (map (blank n) gs) (each_map (Met P h.under) (Met P h.under) (blank n)
          (λ g m. record { fact = m.fact; matches = match_into h.under n g m.fact m.matches; holds = m.holds }) gs h.each);
      answers = h.answers;
    }

    without_out : (n : ℕ) (gs : List Atom) → alone answer gs n ≡ true → Has (without n gs) → Has gs
    without_out n gs e h =
        let k = alone_parts answer gs n e in
        let o = k.1 in
        let w = filled_all P h.under n gs (omega arith) (order_out (Met P h.under) (map (blank n) gs) h.each) in
        record { under = set_var h.under n w.w; each = w.each; answers = answers_away h.under n w.w answer tuple k.0 h.answers }

    settle_into : (k : ℕ) (gs : List Atom) → Has gs → Has (settle answer k gs)
    settle_into zero gs h = h
    settle_into (suc k) gs h = go (first_var (alone answer gs) gs) (λ n. settle_into k (without n gs) (without_into n gs h))
      where
        go : (o : Option ℕ) → ((n : ℕ) → Has (settle answer k (without n gs))) → Has (elim o [ None ↦ gs | Some n ↦ settle answer k (without n gs) ])
        go None f = h
        go (Some n) f = f n

    settle_out : (k : ℕ) (gs : List Atom) → Has (settle answer k gs) → Has gs
    settle_out zero gs h = h
    settle_out (suc k) gs h = go (first_var (alone answer gs) gs) refl (λ n. settle_out k (without n gs)) h
      where
        go : (o : Option ℕ) → first_var (alone answer gs) gs ≡ o → ((n : ℕ) → Has (settle answer k (without n gs)) → Has (without n gs))
            → Has (elim o [ None ↦ gs | Some n ↦ settle answer k (without n gs) ]) → Has gs
        go None e f h = h
        go (Some n) e f h = without_out n gs (first_true (alone answer gs) gs n e) (f n h)

  -- what the query has, its normal form has
  pub normal_form_into : (P : Fact X → Type 0) (q : Cq) (tuple : List X) → HasTupleBy constant P q tuple → HasTupleBy constant P (normal_form q) tuple
  normal_form_into P q tuple h = settle_into P q.answer tuple (places q.atoms) (in_order q.atoms) (sorted_into P q.answer tuple q.atoms h)

  -- and what the normal form has, the query has
  pub normal_form_out : (P : Fact X → Type 0) (q : Cq) (tuple : List X) → HasTupleBy constant P (normal_form q) tuple → HasTupleBy constant P q tuple
  normal_form_out P q tuple h = sorted_out P q.answer tuple q.atoms (settle_out P q.answer tuple (places q.atoms) (in_order q.atoms) h)
