-- Two sweeps over atoms in order find those that lead the others and come first.
use Rattle.std.proofs.Common.{◌≡◌, ◌≢◌, ◌⊎◌, inl, inr, ◌↔◌, List, [], ◌∷◌, ◌++◌, reverse, Contains, refl, sym, ap, subst, ◌∙◌}
use Rattle.std.specs.declared.cmp.Ordering.{Ordering}
use Rattle.std.specs.declared.cmp.Ordering.TheVariants.{Less, Equal, Greater}
use Rattle.std.specs.Ordering.{ordering_reverse}
use Rattle.std.proofs.lemmas.Cmp.{nat_list_cmp_total}
use Rattle.std.proofs.lemmas.List.{reverse-append}
use Rattle.std.proofs.lemmas.List.Elements.{Contains-append_left, Contains-append_right, Contains-append_cases}
use Rattle.mast_cq.specs.declared.atom.Atom.{Atom}
use Rattle.mast_cq.specs.NormalForms.{Ordered, IsBefore}
use Rattle.mast_cq.specs.Queries.{atom_key, atom_order}
use Rattle.mast_cq.proofs.OrderLemmas.{order_equal}
use Rattle.mast_tbox.specs.declared.axiom.Inclusion.{Inclusion}
use Rattle.mast_tbox.specs.Closure.{Down}
use Rattle.mast_tbox.specs.Laws.{Decided}
use Rattle.mast_tbox.specs.Lists.{itself}
use Rattle.mast_tbox.proofs.DecideLemmas.{down_decided}
use Rattle.mast_tbox.proofs.MemberLemmas.{front, later, none, first_or, only_one}
use Rattle.mast_tbox.proofs.WorkLemmas.{reaches_join}
use Rattle.mast_rewrite.specs.inside.Leaders.{LedBy, Sweeps, LeaderOf}

-- g comes before h
abbrev pub Before : Atom → Atom → Type 0
Before g h = atom_order g h ≡ Less

before_not : (g h : Atom) → Before g h → Before h g → ⊥
before_not g h a b = go (atom_order g h) (atom_order h g) (nat_list_cmp_total.antisymm (atom_key g) (atom_key h)) a b
  where
    go : (o p : Ordering) → o ≡ ordering_reverse p → o ≡ Less → p ≡ Less → ⊥
    go o p e a b = let k : Less ≡ ordering_reverse Less = sym a ∙ (e ∙ ap ordering_reverse b) in cc

-- of two atoms one comes before the other, or they are one
before_or : (g h : Atom) → Before g h ⊎ ((g ≡ h) ⊎ Before h g)
before_or g h = go (atom_order g h) refl
  where
    go : (o : Ordering) → atom_order g h ≡ o → Before g h ⊎ ((g ≡ h) ⊎ Before h g)
    go Less e = inl e
    go Equal e = inr (inl (order_equal g h e))
    go Greater e = inr (inr (nat_list_cmp_total.antisymm (atom_key h) (atom_key g) ∙ ap ordering_reverse e))

-- each element is related to all after it
abbrev pub Pairs : (Atom → Atom → Type 0) → List Atom → Type 0
Pairs S [] = Unit {0}
Pairs S (x ∷ xs) = ((y : Atom) → Contains xs y → S x y) × Pairs S xs

module _ (tbox : List Inclusion) (S : Atom → Atom → Type 0) (apart : (g h : Atom) → S g h → S h g → ⊥) where
  -- what a sweep keeps stands in the list, and neither what was done nor an element before it has it in its Down
  pub sweep_from : (done xs ys : List Atom) → Pairs S xs → Sweeps tbox done xs ys → (y : Atom) → Contains ys y
      → Contains xs y × ((LedBy tbox done y → ⊥) × ((z : Atom) → Contains xs z → S z y → Down tbox z y → ⊥))
  sweep_from done [] ys p w y c = absurd (none y (subst (λ v. Contains v y) w c))
  sweep_from done (x ∷ xs) ys p (inl w) y c =
      let k = sweep_from (done ++ x ∷ []) xs ys p.1 w.1 y c in (
        later y x xs k.0,
        (
          λ l. k.1.0 (l.0, Contains-append_left done (x ∷ []) l.0 l.1, l.2),
          λ z i s d. elim (first_or x xs z i) [
            | inl e ↦ k.1.0 (x, Contains-append_right done (x ∷ []) x (front x []), subst (λ v. Down tbox v y) e d)
            | inr j ↦ k.1.1 z j s d
          ],
        ),
      )
  sweep_from done (x ∷ xs) ys p (inr w) y c = elim (first_or x w.1 y (subst (λ v. Contains v y) w.2 c)) [
    | inl e ↦ (
      rw e (front x xs),
      (
        λ l. w.0 (subst (LedBy tbox done) e l),
        λ z i s d. elim (first_or x xs z i) [
          | inl f ↦ let q : S x x = subst (λ v. S v x) f (subst (S z) e s) in apart x x q q
          | inr j ↦ apart x z (p.0 z j) (subst (S z) e s)
        ],
      ),
    )
    | inr i ↦ let k = sweep_from (done ++ x ∷ []) xs w.1 p.1 w.3 y i in (
      later y x xs k.0,
      (
        λ l. k.1.0 (l.0, Contains-append_left done (x ∷ []) l.0 l.1, l.2),
        λ z j s d. elim (first_or x xs z j) [
          | inl e ↦ k.1.0 (x, Contains-append_right done (x ∷ []) x (front x []), subst (λ v. Down tbox v y) e d)
          | inr h ↦ k.1.1 z h s d
        ],
      ),
    )
  ]

  -- and it keeps each such element
  pub sweep_has : (done xs ys : List Atom) → Pairs S xs → Sweeps tbox done xs ys → (y : Atom) → Contains xs y → (LedBy tbox done y → ⊥)
      → ((z : Atom) → Contains xs z → S z y → Down tbox z y → ⊥) → Contains ys y
  sweep_has done [] ys p w y c n k = absurd (none y c)
  sweep_has done (x ∷ xs) ys p w y c n k = elim (first_or x xs y c) [
    | inl e ↦ elim w [
      | inl v ↦ absurd (n (subst (LedBy tbox done) (sym e) v.0))
      | inr v ↦ subst (λ u. Contains u y) (sym v.2) (rw e (front x v.1))
    ]
    | inr i ↦ elim w [
      | inl v ↦ sweep_has (done ++ x ∷ []) xs ys p.1 v.1 y i (still i) (λ z j. k z (later z x xs j))
      | inr v ↦ subst (λ u. Contains u y) (sym v.2) (later y x v.1 (sweep_has (done ++ x ∷ []) xs v.1 p.1 v.3 y i (still i) (λ z j. k z (later z x xs j))))
    ]
  ]
    where
      still : Contains xs y → LedBy tbox (done ++ x ∷ []) y → ⊥
      still i l = elim (Contains-append_cases done (x ∷ []) l.0 l.1) [
        | inl j ↦ n (l.0, j, l.2)
        | inr j ↦ k x (front x xs) (p.0 y i) (subst (λ v. Down tbox v y) (only_one x l.0 j) l.2)
      ]

  -- it keeps the order
  pub sweep_pairs : (done xs ys : List Atom) → Pairs S xs → Sweeps tbox done xs ys → Pairs S ys
  sweep_pairs done [] ys p w = subst (Pairs S) (sym w) tt
  sweep_pairs done (x ∷ xs) ys p (inl w) = sweep_pairs (done ++ x ∷ []) xs ys p.1 w.1
  sweep_pairs done (x ∷ xs) ys p (inr w) = subst (Pairs S) (sym w.2) (
    λ y c. p.0 y (sweep_from (done ++ x ∷ []) xs w.1 p.1 w.3 y c).0,
    sweep_pairs (done ++ x ∷ []) xs w.1 p.1 w.3,
  )

before_trans : (g h i : Atom) → Before g h → Before h i → Before g i
before_trans g h i a b = nat_list_cmp_total.trans (atom_key g) (atom_key h) (atom_key i) a b

-- an atom before the first of an ordered list is before each of it
pub before_all : (x : Atom) (xs : List Atom) → IsBefore x xs → Ordered xs → (y : Atom) → Contains xs y → Before x y
before_all x [] b o y c = absurd (none y c)
before_all x (z ∷ xs) b o y c = elim (first_or z xs y c) [
  | inl e ↦ subst (Before x) (sym e) b
  | inr i ↦ before_trans x z y b (before_all z xs o.0 o.1 y i)
]

-- in an ordered list each element comes before all after it
pub ordered_pairs : (xs : List Atom) → Ordered xs → Pairs Before xs
ordered_pairs [] o = tt
ordered_pairs (x ∷ xs) o = (before_all x xs o.0 o.1, ordered_pairs xs o.1)

abbrev pub After : Atom → Atom → Type 0
After g h = Before h g

pairs_push : (S : Atom → Atom → Type 0) (xs : List Atom) (x : Atom) → Pairs S xs → ((y : Atom) → Contains xs y → S y x) → Pairs S (xs ++ x ∷ [])
pairs_push S [] x p k = (λ y c. absurd (none y c), tt)
pairs_push S (z ∷ xs) x p k = (
  λ y c. elim (Contains-append_cases xs (x ∷ []) y c) [ inl i ↦ p.0 y i | inr i ↦ subst (S z) (sym (only_one x y i)) (k z (front z xs)) ],
  pairs_push S xs x p.1 (λ y c. k y (later y z xs c)),
)

reversed : (x : Atom) (ys : List Atom) → reverse (x ∷ ys) ≡ reverse ys ++ x ∷ []
reversed x ys = reverse-append (x ∷ []) ys

-- a list has the same elements from the back
pub reversed_same : (ys : List Atom) (y : Atom) → Contains (reverse ys) y ↔ Contains ys y
reversed_same [] y = (λ c. c, λ c. c)
reversed_same (x ∷ ys) y = (
  λ c. elim (Contains-append_cases (reverse ys) (x ∷ []) y (subst (λ v. Contains v y) (reversed x ys) c)) [
    | inl i ↦ later y x ys ((reversed_same ys y).0 i)
    | inr i ↦ rw (only_one x y i) (front x ys)
  ],
  λ c. subst (λ v. Contains v y) (sym (reversed x ys)) (elim (first_or x ys y c) [
    | inl e ↦ Contains-append_right (reverse ys) (x ∷ []) y (rw e (front x []))
    | inr i ↦ Contains-append_left (reverse ys) (x ∷ []) y ((reversed_same ys y).1 i)
  ]),
)

-- where each comes before all behind it, from the back each comes after them
pub reversed_pairs : (ys : List Atom) → Pairs Before ys → Pairs After (reverse ys)
reversed_pairs [] p = tt
reversed_pairs (x ∷ ys) p = subst (Pairs After) (sym (reversed x ys)) (pairs_push After (reverse ys) x (reversed_pairs ys p.1) (λ y c. p.0 y ((reversed_same ys y).0 c)))

-- the first atom of a list that has u in its Down
record FirstAbove (tbox : List Inclusion) (u : Atom) (gs : List Atom) : Type 0 where
  z : Atom
  among : Contains gs z
  leads : Down tbox z u
  none_before : (w : Atom) → Contains gs w → Before w z → Down tbox w u → ⊥

first_case : (tbox : List Inclusion) (u x : Atom) (gs : List Atom) → Pairs Before (x ∷ gs) → Contains (x ∷ gs) u → (Contains gs u → FirstAbove tbox u gs) → Decided (Down tbox x u) → FirstAbove tbox u (x ∷ gs)
first_case tbox u x gs p c ih (inl d) = record {
  z = x;
  among = front x gs;
  leads = d;
  none_before = λ w i b e. elim (first_or x gs w i) [
    | inl f ↦ let q : Before x x = subst (λ v. Before v x) f b in before_not x x q q
    | inr j ↦ before_not x w (p.0 w j) b
  ];
}
first_case tbox u x gs p c ih (inr n) = elim (first_or x gs u c) [
  | inl f ↦ absurd (n (subst (λ v. Down tbox v u) f itself))
  | inr j ↦ let k = ih j in record {
    z = k.z;
    among = later k.z x gs k.among;
    leads = k.leads;
    none_before = λ w i b e. elim (first_or x gs w i) [ inl f ↦ n (subst (λ v. Down tbox v u) f e) | inr h ↦ k.none_before w h b e ];
  }
]

first_above : (tbox : List Inclusion) (u : Atom) (gs : List Atom) → Pairs Before gs → Contains gs u → FirstAbove tbox u gs
first_above tbox u [] p c = absurd (none u c)
first_above tbox u (x ∷ gs) p c = first_case tbox u x gs p c (first_above tbox u gs p.1) (down_decided tbox x u)

module _ (tbox : List Inclusion) (xs ys back zs : List Atom) (order : Ordered xs) (first : Sweeps tbox [] xs ys)
    (same : (y : Atom) → Contains back y ↔ Contains ys y) (turned : Pairs After back) (second : Sweeps tbox [] back zs) where
  nothing : (y : Atom) → LedBy tbox [] y → ⊥
  nothing y l = none l.0 l.1

  after_not : (g h : Atom) → After g h → After h g → ⊥
  after_not g h a b = before_not h g a b

  -- what the second sweep keeps leads the others and comes first
  pub leader_from : (y : Atom) → Contains zs y → LeaderOf tbox (Contains xs) y
  leader_from y c = record { among = low.0; leads = λ h i d. lead h i d (first_above tbox h xs (ordered_pairs xs order) i) }
    where
      high : Contains back y × ((LedBy tbox [] y → ⊥) × ((z : Atom) → Contains back z → After z y → Down tbox z y → ⊥))
      high = sweep_from tbox After after_not [] back zs turned second y c

      low : Contains xs y × ((LedBy tbox [] y → ⊥) × ((z : Atom) → Contains xs z → Before z y → Down tbox z y → ⊥))
      low = sweep_from tbox Before before_not [] xs ys (ordered_pairs xs order) first y ((same y).0 high.0)

      lead : (h : Atom) → Contains xs h → Down tbox h y → FirstAbove tbox h xs → Down tbox y h × (atom_order h y ≢ Less)
      lead h i d k = by (before_or k.z y)
        where
          kept : Contains ys k.z
          kept = sweep_has tbox Before before_not [] xs ys (ordered_pairs xs order) first k.z k.among (nothing k.z) (λ w j b e. k.none_before w j b (reaches_join w k.z h e k.leads))

          by : Before k.z y ⊎ ((k.z ≡ y) ⊎ Before y k.z) → Down tbox y h × (atom_order h y ≢ Less)
          by (inl b) = absurd (low.1.1 k.z k.among b (reaches_join k.z h y k.leads d))
          by (inr (inl e)) = (subst (λ v. Down tbox v h) e k.leads, λ b. k.none_before h i (subst (Before h) (sym e) b) itself)
          by (inr (inr b)) = absurd (high.1.1 k.z ((same k.z).1 kept) b (reaches_join k.z h y k.leads d))

  -- and each such atom is kept
  pub leader_has : (y : Atom) → LeaderOf tbox (Contains xs) y → Contains zs y
  leader_has y l = sweep_has tbox After after_not [] back zs turned second y ((same y).1 low) (nothing y) above
    where
      low : Contains ys y
      low = sweep_has tbox Before before_not [] xs ys (ordered_pairs xs order) first y l.among (nothing y) (λ z i b d. (l.leads z i d).1 b)

      above : (z : Atom) → Contains back z → After z y → Down tbox z y → ⊥
      above z i a d =
          let f = sweep_from tbox Before before_not [] xs ys (ordered_pairs xs order) first z ((same z).0 i) in
          f.1.1 y l.among a (l.leads z f.0 d).0

-- two sweeps over an ordered list, the second from the back, keep exactly the leaders
pub both_sweeps : (tbox : List Inclusion) (xs ys back zs : List Atom) → Ordered xs → Sweeps tbox [] xs ys → back ≡ reverse ys → Sweeps tbox [] back zs
    → (y : Atom) → Contains zs y ↔ LeaderOf tbox (Contains xs) y
both_sweeps tbox xs ys back zs order first e second y = (
  leader_from tbox xs ys back zs order first same turned second y,
  leader_has tbox xs ys back zs order first same turned second y,
)
  where
    same : (z : Atom) → Contains back z ↔ Contains ys z
    same z = subst (λ v. Contains v z ↔ Contains ys z) (sym e) (reversed_same ys z)

    turned : Pairs After back
    turned = subst (Pairs After) (sym e) (reversed_pairs ys (sweep_pairs tbox Before before_not [] xs ys (ordered_pairs xs order) first))
