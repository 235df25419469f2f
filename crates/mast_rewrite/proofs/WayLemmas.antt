-- The steps by which the meetings that count are gathered, one replacement after another.
use Rattle.std.proofs.Common.{◌≡◌, ℕ, zero, suc, ◌+◌, ◌<◌, ◌≤◌, ◌⊎◌, inl, inr, ◌↔◌, Bool, true, List, [], ◌∷◌, ◌++◌, take, length, slice_index_or, Contains, sym, refl, ap, ap₂, subst, ◌∙◌, arith}
use Rattle.std.specs.List.Sorted.{IsPermutation}
use Rattle.std.proofs.lemmas.List.Sorted.{Contains-permutation, IsPermutation-sym}
use Rattle.std.proofs.lemmas.List.Elements.{Contains-append_left, Contains-append_right, Contains-append_cases}
use Rattle.indexmap.specs.IndexSet.{insert_key}
use Rattle.mast_cq.specs.declared.atom.Atom.{Atom}
use Rattle.mast_cq.specs.declared.unifier.Bindings.{Bindings}
use Rattle.mast_cq.specs.declared.unifier.Met.{Met}
use Rattle.mast_tbox.specs.declared.axiom.Inclusion.{Inclusion}
use Rattle.mast_tbox.specs.Closure.{Down}
use Rattle.mast_tbox.proofs.MemberLemmas.{front, none, only_one}
use Rattle.mast_tbox.proofs.WorkLemmas.{all_from, all_has, all_extends, extends_contains, reaches_join}
use Rattle.mast_rewrite.specs.inside.Leaders.{IsWidened, LedBy, LeaderOf, BindAlike, HasAtom, LeadsWay, AreLeaders, AreWays, IsWayAdded, IsAtomAdded, WithWay}
use Rattle.mast_rewrite.proofs.GrowLemmas.{take_or, take_before, take_last}

-- all of a list are its first ones, as many as it has
pub take_full : {X : Type 0} (xs : List X) (n : ℕ) → length xs ≤ n → take n xs ≡ xs
take_full [] zero l = refl
take_full [] (suc n) l = refl
take_full (x ∷ xs) zero l = absurd (omega arith)
take_full (x ∷ xs) (suc n) l = ap (λ w. x ∷ w) (take_full xs n (omega arith))

-- leaders of one property are those of another that says the same
pub leader_as : (tbox : List Inclusion) (P Q : Atom → Type 0) → ((a : Atom) → P a ↔ Q a) → (g : Atom) → LeaderOf tbox P g → LeaderOf tbox Q g
leader_as tbox P Q e g l = record { among = (e g).0 l.among; leads = λ h q d. l.leads h ((e h).1 q) d }

back : {A B : Type 0} → A ↔ B → B ↔ A
back e = (e.1, e.0)

module _ (eq : Atom → Atom → Bool) (same : (x y : Atom) → eq x y ≡ true → x ≡ y) where
  -- what an insert leaves was there, or is what was inserted
  pub insert_iff : (ks : List Atom) (k x : Atom) → Contains (insert_key eq ks k) x ↔ (Contains ks x ⊎ (x ≡ k))
  insert_iff ks k x = (
    λ c. elim (all_from eq same (k ∷ []) ks x c) [ inl i ↦ inl i | inr i ↦ inr (only_one k x i) ],
    λ s. elim s [
      | inl i ↦ extends_contains ks (insert_key eq ks k) (all_extends eq same (k ∷ []) ks) x i
      | inr e ↦ all_has eq same (k ∷ []) ks x (rw e (front k []))
    ],
  )

module _ (tbox : List Inclusion) (atoms : List Atom) where
  -- nothing is led before the first
  pub led_begin : (keys : List Atom) → ((h : Atom) → Contains keys h → ⊥) → (h : Atom) → Contains keys h ↔ LedBy tbox (take 0 atoms) h
  led_begin keys n h = (λ c. absurd (n h c), λ l. absurd (none l.0 l.1))

  -- an atom that is led leads nothing new
  pub led_same : (keys : List Atom) (i : ℕ) (d : Atom) → i < length atoms → Contains keys (slice_index_or atoms i d) → ((h : Atom) → Contains keys h ↔ LedBy tbox (take i atoms) h)
      → (h : Atom) → Contains keys h ↔ LedBy tbox (take (i + 1) atoms) h
  led_same keys i d l c k h = (
    λ j. let w = (k h).0 j in (w.0, take_before atoms i d w.0 l w.1, w.2),
    λ w. elim (take_or atoms i d w.0 l w.1) [
      | inl j ↦ (k h).1 (w.0, j, w.2)
      | inr e ↦ let v = (k (slice_index_or atoms i d)).0 c in (k h).1 (v.0, v.1, reaches_join v.0 (slice_index_or atoms i d) h v.2 (subst (λ u. Down tbox u h) e w.2))
    ],
  )

  -- one that is not leads what is below it
  pub led_more : (keys new : List Atom) (i : ℕ) (d : Atom) → i < length atoms → IsWidened tbox (slice_index_or atoms i d) keys new → ((h : Atom) → Contains keys h ↔ LedBy tbox (take i atoms) h)
      → (h : Atom) → Contains new h ↔ LedBy tbox (take (i + 1) atoms) h
  led_more keys new i d l w k h = (
    λ c. elim ((w h).0 c) [
      | inl j ↦ let v = (k h).0 j in (v.0, take_before atoms i d v.0 l v.1, v.2)
      | inr e ↦ (slice_index_or atoms i d, take_last atoms i d l, e)
    ],
    λ v. (w h).1 (elim (take_or atoms i d v.0 l v.1) [
      | inl j ↦ inl ((k h).1 (v.0, j, v.2))
      | inr e ↦ inr (subst (λ u. Down tbox u h) e v.2)
    ]),
  )

module _ (g h : Atom) (all : List Met) where
  -- bindings that make the same of two atoms
  pub alike_itself : (b : Bindings) → BindAlike g h b b
  alike_itself b = (refl, refl)

  alike_join : (b c e : Bindings) → BindAlike g h b c → BindAlike g h c e → BindAlike g h b e
  alike_join b c e x y = (x.0 ∙ y.0, x.1 ∙ y.1)

  alike_back : (b c : Bindings) → BindAlike g h b c → BindAlike g h c b
  alike_back b c x = (sym x.0, sym x.1)

  -- the atoms of a replacement are those of another that makes the same
  pub atoms_alike : (b c : Bindings) → BindAlike g h b c → (a : Atom) → HasAtom g h all b a ↔ HasAtom g h all c a
  atoms_alike b c x a = (
    λ w. (w.0, w.1, alike_join w.0.replacement b c w.2 x, w.3),
    λ w. (w.0, w.1, alike_join w.0.replacement c b w.2 (alike_back b c x), w.3),
  )

  -- no way before the first meeting
  pub ways_begin : (ways : List Bindings) → ((b : Bindings) → Contains ways b → ⊥) → AreWays g h (take 0 all) ways
  ways_begin ways n = record { from = λ b c. absurd (n b c); all_have = λ m c. absurd (none m c) }

  -- a meeting whose way is there
  pub ways_same : (ways : List Bindings) (i : ℕ) (d : Met) → i < length all → (other : Bindings) × Contains ways other × BindAlike g h other (slice_index_or all i d).replacement
      → AreWays g h (take i all) ways → AreWays g h (take (i + 1) all) ways
  ways_same ways i d l s w = record {
    from = λ b c. let v = w.from b c in (v.0, take_before all i d v.0 l v.1, v.2);
    all_have = λ m c. elim (take_or all i d m l c) [ inl j ↦ w.all_have m j | inr e ↦ (s.0, s.1, subst (λ u. BindAlike g h s.0 u.replacement) (sym e) s.2) ];
  }

  -- a meeting with a way of its own
  pub ways_more : (ways : List Bindings) (i : ℕ) (d : Met) → i < length all → AreWays g h (take i all) ways → AreWays g h (take (i + 1) all) (ways ++ (slice_index_or all i d).replacement ∷ [])
  ways_more ways i d l w = record {
    from = λ b c. elim (Contains-append_cases ways ((slice_index_or all i d).replacement ∷ []) b c) [
      | inl j ↦ let v = w.from b j in (v.0, take_before all i d v.0 l v.1, v.2)
      | inr j ↦ (slice_index_or all i d, take_last all i d l, sym (only_one (slice_index_or all i d).replacement b j))
    ];
    all_have = λ m c. elim (take_or all i d m l c) [
      | inl j ↦ let v = w.all_have m j in (v.0, Contains-append_left ways ((slice_index_or all i d).replacement ∷ []) v.0 v.1, v.2)
      | inr e ↦ (m.replacement, Contains-append_right ways ((slice_index_or all i d).replacement ∷ []) m.replacement (subst (λ u. Contains ((slice_index_or all i d).replacement ∷ []) u.replacement) (sym e) (front (slice_index_or all i d).replacement [])), alike_itself m.replacement)
    ];
  }

  -- after the last meeting
  pub ways_end : (ways : List Bindings) (i : ℕ) → length all ≤ i → AreWays g h (take i all) ways → AreWays g h all ways
  ways_end ways i l w = subst (λ v. AreWays g h v ways) (take_full all i l) w

  -- no meeting has an atom yet
  pub has_begin : (way : Bindings) (keys : List Atom) → ((a : Atom) → Contains keys a → ⊥) → (a : Atom) → Contains keys a ↔ HasAtom g h (take 0 all) way a
  has_begin way keys n a = (λ c. absurd (n a c), λ w. absurd (none w.0 w.1))

  -- a meeting with another way
  pub has_other : (way : Bindings) (keys : List Atom) (i : ℕ) (d : Met) → i < length all → (BindAlike g h (slice_index_or all i d).replacement way → ⊥)
      → ((a : Atom) → Contains keys a ↔ HasAtom g h (take i all) way a) → (a : Atom) → Contains keys a ↔ HasAtom g h (take (i + 1) all) way a
  has_other way keys i d l n k a = (
    λ c. let w = (k a).0 c in (w.0, take_before all i d w.0 l w.1, w.2, w.3),
    λ w. (k a).1 (elim (take_or all i d w.0 l w.1) [ inl j ↦ (w.0, j, w.2, w.3) | inr e ↦ absurd (n (subst (λ u. BindAlike g h u.replacement way) e w.2)) ]),
  )

  -- a meeting with this way
  pub has_more : (eq : Atom → Atom → Bool) → ((x y : Atom) → eq x y ≡ true → x ≡ y) → (way : Bindings) (keys new : List Atom) (i : ℕ) (d : Met) → i < length all
      → BindAlike g h (slice_index_or all i d).replacement way → new ≡ insert_key eq keys (slice_index_or all i d).atom
      → ((a : Atom) → Contains keys a ↔ HasAtom g h (take i all) way a) → (a : Atom) → Contains new a ↔ HasAtom g h (take (i + 1) all) way a
  has_more eq same way keys new i d l x e k a = subst (λ v. Contains v a ↔ HasAtom g h (take (i + 1) all) way a) (sym e) (
    λ c. elim ((insert_iff eq same keys (slice_index_or all i d).atom a).0 c) [
      | inl j ↦ let w = (k a).0 j in (w.0, take_before all i d w.0 l w.1, w.2, w.3)
      | inr f ↦ (slice_index_or all i d, take_last all i d l, x, sym f)
    ],
    λ w. (insert_iff eq same keys (slice_index_or all i d).atom a).1 (elim (take_or all i d w.0 l w.1) [
      | inl j ↦ inl ((k a).1 (w.0, j, w.2, w.3))
      | inr f ↦ inr (sym w.3 ∙ ap (λ u. u.atom) f)
    ]),
  )

-- before the first leader
pub push_begin : (way : Bindings) (leaders : List Atom) (old : List Met) (met : Met) → Contains old met ↔ (Contains old met ⊎ WithWay way (take 0 leaders) met)
push_begin way leaders old met = (λ c. inl c, λ s. elim s [ inl c ↦ c | inr w ↦ absurd (none met.atom w.1) ])

-- one leader more
pub push_next : (way : Bindings) (leaders : List Atom) (old now : List Met) (i : ℕ) (d : Atom) → i < length leaders → ((met : Met) → Contains now met ↔ (Contains old met ⊎ WithWay way (take i leaders) met))
    → (met : Met) → Contains (now ++ record { replacement = way; atom = slice_index_or leaders i d } ∷ []) met ↔ (Contains old met ⊎ WithWay way (take (i + 1) leaders) met)
push_next way leaders old now i d l k met = (
  λ c. elim (Contains-append_cases now (record { replacement = way; atom = slice_index_or leaders i d } ∷ []) met c) [
    | inl j ↦ elim ((k met).0 j) [ inl o ↦ inl o | inr w ↦ inr (w.0, take_before leaders i d met.atom l w.1) ]
    | inr j ↦ let e = only_one (record { replacement = way; atom = slice_index_or leaders i d }) met j in
        inr (ap (λ m. m.replacement) e, subst (Contains (take (i + 1) leaders)) (sym (ap (λ m. m.atom) e)) (take_last leaders i d l))
  ],
  λ s. elim s [
    | inl o ↦ Contains-append_left now (record { replacement = way; atom = slice_index_or leaders i d } ∷ []) met ((k met).1 (inl o))
    | inr w ↦ elim (take_or leaders i d met.atom l w.1) [
      | inl j ↦ Contains-append_left now (record { replacement = way; atom = slice_index_or leaders i d } ∷ []) met ((k met).1 (inr (w.0, j)))
      | inr e ↦ Contains-append_right now (record { replacement = way; atom = slice_index_or leaders i d } ∷ []) met (written met w.0 e)
    ]
  ],
)
  where
    written : (m : Met) → m.replacement ≡ way → m.atom ≡ slice_index_or leaders i d → Contains (record { replacement = way; atom = slice_index_or leaders i d } ∷ []) m
    written m e f = subst (λ v. Contains (record { replacement = way; atom = slice_index_or leaders i d } ∷ []) v) (sym (ap₂ (λ r a. record { replacement = r; atom = a }) e f)) (front (record { replacement = way; atom = slice_index_or leaders i d }) [])

-- after the last leader
pub push_end : (tbox : List Inclusion) (g h : Atom) (all : List Met) (way : Bindings) (atoms leaders : List Atom) (old now : List Met) (i : ℕ) → length leaders ≤ i
    → ((a : Atom) → Contains atoms a ↔ HasAtom g h all way a) → ((a : Atom) → Contains leaders a ↔ LeaderOf tbox (Contains atoms) a)
    → ((met : Met) → Contains now met ↔ (Contains old met ⊎ WithWay way (take i leaders) met)) → (met : Met) → Contains now met ↔ (Contains old met ⊎ LeadsWay tbox g h all way met)
push_end tbox g h all way atoms leaders old now i l a b k met =
    let f = take_full leaders i l in (
      λ c. elim ((k met).0 c) [
        | inl o ↦ inl o
        | inr w ↦ inr (w.0, leader_as tbox (Contains atoms) (HasAtom g h all way) a met.atom ((b met.atom).0 (subst (λ v. Contains v met.atom) f w.1)))
      ],
      λ s. (k met).1 (elim s [
        | inl o ↦ inl o
        | inr w ↦ inr (w.0, subst (λ v. Contains v met.atom) (sym f) ((b met.atom).1 (leader_as tbox (HasAtom g h all way) (Contains atoms) (λ x. back (a x)) met.atom w.1)))
      ]),
    )

module _ (tbox : List Inclusion) (g h : Atom) (all : List Met) (ways : List Bindings) where
  -- the meetings of the first ways
  pub record Gathered (i : ℕ) (list : List Met) : Type 0 where
    pub from : (met : Met) → Contains list met → (way : Bindings) × Contains (take i ways) way × LeadsWay tbox g h all way met
    pub have : (met : Met) (way : Bindings) → Contains (take i ways) way → LeadsWay tbox g h all way met → Contains list met

  -- none before the first way
  pub gathered_begin : (list : List Met) → ((m : Met) → Contains list m → ⊥) → Gathered 0 list
  gathered_begin list n = record { from = λ m c. absurd (n m c); have = λ m w c l. absurd (none w c) }

  -- one way more
  pub gathered_next : (i : ℕ) (d : Bindings) (list new : List Met) → i < length ways → ((met : Met) → Contains new met ↔ (Contains list met ⊎ LeadsWay tbox g h all (slice_index_or ways i d) met))
      → Gathered i list → Gathered (i + 1) new
  gathered_next i d list new l k w = record {
    from = λ m c. elim ((k m).0 c) [
      | inl j ↦ let v = w.from m j in (v.0, take_before ways i d v.0 l v.1, v.2)
      | inr v ↦ (slice_index_or ways i d, take_last ways i d l, v)
    ];
    have = λ m way c v. (k m).1 (elim (take_or ways i d way l c) [
      | inl j ↦ inl (w.have m way j v)
      | inr e ↦ inr (subst (λ u. LeadsWay tbox g h all u m) e v)
    ]);
  }

  -- after the last way these are the leaders
  pub gathered_end : (i : ℕ) (list : List Met) → length ways ≤ i → AreWays g h all ways → Gathered i list → AreLeaders tbox g h all list
  gathered_end i list l a w = record {
    from = λ m c. let v = w.from m c in let s = a.from v.0 (subst (λ u. Contains u v.0) (take_full ways i l) v.1) in (s.0, s.1, subst (λ u. LeadsWay tbox g h all u m) (sym s.2) v.2);
    all_are = λ o x c d.
        let v = a.all_have o c in (
          record { replacement = v.0; atom = x },
          w.have (record { replacement = v.0; atom = x }) v.0 (subst (λ u. Contains u v.0) (sym (take_full ways i l)) v.1)
              (refl, leader_as tbox (HasAtom g h all o.replacement) (HasAtom g h all v.0) (λ y. back (atoms_alike g h all v.0 o.replacement v.2 y)) x d),
          v.2,
          refl,
        );
  }

-- one way more, if it is new
pub ways_added : (g h : Atom) (all : List Met) (old new : List Bindings) (i : ℕ) (d : Met) → i < length all → IsWayAdded g h (slice_index_or all i d).replacement old new
    → AreWays g h (take i all) old → AreWays g h (take (i + 1) all) new
ways_added g h all old new i d l (inl s) w = subst (AreWays g h (take (i + 1) all)) (sym s.0) (ways_same g h all old i d l s.1 w)
ways_added g h all old new i d l (inr e) w = subst (AreWays g h (take (i + 1) all)) (sym e) (ways_more g h all old i d l w)

-- one atom more, if its meeting has the way
pub has_added : (eq : Atom → Atom → Bool) → ((x y : Atom) → eq x y ≡ true → x ≡ y) → (g h : Atom) (all : List Met) (way : Bindings) (old new : List Atom) (i : ℕ) (d : Met) → i < length all
    → IsAtomAdded eq g h way (slice_index_or all i d) old new → ((a : Atom) → Contains old a ↔ HasAtom g h (take i all) way a) → (a : Atom) → Contains new a ↔ HasAtom g h (take (i + 1) all) way a
has_added eq same g h all way old new i d l (inl s) k = has_more g h all eq same way old new i d l s.0 s.1 k
has_added eq same g h all way old new i d l (inr s) k = λ a. subst (λ v. Contains v a ↔ HasAtom g h (take (i + 1) all) way a) (sym s.1) (has_other g h all way old i d l s.0 k a)

-- after the last meeting, and in order
pub has_end : (g h : Atom) (all : List Met) (way : Bindings) (keys sorted : List Atom) (i : ℕ) → length all ≤ i → IsPermutation keys sorted
    → ((a : Atom) → Contains keys a ↔ HasAtom g h (take i all) way a) → (a : Atom) → Contains sorted a ↔ HasAtom g h all way a
has_end g h all way keys sorted i l p k a = subst (λ v. Contains sorted a ↔ HasAtom g h v way a) (take_full all i l) (
  λ c. (k a).0 (Contains-permutation sorted keys a (IsPermutation-sym keys sorted p) c),
  λ w. Contains-permutation keys sorted a p ((k a).1 w),
)

-- after the last leader of a list that was pushed
pub push_all_end : (way : Bindings) (leaders : List Atom) (old now : List Met) (i : ℕ) → length leaders ≤ i → ((met : Met) → Contains now met ↔ (Contains old met ⊎ WithWay way (take i leaders) met))
    → (met : Met) → Contains now met ↔ (Contains old met ⊎ WithWay way leaders met)
push_all_end way leaders old now i l k met = subst (λ v. Contains now met ↔ (Contains old met ⊎ WithWay way v met)) (take_full leaders i l) (k met)

-- the leaders that were pushed are those of the way
pub pushed_lead : (tbox : List Inclusion) (g h : Atom) (all : List Met) (way : Bindings) (atoms leaders : List Atom) (old now : List Met)
    → ((a : Atom) → Contains atoms a ↔ HasAtom g h all way a) → ((a : Atom) → Contains leaders a ↔ LeaderOf tbox (Contains atoms) a)
    → ((met : Met) → Contains now met ↔ (Contains old met ⊎ WithWay way leaders met)) → (met : Met) → Contains now met ↔ (Contains old met ⊎ LeadsWay tbox g h all way met)
pushed_lead tbox g h all way atoms leaders old now a b k met = (
  λ c. elim ((k met).0 c) [ inl o ↦ inl o | inr w ↦ inr (w.0, leader_as tbox (Contains atoms) (HasAtom g h all way) a met.atom ((b met.atom).0 w.1)) ],
  λ s. (k met).1 (elim s [ inl o ↦ inl o | inr w ↦ inr (w.0, (b met.atom).1 (leader_as tbox (HasAtom g h all way) (Contains atoms) (λ x. back (a x)) met.atom w.1)) ]),
)
