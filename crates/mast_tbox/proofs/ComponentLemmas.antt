-- Components: what is reached within the free properties downwards and then upwards is all that is equivalent to the root.
use Rattle.std.proofs.Common.{◌≡◌, ◌⊎◌, inl, inr, ◌↔◌, Option, Some, None, List, [], ◌∷◌, Contains, map, refl, sym, ap, subst, ◌∙◌, arith}
use Rattle.std.proofs.lemmas.List.Elements.{Contains-append_left, Contains-append_right}
use Rattle.mast_tbox.specs.declared.expression.RoleExpr.{RoleExpr}
use Rattle.mast_tbox.specs.declared.expression.Prop.{Prop}
use Rattle.mast_tbox.specs.declared.expression.Prop.TheVariants.{Role as PRole, Attr as PAttr}
use Rattle.mast_tbox.specs.declared.axiom.Lined.{Lined}
use Rattle.mast_tbox.specs.declared.axiom.Inclusion.{Inclusion}
use Rattle.mast_tbox.specs.declared.axiom.Inclusion.TheVariants.{Class as IClass, Exists, HasValue, Role as IRole, Attr as IAttr, Range}
use Rattle.mast_terms.specs.declared.name.Name.{Name}
use Rattle.mast_tbox.specs.Expressions.{inverse_role, inverse}
use Rattle.mast_tbox.specs.Inclusions.{States, Leads}
use Rattle.mast_tbox.specs.inside.StepLists.{prop_pairs}
use Rattle.mast_tbox.specs.Lists.{Reaches, itself, onward, items}
use Rattle.mast_tbox.specs.Properties.{IsBelow, AreEquivalent}
use Rattle.mast_tbox.specs.inside.Components.{turned, ends, all_ends, Inside, Settled, SettlesBy, IsAround, TellsComponents}
use Rattle.mast_tbox.specs.inside.Chosen.{chosen}
use Rattle.mast_tbox.proofs.MemberLemmas.{none, first_or, only_one, map_in, map_out}
use Rattle.mast_tbox.proofs.BelowLemmas.{leads_pair}
use Rattle.mast_tbox.proofs.WorkLemmas.{reaches_join, reaches_more, reaches_weaker}

-- each end of an inclusion is one of the ends
ends_has : (tbox : List Inclusion) (i : Inclusion) (p : Prop) → Contains tbox i → Contains (ends i) p → Contains (all_ends tbox) p
ends_has [] i p c e = absurd (none i c)
ends_has (j ∷ is) i p c e = elim (first_or j is i c) [
  | inl f ↦ Contains-append_left (ends j) (all_ends is) p (subst (λ w. Contains (ends w) p) f e)
  | inr d ↦ Contains-append_right (ends j) (all_ends is) p (ends_has is i p d e)
]

pair_ends : (i : Inclusion) (p q : Prop) → Contains (prop_pairs i) (p, q) → Contains (ends i) p × Contains (ends i) q
pair_ends (IClass b a) p q g = absurd (none (p, q) g)
pair_ends (Exists b r end k) p q g = absurd (none (p, q) g)
pair_ends (HasValue b u k) p q g = absurd (none (p, q) g)
pair_ends (IRole r s) p q g = elim (first_or (PRole r, PRole s) ((PRole (inverse_role r), PRole (inverse_role s)) ∷ []) (p, q) g) [
  | inl e ↦ (
    subst (Contains (ends (IRole r s))) (sym (ap (λ w. w.0) e)) (0, omega arith, refl),
    subst (Contains (ends (IRole r s))) (sym (ap (λ w. w.1) e)) (1, omega arith, refl),
  )
  | inr a ↦ let e = only_one (PRole (inverse_role r), PRole (inverse_role s)) (p, q) a in (
    subst (Contains (ends (IRole r s))) (sym (ap (λ w. w.0) e)) (2, omega arith, refl),
    subst (Contains (ends (IRole r s))) (sym (ap (λ w. w.1) e)) (3, omega arith, refl),
  )
]
pair_ends (IAttr u v) p q g = let e = only_one (PAttr u, PAttr v) (p, q) g in (
  subst (Contains (ends (IAttr u v))) (sym (ap (λ w. w.0) e)) (0, omega arith, refl),
  subst (Contains (ends (IAttr u v))) (sym (ap (λ w. w.1) e)) (1, omega arith, refl),
)
pair_ends (Range u kind) p q g = absurd (none (p, q) g)

-- what an inclusion leads from and to is one of the ends
pub leads_ends : (tbox : List Inclusion) (p q : Prop) → Leads tbox p q → Contains (all_ends tbox) p × Contains (all_ends tbox) q
leads_ends tbox p q l =
    let w = leads_pair tbox p q l in
    let e = pair_ends w.inclusion p q w.gives in
    (ends_has tbox w.inclusion p w.stands e.0, ends_has tbox w.inclusion q w.stands e.1)

module _ (tbox : List Inclusion) where
  -- being equivalent is symmetric
  pub equivalent_turned : (p q : Prop) → AreEquivalent tbox p q → AreEquivalent tbox q p
  equivalent_turned p q e = (e.1, e.0)

  -- and transitive
  pub equivalent_join : (p q r : Prop) → AreEquivalent tbox p q → AreEquivalent tbox q r → AreEquivalent tbox p r
  equivalent_join p q r e f = (reaches_join p q r e.0 f.0, reaches_join r q p f.1 e.1)

module _ (tbox : List Inclusion) (below above : Prop → List Prop) (below_is : (p q : Prop) → Contains (below p) q ↔ Leads tbox q p) (above_is : (p q : Prop) → Contains (above p) q ↔ Leads tbox p q)
    (free : List Prop) (note : Prop → Option Prop) (w : Settled tbox free note) (root : Prop) (is_free : Contains free root) where
  -- what is reached downwards is below the root, and what is reached upwards is above it
  go_below : (x q : Prop) → Reaches (Inside free below) x q → IsBelow tbox x root → IsBelow tbox q root
  go_below x q itself b = b
  go_below x q (onward {y = y} s d) b = go_below y q d (onward ((below_is x y).0 s.0) b)

  go_above : (set : List Prop) (q : Prop) → Reaches (Inside set above) root q → IsBelow tbox root q
  go_above set q r = reaches_weaker (λ x y s. (above_is x y).0 s.0) root q r

  inside_or : (set : List Prop) (next : Prop → List Prop) (x q : Prop) → Reaches (Inside set next) x q → (q ≡ x) ⊎ Contains set q
  inside_or set next x q itself = inl refl
  inside_or set next x q (onward {y = y} s d) = elim (inside_or set next y q d) [ inl e ↦ inr (subst (Contains set) (sym e) s.1) | inr c ↦ inr c ]

  -- what is equivalent to the root and an end of an inclusion is free
  stays_free : (q : Prop) → AreEquivalent tbox q root → Contains (all_ends tbox) q → Contains free q
  stays_free q e c = elim (w.all_ones q c) [
    | inl f ↦ f
    | inr n ↦ absurd (let g : None ≡ Some n.0 = sym (w.free_ones root is_free) ∙ w.alike q root n.0 n.1 e in cc)
  ]

  -- so it is reached downwards
  under_all : (q : Prop) → Reaches (Leads tbox) q root → IsBelow tbox root q → Reaches (Inside free below) root q
  under_all q itself b = itself
  under_all q (onward {y = y} l d) b =
      reaches_more root y q (under_all y d (reaches_more root q y b l)) ((below_is y q).1 l, stays_free q (onward l d, b) (leads_ends tbox q y l).0)

  module _ (under : List Prop) (under_is : (p : Prop) → Contains under p ↔ Reaches (Inside free below) root p) where
    -- and from there upwards
    same_all : (x q : Prop) → Reaches (Leads tbox) x q → Reaches (Inside under above) root x → IsBelow tbox root x → IsBelow tbox q root → Reaches (Inside under above) root q
    same_all x q itself r b c = r
    same_all x q (onward {y = y} l d) r b c =
        let f = reaches_more root x y b l in
        let g = reaches_join y q root d c in
        same_all y q d (reaches_more root x y r ((above_is x y).1 l, (under_is y).1 (under_all y g f))) f c

    same_from : (q : Prop) → Reaches (Inside under above) root q → AreEquivalent tbox q root
    same_from q r = (
      elim (inside_or under above root q r) [
        | inl e ↦ subst (λ v. IsBelow tbox v root) (sym e) itself
        | inr c ↦ go_below root q ((under_is q).0 c) itself
      ],
      go_above under q r,
    )

  around_is : (same : List Prop) → IsAround below above free root same → (q : Prop) → Contains same q ↔ AreEquivalent tbox q root
  around_is same a q = (
    λ c. same_from a.0 a.1.0 q ((a.1.1 q).0 c),
    λ e. (a.1.1 q).1 (same_all a.0 a.1.0 root q e.1 itself itself e.0),
  )

  module _ (left : List Prop) (after : Prop → Option Prop) (s : SettlesBy below above free note root left after) where
    is_same : (q : Prop) → Contains s.same q ↔ AreEquivalent tbox q root
    is_same q = around_is s.same s.around q

    next_equivalent : (p r : Prop) → after p ≡ Some r → AreEquivalent tbox p r
    next_equivalent p r e = elim (s.decided p) [
      | inl c ↦ let f : root ≡ r = (let g : Some root ≡ Some r = sym (s.inside p c) ∙ e in cc) in subst (AreEquivalent tbox p) f ((is_same p).0 c)
      | inr n ↦ w.equivalent p r (sym (s.outside p n) ∙ e)
    ]

    next_alike : (p q r : Prop) → after p ≡ Some r → AreEquivalent tbox p q → after q ≡ Some r
    next_alike p q r e a = elim (s.decided p) [
      | inl c ↦ s.inside q ((is_same q).1 (equivalent_join tbox q p root (equivalent_turned tbox p q a) ((is_same p).0 c))) ∙ (sym (s.inside p c) ∙ e)
      | inr n ↦ elim (s.decided q) [
        | inl d ↦ absurd (n ((is_same p).1 (equivalent_join tbox p q root a ((is_same q).0 d))))
        | inr m ↦ s.outside q m ∙ w.alike p q r (sym (s.outside p n) ∙ e) a
      ]
    ]

    next_all : (p : Prop) → Contains (all_ends tbox) p → Contains left p ⊎ ((r : Prop) × (after p ≡ Some r))
    next_all p c = elim (s.decided p) [
      | inl d ↦ inr (root, s.inside p d)
      | inr n ↦ elim (w.all_ones p c) [ inl f ↦ inl ((s.still_free p).1 (f, n)) | inr g ↦ inr (g.0, s.outside p n ∙ g.1) ]
    ]

    -- what is settled after a root was noted
    pub settled_next : Settled tbox left after
    settled_next = record {
      free_ones = λ p c. let f = (s.still_free p).0 c in s.outside p f.1 ∙ w.free_ones p f.0;
      equivalent = next_equivalent;
      alike = next_alike;
      all_ones = next_all;
    }

    -- the root is no longer free
    pub root_settled : Contains left root → ⊥
    root_settled c = ((s.still_free root).0 c).1 ((is_same root).1 (itself, itself))

-- in the beginning all ends are free and none has a chief
pub settled_first : (tbox : List Inclusion) (free : List Prop) (note : Prop → Option Prop) → ((p : Prop) → note p ≡ None) → ((p : Prop) → Contains (all_ends tbox) p → Contains free p) → Settled tbox free note
settled_first tbox free note nothing all = record {
  free_ones = λ p c. nothing p;
  equivalent = λ p r e. absurd (let g : None ≡ Some r = sym (nothing p) ∙ e in cc);
  alike = λ p q r e a. absurd (let g : None ≡ Some r = sym (nothing p) ∙ e in cc);
  all_ones = λ p c. inl (all p c);
}

module _ (tbox : List Inclusion) (free : List Prop) (note : Prop → Option Prop) (w : Settled tbox free note) (no_free : (p : Prop) → Contains free p → ⊥) where
  tells_from : (p q : Prop) (o n : Option Prop) → note p ≡ o → note q ≡ n → chosen o p ≡ chosen n q → AreEquivalent tbox p q
  tells_from p q None None e f g = subst (AreEquivalent tbox p) g (itself, itself)
  tells_from p q None (Some r) e f g = equivalent_turned tbox q p (subst (AreEquivalent tbox q) (sym g) (w.equivalent q r f))
  tells_from p q (Some r) None e f g = subst (AreEquivalent tbox p) g (w.equivalent p r e)
  tells_from p q (Some r) (Some t) e f g = equivalent_join tbox p r q (w.equivalent p r e) (equivalent_turned tbox q r (subst (AreEquivalent tbox q) (sym g) (w.equivalent q t f)))

  -- a property without a chief is below itself alone
  alone : (p q : Prop) → note p ≡ None → IsBelow tbox p q → p ≡ q
  alone p q e itself = refl
  alone p q e (onward {y = y} l d) = elim (w.all_ones p (leads_ends tbox p y l).0) [
    | inl f ↦ absurd (no_free p f)
    | inr n ↦ absurd (let g : None ≡ Some n.0 = sym e ∙ n.1 in cc)
  ]

  tells_case : (p q : Prop) (o : Option Prop) → note p ≡ o → AreEquivalent tbox p q → chosen (note p) p ≡ chosen (note q) q
  tells_case p q None e a = ap (λ v. chosen (note v) v) (alone p q e a.0)
  tells_case p q (Some r) e a = ap (λ v. chosen v p) e ∙ sym (ap (λ v. chosen v q) (w.alike p q r e a))

  -- where none is free any more, the chiefs tell the components
  pub tells : TellsComponents tbox (λ p. chosen (note p) p)
  tells p q = (tells_from p q (note p) (note q) refl refl, tells_case p q (note p) refl)

-- the turned inclusions lead the other way
role_turned : (r s : RoleExpr) (i : Inclusion) → IRole r s ≡ turned i → IRole s r ≡ i
role_turned r s (IClass b a) e = cc
role_turned r s (Exists b t end k) e = cc
role_turned r s (HasValue b u k) e = cc
role_turned r s (IRole t u) e = cc
role_turned r s (IAttr u v) e = cc
role_turned r s (Range u kind) e = cc

attr_turned : (x y : Name) (i : Inclusion) → IAttr x y ≡ turned i → IAttr y x ≡ i
attr_turned x y (IClass b a) e = cc
attr_turned x y (Exists b t end k) e = cc
attr_turned x y (HasValue b u k) e = cc
attr_turned x y (IRole t u) e = cc
attr_turned x y (IAttr u v) e = cc
attr_turned x y (Range u kind) e = cc

module _ (lines : List (Lined Inclusion)) where
  abbrev all_turned : List Inclusion
  all_turned = map (λ l. turned l.item) lines

  turned_has : (i : Inclusion) → Contains (items lines) i → Contains all_turned (turned i)
  turned_has i c = let w = map_out (λ l. l.item) lines i c in
      subst (λ v. Contains all_turned (turned v)) (sym w.is) (map_in (λ l. turned l.item) lines w.element w.stands)

  states_from : (p q : Prop) → States all_turned p q → States (items lines) q p
  states_from (PRole r) (PRole s) c = let w = map_out (λ l. turned l.item) lines (IRole r s) c in
      subst (Contains (items lines)) (sym (role_turned r s w.element.item w.is)) (map_in (λ l. l.item) lines w.element w.stands)
  states_from (PRole r) (PAttr v) c = absurd c
  states_from (PAttr u) (PRole s) c = absurd c
  states_from (PAttr u) (PAttr v) c = let w = map_out (λ l. turned l.item) lines (IAttr u v) c in
      subst (Contains (items lines)) (sym (attr_turned u v w.element.item w.is)) (map_in (λ l. l.item) lines w.element w.stands)

  states_has : (p q : Prop) → States (items lines) q p → States all_turned p q
  states_has (PRole r) (PRole s) c = turned_has (IRole s r) c
  states_has (PRole r) (PAttr v) c = absurd c
  states_has (PAttr u) (PRole s) c = absurd c
  states_has (PAttr u) (PAttr v) c = turned_has (IAttr v u) c

  -- the turned inclusions lead back
  pub leads_turned : (p q : Prop) → Leads all_turned p q ↔ Leads (items lines) q p
  leads_turned p q = (
    λ l. elim l [ inl s ↦ inl (states_from p q s) | inr s ↦ inr (states_from (inverse p) (inverse q) s) ],
    λ l. elim l [ inl s ↦ inl (states_has p q s) | inr s ↦ inr (states_has (inverse p) (inverse q) s) ],
  )
