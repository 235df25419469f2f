-- Being below, equivalent and specialised by the normal inclusions is that by the stated ones, for names in range.
use Rattle.std.proofs.Common.{◌≡◌, ℕ, ◌+◌, ◌<◌, inl, inr, ◌↔◌, List, [], ◌∷◌, Some, None, Contains, refl, sym, subst, arith}
use Rattle.mast_terms.specs.declared.name.Name.{Name}
use Rattle.mast_tbox.specs.declared.expression.RoleExpr.{RoleExpr}
use Rattle.mast_tbox.specs.declared.expression.RoleExpr.TheVariants.{Direct, Inverse}
use Rattle.mast_tbox.specs.declared.expression.Basic.TheVariants.{Some as BSome}
use Rattle.mast_tbox.specs.declared.expression.Prop.{Prop}
use Rattle.mast_tbox.specs.declared.expression.Prop.TheVariants.{Role as PRole, Attr as PAttr}
use Rattle.mast_tbox.specs.declared.axiom.Inclusion.{Inclusion}
use Rattle.mast_tbox.specs.declared.axiom.Inclusion.TheVariants.{Class as IClass, Exists, HasValue, Role as IRole, Attr as IAttr, Range}
use Rattle.mast_tbox.specs.Expressions.{inverse}
use Rattle.mast_tbox.specs.Inclusions.{first_auxiliary, auxiliary, normal_of, normal, States, Leads}
use Rattle.mast_tbox.specs.Lists.{itself, onward}
use Rattle.mast_tbox.specs.Names.{RoleNamed, IsStatable, PropInRange, AreInRange}
use Rattle.mast_tbox.specs.Properties.{IsBelow, AreEquivalent}
use Rattle.mast_tbox.specs.Restrictions.{IsLike, Specialises, IsSpecialised}
use Rattle.mast_tbox.proofs.MemberLemmas.{front, none, first_or, only_one}
use Rattle.mast_tbox.proofs.NumberLemmas.{source_of, normal_has}
use Rattle.mast_tbox.proofs.WorkLemmas.{reaches_weaker}

-- an inclusion between properties with names in range is one of the normal ones that stand for a stated inclusion only if it is that
role_of : (r s : RoleExpr) (i : Inclusion) → RoleNamed IsStatable r → Contains (normal_of i) (IRole r s) → i ≡ IRole r s
role_of r s (IClass b a) n c = absurd (let e = only_one (IClass b a) (IRole r s) c in cc)
role_of r s (Exists b t None k) n c = absurd (let e = only_one (Exists b t None k) (IRole r s) c in cc)
role_of r s (Exists b t (Some a) k) n c = elim (first_or (IRole (Direct (auxiliary k)) t) (IClass (BSome (Inverse (auxiliary k))) a ∷ Exists b (Direct (auxiliary k)) None k ∷ []) (IRole r s) c) [
  | inl e ↦ absurd (let f : r ≡ Direct (auxiliary k) = cc in let l : first_auxiliary + k < first_auxiliary = subst (RoleNamed IsStatable) f n in omega arith)
  | inr d ↦ elim (first_or (IClass (BSome (Inverse (auxiliary k))) a) (Exists b (Direct (auxiliary k)) None k ∷ []) (IRole r s) d) [
    | inl e ↦ cc
    | inr f ↦ absurd (let e = only_one (Exists b (Direct (auxiliary k)) None k) (IRole r s) f in cc)
  ]
]
role_of r s (HasValue b u k) n c = absurd (let e = only_one (HasValue b u k) (IRole r s) c in cc)
role_of r s (IRole t w) n c = sym (only_one (IRole t w) (IRole r s) c)
role_of r s (IAttr u v) n c = absurd (let e = only_one (IAttr u v) (IRole r s) c in cc)
role_of r s (Range u kind) n c = absurd (none (IRole r s) c)

attr_of : (u v : Name) (i : Inclusion) → Contains (normal_of i) (IAttr u v) → i ≡ IAttr u v
attr_of u v (IClass b a) c = absurd (let e = only_one (IClass b a) (IAttr u v) c in cc)
attr_of u v (Exists b t None k) c = absurd (let e = only_one (Exists b t None k) (IAttr u v) c in cc)
attr_of u v (Exists b t (Some a) k) c = elim (first_or (IRole (Direct (auxiliary k)) t) (IClass (BSome (Inverse (auxiliary k))) a ∷ Exists b (Direct (auxiliary k)) None k ∷ []) (IAttr u v) c) [
  | inl e ↦ cc
  | inr d ↦ elim (first_or (IClass (BSome (Inverse (auxiliary k))) a) (Exists b (Direct (auxiliary k)) None k ∷ []) (IAttr u v) d) [
    | inl e ↦ cc
    | inr f ↦ absurd (let e = only_one (Exists b (Direct (auxiliary k)) None k) (IAttr u v) f in cc)
  ]
]
attr_of u v (HasValue b w k) c = absurd (let e = only_one (HasValue b w k) (IAttr u v) c in cc)
attr_of u v (IRole t w) c = absurd (let e = only_one (IRole t w) (IAttr u v) c in cc)
attr_of u v (IAttr w x) c = sym (only_one (IAttr w x) (IAttr u v) c)
attr_of u v (Range w kind) c = absurd (none (IAttr u v) c)

inverse_range : (p : Prop) → PropInRange p → PropInRange (inverse p)
inverse_range (PRole (Direct p)) i = i
inverse_range (PRole (Inverse p)) i = i
inverse_range (PAttr u) i = i

range_inverse : (p : Prop) → PropInRange (inverse p) → PropInRange p
range_inverse (PRole (Direct p)) i = i
range_inverse (PRole (Inverse p)) i = i
range_inverse (PAttr u) i = i

module _ (tbox : List Inclusion) where
  states_normal : (p q : Prop) → States tbox p q → States (normal tbox) p q
  states_normal (PRole r) (PRole s) c = normal_has tbox (IRole r s) (IRole r s) c (front (IRole r s) [])
  states_normal (PRole r) (PAttr v) c = absurd c
  states_normal (PAttr u) (PRole s) c = absurd c
  states_normal (PAttr u) (PAttr v) c = normal_has tbox (IAttr u v) (IAttr u v) c (front (IAttr u v) [])

  leads_normal : (p q : Prop) → Leads tbox p q → Leads (normal tbox) p q
  leads_normal p q (inl s) = inl (states_normal p q s)
  leads_normal p q (inr s) = inr (states_normal (inverse p) (inverse q) s)

  -- what is below by the stated inclusions is below by the normal ones
  pub below_normal : (p q : Prop) → IsBelow tbox p q → IsBelow (normal tbox) p q
  below_normal p q r = reaches_weaker leads_normal p q r

  module _ (range : AreInRange tbox) where
    normal_states : (p q : Prop) → PropInRange p → States (normal tbox) p q → States tbox p q × PropInRange q
    normal_states (PRole r) (PRole s) n c =
        let w = source_of tbox (IRole r s) c in
        let d = subst (Contains tbox) (role_of r s w.stated n w.gives) w.stands in
        (d, (range (IRole r s) d).1)
    normal_states (PRole r) (PAttr v) n c = absurd c
    normal_states (PAttr u) (PRole s) n c = absurd c
    normal_states (PAttr u) (PAttr v) n c =
        let w = source_of tbox (IAttr u v) c in
        let d = subst (Contains tbox) (attr_of u v w.stated w.gives) w.stands in
        (d, (range (IAttr u v) d).1)

    normal_leads : (p q : Prop) → PropInRange p → Leads (normal tbox) p q → Leads tbox p q × PropInRange q
    normal_leads p q n (inl s) = let w = normal_states p q n s in (inl w.0, w.1)
    normal_leads p q n (inr s) = let w = normal_states (inverse p) (inverse q) (inverse_range p n) s in (inr w.0, range_inverse q w.1)

    normal_below : (p q : Prop) → PropInRange p → IsBelow (normal tbox) p q → IsBelow tbox p q
    normal_below p q n itself = itself
    normal_below p q n (onward {y = w} l d) = let v = normal_leads p w n l in onward v.0 (normal_below w q v.1 d)

    -- being below by the stated inclusions is being below by the normal ones
    pub below_agrees : (p q : Prop) → PropInRange p → IsBelow tbox p q ↔ IsBelow (normal tbox) p q
    below_agrees p q n = (below_normal p q, normal_below p q n)

    -- so is being equivalent
    pub equivalent_agrees : (p q : Prop) → PropInRange p → PropInRange q → AreEquivalent tbox p q ↔ AreEquivalent (normal tbox) p q
    equivalent_agrees p q n m = (λ e. (below_normal p q e.0, below_normal q p e.1), λ e. (normal_below p q n e.0, normal_below q p m e.1))

    like_agrees : (p q : Prop) → PropInRange p → PropInRange q → IsLike tbox p q ↔ IsLike (normal tbox) p q
    like_agrees p q n m = (
      λ l. elim l [ inl e ↦ inl ((equivalent_agrees p q n m).0 e) | inr e ↦ inr ((equivalent_agrees p (inverse q) n (inverse_range q m)).0 e) ],
      λ l. elim l [ inl e ↦ inl ((equivalent_agrees p q n m).1 e) | inr e ↦ inr ((equivalent_agrees p (inverse q) n (inverse_range q m)).1 e) ],
    )

    -- an auxiliary role is no property with a name in range
    not_range : (k : ℕ) (q : Prop) → PropInRange q → q ≡ PRole (Direct (auxiliary k)) → ⊥
    not_range k q n e = let l : first_auxiliary + k < first_auxiliary = subst PropInRange e n in omega arith

    -- and so what is below it has a name out of range: it is not equivalent to one in range
    stays_range : (p q : Prop) → PropInRange p → IsBelow (normal tbox) p q → PropInRange q
    stays_range p q n itself = n
    stays_range p q n (onward {y = w} l d) = stays_range w q (normal_leads p w n l).1 d

    auxiliary_apart : (k : ℕ) (q : Prop) → PropInRange q → AreEquivalent (normal tbox) (PRole (Direct (auxiliary k))) q → ⊥
    auxiliary_apart k q n e = not_range k (PRole (Direct (auxiliary k))) (stays_range q (PRole (Direct (auxiliary k))) n e.1) refl

    specialised_has : (i : Inclusion) (p : Prop) → PropInRange p → Contains tbox i → Specialises tbox i p → IsSpecialised (normal tbox) p
    specialised_has (IClass b a) p n c s = absurd s
    specialised_has (Exists b r None k) p n c s = absurd s
    specialised_has (Exists b r (Some a) k) p n c s =
        let m : RoleNamed IsStatable r = (range (Exists b r (Some a) k) c).1.0 in (
          IRole (Direct (auxiliary k)) r,
          (
            normal_has tbox (Exists b r (Some a) k) (IRole (Direct (auxiliary k)) r) c (front (IRole (Direct (auxiliary k)) r) (IClass (BSome (Inverse (auxiliary k))) a ∷ Exists b (Direct (auxiliary k)) None k ∷ [])),
            (auxiliary_apart k (PRole r) m, (like_agrees p (PRole r) n m).0 s),
          ),
        )
    specialised_has (HasValue b u k) p n c s = absurd s
    specialised_has (IRole r t) p n c s =
        let m = range (IRole r t) c in
        (IRole r t, (normal_has tbox (IRole r t) (IRole r t) c (front (IRole r t) []), (λ e. s.0 ((equivalent_agrees (PRole r) (PRole t) m.0 m.1).1 e), (like_agrees p (PRole t) n m.1).0 s.1)))
    specialised_has (IAttr u v) p n c s =
        let m = range (IAttr u v) c in
        (IAttr u v, (normal_has tbox (IAttr u v) (IAttr u v) c (front (IAttr u v) []), (λ e. s.0 ((equivalent_agrees (PAttr u) (PAttr v) m.0 m.1).1 e), (like_agrees p (PAttr v) n m.1).0 s.1)))
    specialised_has (Range u kind) p n c s = absurd s

    specialised_of : (i j : Inclusion) (p : Prop) → PropInRange p → Contains tbox i → Contains (normal_of i) j → Specialises (normal tbox) j p → IsSpecialised tbox p
    specialised_of (IClass b a) j p n c g s = absurd (subst (λ w. Specialises (normal tbox) w p) (only_one (IClass b a) j g) s)
    specialised_of (Exists b r None k) j p n c g s = absurd (subst (λ w. Specialises (normal tbox) w p) (only_one (Exists b r None k) j g) s)
    specialised_of (Exists b r (Some a) k) j p n c g s =
        let m : RoleNamed IsStatable r = (range (Exists b r (Some a) k) c).1.0 in
        elim (first_or (IRole (Direct (auxiliary k)) r) (IClass (BSome (Inverse (auxiliary k))) a ∷ Exists b (Direct (auxiliary k)) None k ∷ []) j g) [
          | inl e ↦ (Exists b r (Some a) k, (c, (like_agrees p (PRole r) n m).1 (subst (λ w. Specialises (normal tbox) w p) e s).1))
          | inr d ↦ elim (first_or (IClass (BSome (Inverse (auxiliary k))) a) (Exists b (Direct (auxiliary k)) None k ∷ []) j d) [
            | inl e ↦ absurd (subst (λ w. Specialises (normal tbox) w p) e s)
            | inr f ↦ absurd (subst (λ w. Specialises (normal tbox) w p) (only_one (Exists b (Direct (auxiliary k)) None k) j f) s)
          ]
        ]
    specialised_of (HasValue b u k) j p n c g s = absurd (subst (λ w. Specialises (normal tbox) w p) (only_one (HasValue b u k) j g) s)
    specialised_of (IRole r t) j p n c g s =
        let m = range (IRole r t) c in
        let v = subst (λ w. Specialises (normal tbox) w p) (only_one (IRole r t) j g) s in
        (IRole r t, (c, (λ e. v.0 ((equivalent_agrees (PRole r) (PRole t) m.0 m.1).0 e), (like_agrees p (PRole t) n m.1).1 v.1)))
    specialised_of (IAttr u v) j p n c g s =
        let m = range (IAttr u v) c in
        let w = subst (λ w. Specialises (normal tbox) w p) (only_one (IAttr u v) j g) s in
        (IAttr u v, (c, (λ e. w.0 ((equivalent_agrees (PAttr u) (PAttr v) m.0 m.1).0 e), (like_agrees p (PAttr v) n m.1).1 w.1)))
    specialised_of (Range u kind) j p n c g s = absurd (none j g)

    -- and being specialised
    pub specialised_agrees : (p : Prop) → PropInRange p → IsSpecialised tbox p ↔ IsSpecialised (normal tbox) p
    specialised_agrees p n = (
      λ s. specialised_has s.0 p n s.1.0 s.1.1,
      λ s. let w = source_of tbox s.0 s.1.0 in specialised_of w.stated s.0 p n w.stands w.gives s.1.1,
    )
