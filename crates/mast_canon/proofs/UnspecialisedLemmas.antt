-- Properties that nothing specialises: they go over to equivalent and inverse ones, and what leads to one is equivalent to it.
use Rattle.std.proofs.Common.{◌≡◌, ℕ, inl, inr, List, Some, None, Contains, refl, sym, ap, subst}
use Rattle.mast_terms.specs.declared.name.Name.{Name}
use Rattle.mast_terms.specs.declared.term.Term.{Term}
use Rattle.mast_cq.specs.Meanings.{Fact}
use Rattle.mast_tbox.specs.declared.axiom.Inclusion.{Inclusion}
use Rattle.mast_tbox.specs.declared.axiom.Inclusion.TheVariants.{Class as IClass, Exists, HasValue, Role as IRole, Attr as IAttr, Range}
use Rattle.mast_tbox.specs.declared.axiom.Lined.{Lined}
use Rattle.mast_tbox.specs.declared.expression.Basic.{Basic}
use Rattle.mast_tbox.specs.declared.expression.Prop.{Prop}
use Rattle.mast_tbox.specs.declared.expression.Prop.TheVariants.{Role as PRole, Attr as PAttr}
use Rattle.mast_tbox.specs.declared.expression.RoleExpr.{RoleExpr}
use Rattle.mast_tbox.specs.Expressions.{inverse, inverse_role}
use Rattle.mast_tbox.specs.Inclusions.{Adds, States, Leads}
use Rattle.mast_tbox.specs.Lists.{items, itself, onward}
use Rattle.mast_tbox.specs.Numbers.{IsNumbered}
use Rattle.mast_tbox.specs.Properties.{IsBelow, AreEquivalent}
use Rattle.mast_tbox.specs.Restrictions.{IsLike, Specialises, IsSpecialised}
use Rattle.mast_tbox.proofs.ComponentLemmas.{equivalent_join}
use Rattle.mast_tbox.proofs.EqualityLemmas.{inverse_twice}
use Rattle.mast_tbox.proofs.JudgeLemmas.{equivalent_inverse}
use Rattle.mast_tbox.proofs.NumberLemmas.{one_inclusion}
use Rattle.mast_tbox.proofs.OrderLemmas.{equivalent_decided}
use Rattle.mast_canon.specs.Derivations.{widens, Holds, follows}
use Rattle.mast_canon.specs.Elements.{Element}
use Rattle.mast_canon.specs.Memberships.{pair_fact}
use Rattle.mast_canon.proofs.FactLemmas.{pair_turned}

-- the property is a role or an inverse role
abbrev pub IsRole : Prop → Type 0
IsRole (PRole r) = Unit {0}
IsRole (PAttr v) = ⊥

module _ (tbox : List Inclusion) where
  pub equivalent_itself : (p : Prop) → AreEquivalent tbox p p
  equivalent_itself p = (itself, itself)

  like_join : (p q r : Prop) → AreEquivalent tbox p q → IsLike tbox q r → IsLike tbox p r
  like_join p q r e (inl f) = inl (equivalent_join tbox p q r e f)
  like_join p q r e (inr f) = inr (equivalent_join tbox p q (inverse r) e f)

  like_inverse : (p r : Prop) → IsLike tbox (inverse p) r → IsLike tbox p r
  like_inverse p r (inl e) = inr (subst (λ x. AreEquivalent tbox x (inverse r)) (inverse_twice p) (equivalent_inverse tbox (inverse p) r e))
  like_inverse p r (inr e) =
      inl (subst (AreEquivalent tbox p) (inverse_twice r) (subst (λ x. AreEquivalent tbox x (inverse (inverse r))) (inverse_twice p) (equivalent_inverse tbox (inverse p) (inverse r) e)))

  specialises_by : (p q : Prop) → ((r : Prop) → IsLike tbox q r → IsLike tbox p r) → (i : Inclusion) → Specialises tbox i q → Specialises tbox i p
  specialises_by p q k (IClass b a) s = s
  specialises_by p q k (Exists b r None n) s = s
  specialises_by p q k (Exists b r (Some a) n) s = k (PRole r) s
  specialises_by p q k (HasValue b u n) s = s
  specialises_by p q k (IRole r t) s = (s.0, k (PRole t) s.1)
  specialises_by p q k (IAttr u v) s = (s.0, k (PAttr v) s.1)
  specialises_by p q k (Range u kind) s = s

  -- what specialises a property specialises each equivalent one
  pub specialised_join : (p q : Prop) → AreEquivalent tbox p q → IsSpecialised tbox q → IsSpecialised tbox p
  specialised_join p q e s = (s.0, (s.1.0, specialises_by p q (λ r. like_join p q r e) s.0 s.1.1))

  -- and what specialises the inverse
  pub specialised_inverse : (p : Prop) → IsSpecialised tbox (inverse p) → IsSpecialised tbox p
  specialised_inverse p s = (s.0, (s.1.0, specialises_by p (inverse p) (like_inverse p) s.0 s.1.1))

  -- a qualified inclusion specialises its role
  pub qualified_specialises : (b : Basic) (r : RoleExpr) (a : Name) (k : ℕ) → Contains tbox (Exists b r (Some a) k) → IsSpecialised tbox (PRole r)
  qualified_specialises b r a k c = (Exists b r (Some a) k, (c, inl (equivalent_itself (PRole r))))

  -- where an inclusion leads to a property like an unspecialised one, its sides are equivalent
  pub unspecialised_states : (p q r : Prop) → States tbox p q → IsLike tbox r q → (IsSpecialised tbox r → ⊥) → AreEquivalent tbox p q
  unspecialised_states (PRole s) (PRole t) r c l u = elim (equivalent_decided tbox (PRole s) (PRole t)) [ inl e ↦ e | inr n ↦ absurd (u (IRole s t, (c, (n, l)))) ]
  unspecialised_states (PRole s) (PAttr v) r c l u = absurd c
  unspecialised_states (PAttr v) (PRole t) r c l u = absurd c
  unspecialised_states (PAttr v) (PAttr w) r c l u = elim (equivalent_decided tbox (PAttr v) (PAttr w)) [ inl e ↦ e | inr n ↦ absurd (u (IAttr v w, (c, (n, l)))) ]

  leads_role : (p q : Prop) → Leads tbox p q → IsRole p → IsRole q
  leads_role (PRole r) (PRole s) l i = tt
  leads_role (PRole r) (PAttr v) (inl c) i = absurd c
  leads_role (PRole r) (PAttr v) (inr c) i = absurd c
  leads_role (PAttr v) q l i = absurd i

  -- what a role is below is a role
  pub below_role : (p q : Prop) → IsBelow tbox p q → IsRole p → IsRole q
  below_role p q itself i = i
  below_role p q (onward {y = r} l b) i = below_role r q b (leads_role p r l i)

  module _ (F : Fact Term → Type 0) where
    pub leads_holds : (p q : Prop) (t u : Element) → Leads tbox p q → Holds tbox F (pair_fact p t u) → Holds tbox F (pair_fact q t u)
    leads_holds p q t u (inl s) h = follows h (widens p q t u s refl refl)
    leads_holds (PRole r) (PRole s) t u (inr c) h =
        subst (Holds tbox F) (pair_turned s u t)
        (follows (subst (Holds tbox F) (sym (pair_turned r u t)) h) (widens (PRole (inverse_role r)) (PRole (inverse_role s)) u t c refl refl))
    leads_holds (PRole r) (PAttr v) t u (inr c) h = absurd c
    leads_holds (PAttr v) (PRole s) t u (inr c) h = absurd c
    leads_holds (PAttr v) (PAttr w) t u (inr c) h = follows h (widens (PAttr v) (PAttr w) t u c refl refl)

    -- a pair of a property is one of each that it is below
    pub below_holds : (p q : Prop) (t u : Element) → IsBelow tbox p q → Holds tbox F (pair_fact p t u) → Holds tbox F (pair_fact q t u)
    below_holds p q t u itself h = h
    below_holds p q t u (onward {y = r} l b) h = below_holds r q t u b (leads_holds p r t u l h)

-- a number has one left side and one property
pub record SameAdding (b c : Basic) (p q : Prop) : Type 0 where
  pub left : b ≡ c
  pub prop : p ≡ q

-- a number has one left side and one property, by two inclusions with it
pub one_adding : (ls : List (Lined Inclusion)) → IsNumbered ls → (b c : Basic) (p q : Prop) (k : ℕ) → Adds (items ls) b p k → Adds (items ls) c q k → SameAdding b c p q
one_adding ls n b c (PRole r) (PRole s) k (x, i) (y, j) =
    let e = one_inclusion ls (Exists b r x k) (Exists c s y k) k n i j refl refl in
    let l : b ≡ c = cc in
    let m : r ≡ s = cc in
    record { left = l; prop = ap PRole m }
one_adding ls n b c (PRole r) (PAttr v) k (x, i) j = absurd (let e = one_inclusion ls (Exists b r x k) (HasValue c v k) k n i j refl refl in cc)
one_adding ls n b c (PAttr v) (PRole s) k i (y, j) = absurd (let e = one_inclusion ls (HasValue b v k) (Exists c s y k) k n i j refl refl in cc)
one_adding ls n b c (PAttr v) (PAttr w) k i j =
    let e = one_inclusion ls (HasValue b v k) (HasValue c w k) k n i j refl refl in
    let l : b ≡ c = cc in
    let m : v ≡ w = cc in
    record { left = l; prop = ap PAttr m }
