-- Fillers by an unspecialised property: where they come from, and that a kept element has at most one that is not between named terms.
use Rattle.std.proofs.Common.{◌≡◌, ℕ, ◌⊎◌, inl, inr, List, refl, sym, ap, ◌∙◌, subst}
use Rattle.std.proofs.lemmas.Bool.{cases_order}
use Rattle.mast_terms.specs.declared.term.Term.{Term}
use Rattle.mast_cq.specs.Meanings.{Fact, InClass, InRole, InAttr}
use Rattle.mast_tbox.specs.declared.axiom.Inclusion.{Inclusion}
use Rattle.mast_tbox.specs.declared.axiom.Lined.{Lined}
use Rattle.mast_tbox.specs.declared.expression.Basic.{Basic}
use Rattle.mast_tbox.specs.declared.expression.Prop.{Prop}
use Rattle.mast_tbox.specs.declared.expression.Prop.TheVariants.{Role as PRole, Attr as PAttr}
use Rattle.mast_tbox.specs.declared.expression.RoleExpr.{RoleExpr}
use Rattle.mast_tbox.specs.declared.expression.RoleExpr.TheVariants.{Direct, Inverse}
use Rattle.mast_tbox.specs.Expressions.{inverse, inverse_role}
use Rattle.mast_tbox.specs.Inclusions.{Adds, States}
use Rattle.mast_tbox.specs.Lists.{items}
use Rattle.mast_tbox.specs.Numbers.{IsNumbered}
use Rattle.mast_tbox.specs.Properties.{AreEquivalent}
use Rattle.mast_tbox.specs.Restrictions.{IsSpecialised}
use Rattle.mast_tbox.proofs.ComponentLemmas.{equivalent_turned, equivalent_join}
use Rattle.mast_tbox.proofs.JudgeLemmas.{equivalent_inverse}
use Rattle.mast_canon.specs.Derivations.{FactStep, Holds, source, follows}
use Rattle.mast_canon.specs.Elements.{Element, Named, Successor, IsNamed, map_fact}
use Rattle.mast_canon.specs.KeptTerms.{Needs, IsFree, IsKept}
use Rattle.mast_canon.specs.Memberships.{pair_fact, shows}
use Rattle.mast_canon.proofs.FactLemmas.{pair_turned, same, turned, readings, no_class}
use Rattle.mast_canon.proofs.UnspecialisedLemmas.{IsRole, equivalent_itself, specialised_join, unspecialised_states, below_role, below_holds, one_adding}

-- the terms of a pair that is a fact over named terms are named
pub named_terms : (p : Prop) (t u : Element) (f : Fact Term) → pair_fact p t u ≡ map_fact Named f → IsNamed t × IsNamed u
named_terms (PRole (Direct p)) t u (InClass a x) e = absurd (cc e)
named_terms (PRole (Direct p)) t u (InRole q x y) e = let i : t ≡ Named x = cc in let j : u ≡ Named y = cc in ((x, i), (y, j))
named_terms (PRole (Direct p)) t u (InAttr v x y) e = absurd (cc e)
named_terms (PRole (Inverse p)) t u (InClass a x) e = absurd (cc e)
named_terms (PRole (Inverse p)) t u (InRole q x y) e = let i : t ≡ Named y = cc in let j : u ≡ Named x = cc in ((y, i), (x, j))
named_terms (PRole (Inverse p)) t u (InAttr v x y) e = absurd (cc e)
named_terms (PAttr v) t u (InClass a x) e = absurd (cc e)
named_terms (PAttr v) t u (InRole q x y) e = absurd (cc e)
named_terms (PAttr v) t u (InAttr w x y) e = let i : t ≡ Named x = cc in let j : u ≡ Named y = cc in ((x, i), (y, j))

-- a named element is no successor
pub named_no_successor : (t u : Element) (k : ℕ) → IsNamed t → t ≡ Successor u k → ⊥
named_no_successor t u k (n, e) f = cc

module _ (ls : List (Lined Inclusion)) (numbered : IsNumbered ls) (F : Fact Term → Type 0) where
  abbrev tbox : List Inclusion
  tbox = items ls

  abbrev P : Fact Element → Type 0
  P f = Holds tbox F f

  -- where a filler of an unspecialised property comes from: both terms are named, or one is the successor of the other
  pub data Filler (p : Prop) (t u : Element) : Type 0 where
    between : IsNamed t → IsNamed u → Filler p t u
    made : (k : ℕ) (q : Prop) → AreEquivalent tbox q p → Needs tbox P k q t → u ≡ Successor t k → Filler p t u
    back : (k : ℕ) → IsRole p → t ≡ Successor u k → Filler p t u

  filler_join : (p q : Prop) (t u : Element) → AreEquivalent tbox q p → Filler q t u → Filler p t u
  filler_join p q t u e (between m n) = between m n
  filler_join p q t u e (made k r f n i) = made k r (equivalent_join tbox r q p f e) n i
  filler_join p q t u e (back k r i) = back k (below_role tbox q p e.0 r) i

  abbrev pub Unspecialised : Prop → Type 0
  Unspecialised p = IsSpecialised tbox p → ⊥

  made_filler : (p q : Prop) (b : Basic) (k : ℕ) (t u x y : Element) → Adds tbox b q k → P (shows b x y) → pair_fact p t u ≡ pair_fact q x (Successor x k) → Filler p t u
  made_filler p q b k t u x y c h e = elim (readings p q t u x (Successor x k) e) [
    | same i j m ↦ made k q (subst (AreEquivalent tbox q) (sym i) (equivalent_itself tbox q))
        (subst (Needs tbox P k q) (sym j) (record { left = b; stated = c; is_in = (y, h) })) (m ∙ ap (λ z. Successor z k) (sym j))
    | turned r i j l m ↦ back k (subst IsRole (sym i) tt) (l ∙ ap (λ z. Successor z k) (sym m))
  ]

  -- a step between properties is undone
  narrow : (p q q' : Prop) (t u x y : Element) (f : Fact Element) → Unspecialised p → States tbox q' q → f ≡ pair_fact q' x y → pair_fact p t u ≡ pair_fact q x y
      → ((r : Prop) → Unspecialised r → f ≡ pair_fact r t u → Filler r t u) → Filler p t u
  narrow p q q' t u x y f un c ef e again = elim (readings p q t u x y e) [
    | same i j m ↦ (
        let like : AreEquivalent tbox p q = subst (AreEquivalent tbox p) i (equivalent_itself tbox p) in
        let eq : AreEquivalent tbox q' p = equivalent_join tbox q' q p (unspecialised_states tbox q' q p c (inl like) un) (equivalent_turned tbox p q like) in
        filler_join p q' t u eq (again q' (λ s. un (specialised_join tbox p q' (equivalent_turned tbox q' p eq) s)) (ef ∙ ap (λ z. pair_fact q' z y) (sym j) ∙ ap (pair_fact q' t) (sym m)))
        )
    | turned r i j l m ↦ over r i j l m q' c ef
  ]
    where
      over : (r : RoleExpr) → p ≡ PRole (inverse_role r) → q ≡ PRole r → t ≡ y → u ≡ x → (q' : Prop) → States tbox q' q → f ≡ pair_fact q' x y → Filler p t u
      over r i j l m (PAttr v) c ef = absurd (let d : States tbox (PAttr v) (PRole r) = subst (States tbox (PAttr v)) j c in d)
      over r i j l m (PRole s) c ef =
          let q_is : inverse (PRole r) ≡ p = sym i in
          let like : AreEquivalent tbox p (inverse q) = subst (λ z. AreEquivalent tbox p (inverse z)) (sym j) (subst (AreEquivalent tbox p) i (equivalent_itself tbox p)) in
          let wide : AreEquivalent tbox (PRole s) q = unspecialised_states tbox (PRole s) q p c (inr like) un in
          let eq : AreEquivalent tbox (PRole (inverse_role s)) p = equivalent_join tbox (PRole (inverse_role s)) (inverse q) p (equivalent_inverse tbox (PRole s) q wide) (equivalent_turned tbox p (inverse q) like) in
          filler_join p (PRole (inverse_role s)) t u eq
          (again (PRole (inverse_role s)) (λ w. un (specialised_join tbox p (PRole (inverse_role s)) (equivalent_turned tbox (PRole (inverse_role s)) p eq) w))
          (ef ∙ sym (pair_turned s y x) ∙ ap (λ z. pair_fact (PRole (inverse_role s)) z x) (sym l) ∙ ap (pair_fact (PRole (inverse_role s)) t) (sym m)))

  -- each filler comes from one of these
  pub filler : (f : Fact Element) → P f → (p : Prop) (t u : Element) → Unspecialised p → f ≡ pair_fact p t u → Filler p t u
  filler f (source s) p t u un e = let w = named_terms p t u s.fact (sym e ∙ s.is) in between w.0 w.1
  filler f (follows {f = g} h (FactStep.into_class b a x y c eg ef)) p t u un e = absurd (no_class p t u x a (sym e ∙ ef))
  filler f (follows {f = g} h (FactStep.adds b q k x y c eg ef)) p t u un e = made_filler p q b k t u x y c (subst P eg h) (sym e ∙ ef)
  filler f (follows {f = g} h (FactStep.ends b r a k x y c eg ef)) p t u un e = absurd (no_class p t u (Successor x k) a (sym e ∙ ef))
  filler f (follows {f = g} h (FactStep.widens q' q x y c eg ef)) p t u un e = narrow p q q' t u x y g un c eg (sym e ∙ ef) (λ r ur er. filler g h r t u ur er)

  -- what a kept successor says of a number with an unspecialised property
  pub kept_free : (k : ℕ) (q : Prop) (t : Element) → Unspecialised q → Needs tbox P k q t → IsKept tbox P (Successor t k) → IsFree tbox P k q t
  kept_free k q t un n kept =
      let g = kept.1 in
      let one = one_adding ls numbered g.needs.left n.left g.prop q k g.needs.stated n.stated in
      subst (λ z. IsFree tbox P k z t) one.prop (g.free (subst Unspecialised (sym one.prop) un))

  -- two fillers of one element are one, or all three are named
  abbrev pub OneOrNamed : Element → Element → Element → Type 0
  OneOrNamed t u v = (IsNamed t × (IsNamed u × IsNamed v)) ⊎ (u ≡ v)

  module _ (p : Prop) (t u v : Element) (un : Unspecialised p) (hu : P (pair_fact p t u)) (hv : P (pair_fact p t v)) (ku : IsKept tbox P u) (kv : IsKept tbox P v) where
    free : (k : ℕ) (q : Prop) (x : Element) → AreEquivalent tbox q p → Needs tbox P k q t → x ≡ Successor t k → IsKept tbox P x → IsFree tbox P k q t
    free k q x e n i kept = kept_free k q t (λ s. un (specialised_join tbox p q (equivalent_turned tbox q p e) s)) n (subst (IsKept tbox P) i kept)

    to_q : (q : Prop) (x : Element) → AreEquivalent tbox q p → P (pair_fact p t x) → P (pair_fact q t x)
    to_q q x e h = below_holds tbox F p q t x e.1 h

    no_named_at : (k : ℕ) (q : Prop) (x : Element) → AreEquivalent tbox q p → IsFree tbox P k q t → P (pair_fact p t x) → IsNamed x → ⊥
    no_named_at k q x e f h (n, i) = f.no_named n (subst (λ z. P (pair_fact q t z)) i (to_q q x e h))

    made_made : (k j : ℕ) (q r : Prop) → AreEquivalent tbox q p → AreEquivalent tbox r p → Needs tbox P k q t → Needs tbox P j r t → u ≡ Successor t k → v ≡ Successor t j → u ≡ v
    made_made k j q r e f n m i l = elim (cases_order k j) [
      | inl z ↦ i ∙ ap (Successor t) z ∙ sym l
      | inr d ↦ elim d [
        | inl less ↦ absurd ((free j r v f m l kv).no_smaller k q less (equivalent_join tbox q p r e (equivalent_turned tbox r p f)) n)
        | inr more ↦ absurd ((free k q u e n i ku).no_smaller j r more (equivalent_join tbox r p q f (equivalent_turned tbox q p e)) m)
      ]
    ]

    one_of : Filler p t u → Filler p t v → OneOrNamed t u v
    one_of (between m n) (between m' n') = inl (m, (n, n'))
    one_of (between m n) (made k q e needs i) = absurd (no_named_at k q u e (free k q v e needs i kv) hu n)
    one_of (between m n) (back k r i) = absurd (named_no_successor t v k m i)
    one_of (made k q e needs i) (between m n) = absurd (no_named_at k q v e (free k q u e needs i ku) hv n)
    one_of (made k q e needs i) (made j r f needs' l) = inr (made_made k j q r e f needs needs' i l)
    one_of (made k q e needs i) (back j r l) = absurd ((free k q u e needs i ku).no_parent v (j, l) (to_q q v e hv))
    one_of (back k r i) (between m n) = absurd (named_no_successor t u k m i)
    one_of (back k r i) (made j q e needs l) = absurd ((free j q v e needs l kv).no_parent u (k, i) (to_q q u e hu))
    one_of (back k r i) (back j r' l) = let z : Successor u k ≡ Successor v j = sym i ∙ l in let w : u ≡ v = cc in inr w

    -- a kept element has one kept filler by an unspecialised property, or those between named terms
    pub one_filler : OneOrNamed t u v
    one_filler = one_of (filler (pair_fact p t u) hu p t u un refl) (filler (pair_fact p t v) hv p t v un refl)
