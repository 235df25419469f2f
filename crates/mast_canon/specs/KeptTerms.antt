-- Kept terms: which elements the kept interpretation has, and which element is the filler of a number there.
use Rattle.std.specs.Prelude.{◌≡◌, ℕ, ◌<◌, List, ◌⊎◌}
use Rattle.std.specs.declared.cmp.Ordering.TheVariants.{Less}
use Rattle.mast_terms.specs.declared.term.Term.{Term}
use Rattle.mast_terms.specs.Orders.{term_order}
use Rattle.mast_cq.specs.Meanings.{Fact}
use Rattle.mast_tbox.specs.declared.axiom.Inclusion.{Inclusion}
use Rattle.mast_tbox.specs.declared.expression.Basic.{Basic}
use Rattle.mast_tbox.specs.declared.expression.Prop.{Prop}
use Rattle.mast_tbox.specs.Inclusions.{Adds}
use Rattle.mast_tbox.specs.Properties.{AreEquivalent}
use Rattle.mast_tbox.specs.Restrictions.{IsSpecialised}
use Rattle.mast_canon.specs.Elements.{Element, Named, Successor}
use Rattle.mast_canon.specs.Memberships.{pair_fact, IsIn}

-- the first relation says it, or the second does and the first says it of none
abbrev pub FirstOf : {X : Type 0} → (X → Type 0) → (X → Type 0) → X → Type 0
FirstOf {X} P Q x = P x ⊎ (((y : X) → P y → ⊥) × Q x)

module _ (tbox : List Inclusion) (P : Fact Element → Type 0) where
  -- the element is in the left side of the number k, whose property is p
  pub record Needs (k : ℕ) (p : Prop) (t : Element) : Type 0 where
    pub left : Basic
    pub stated : Adds tbox left p k
    pub is_in : IsIn P left t

  -- the element u is a p-filler of t
  abbrev pub IsFiller : Prop → Element → Element → Type 0
  IsFiller p t u = P (pair_fact p t u)

  -- t is a successor, and u the element whose successor it is
  abbrev pub IsParent : Element → Element → Type 0
  IsParent t u = (k : ℕ) × (t ≡ Successor u k)

  -- no named term and no parent of t is a p-filler of it, and no smaller number with an equivalent property has t in its left side
  pub record IsFree (k : ℕ) (p : Prop) (t : Element) : Type 0 where
    pub no_named : (u : Term) → IsFiller p t (Named u) → ⊥
    pub no_parent : (u : Element) → IsParent t u → IsFiller p t u → ⊥
    pub no_smaller : (j : ℕ) (q : Prop) → j < k → AreEquivalent tbox q p → Needs j q t → ⊥

  -- t gets a successor by the number k: it is in its left side and, where the property is unspecialised, nothing stands in for the successor
  pub record Gets (k : ℕ) (t : Element) : Type 0 where
    pub prop : Prop
    pub needs : Needs k prop t
    pub free : (IsSpecialised tbox prop → ⊥) → IsFree k prop t

  -- named terms are kept, and each successor that a kept element gets
  abbrev pub IsKept : Element → Type 0
  IsKept (Named t) = Unit {0}
  IsKept (Successor t k) = IsKept t × Gets k t

  -- the kept successor of t by the number k
  abbrev pub IsOwn : ℕ → Element → Element → Type 0
  IsOwn k t u = (u ≡ Successor t k) × IsKept u

  -- the named p-filler of t that is least in the order of terms
  pub record IsLeastNamed (p : Prop) (t u : Element) : Type 0 where
    pub term : Term
    pub is : u ≡ Named term
    pub fills : IsFiller p t u
    pub least : (other : Term) → IsFiller p t (Named other) → term_order other term ≡ Less → ⊥

  -- the parent of t, where it is a p-filler of t
  abbrev pub IsParentFiller : Prop → Element → Element → Type 0
  IsParentFiller p t u = IsParent t u × IsFiller p t u

  -- the kept successor of t by the least number whose property is equivalent to p
  pub record IsLeastOwn (p : Prop) (t u : Element) : Type 0 where
    pub number : ℕ
    pub prop : Prop
    pub alike : AreEquivalent tbox prop p
    pub needs : Needs number prop t
    pub own : IsOwn number t u
    pub least : (j : ℕ) (q : Prop) (v : Element) → j < number → AreEquivalent tbox q p → Needs j q t → IsOwn j t v → ⊥

  -- u fills t for the number k, whose property is p: its own successor, else the least named filler, else the parent, else the successor by another number
  abbrev pub Fills : ℕ → Prop → Element → Element → Type 0
  Fills k p t = FirstOf (IsOwn k t) (FirstOf (IsLeastNamed p t) (FirstOf (IsParentFiller p t) (IsLeastOwn p t)))

  -- the filler of a kept t in the left side of k
  pub record IsFound (k : ℕ) (t u : Element) : Type 0 where
    pub kept : IsKept t
    pub prop : Prop
    pub needs : Needs k prop t
    pub fills : Fills k prop t u

  -- the filler of the number k for t; t itself where there is none
  abbrev pub IsFill : ℕ → Element → Element → Type 0
  IsFill k t = FirstOf (IsFound k t) (λ u. u ≡ t)
