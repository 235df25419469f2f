-- The kept interpretation: the facts that hold of kept elements, as a world.
use Rattle.std.specs.Prelude.{◌≡◌, ◌↔◌, ℕ, List, [], ◌∷◌, Option, Some, None, ◌⊎◌}
use Rattle.mast_terms.specs.declared.name.Name.{Name}
use Rattle.mast_terms.specs.declared.term.Term.{Term}
use Rattle.mast_terms.specs.declared.term.Term.TheVariants as term
use Rattle.mast_terms.specs.declared.value.Kind.{Kind}
use Rattle.mast_tables.specs.Whole.{value_kind}
use Rattle.mast_cq.specs.Meanings.{Fact, InClass, InRole, InAttr}
use Rattle.mast_tbox.specs.declared.axiom.Inclusion.{Inclusion}
use Rattle.mast_tbox.specs.declared.axiom.Inclusion.TheVariants.{Class as IClass, Exists, HasValue, Role as IRole, Attr as IAttr, Range}
use Rattle.mast_canon.specs.CertainAnswers.{HoldsBy}
use Rattle.mast_canon.specs.Elements.{Element, Named, Successor}
use Rattle.mast_canon.specs.Interpretations.{Interpretation, IsTrue}
use Rattle.mast_canon.specs.KeptTerms.{IsKept, IsFill}
use Rattle.mast_canon.specs.Theories.{Theory, stated}

-- P holds of each element of the fact
abbrev pub OfElements : {X : Type 0} → (X → Type 0) → Fact X → Type 0
OfElements P (InClass a t) = P t
OfElements P (InRole p t u) = P t × P u
OfElements P (InAttr u t v) = P t × P v

-- some element has v as a value of the attribute
abbrev pub IsValueOf : (Fact Element → Type 0) → Name → Element → Type 0
IsValueOf P u v = (t : Element) × P (InAttr u t v)

-- the kind of the first range whose attribute has v as a value; none where there is no such range
abbrev pub IsRangeKind : (Fact Element → Type 0) → Element → List Inclusion → Option Kind → Type 0
IsRangeKind P v [] kind = kind ≡ None
IsRangeKind P v (IClass b a ∷ is) kind = IsRangeKind P v is kind
IsRangeKind P v (Exists b r end k ∷ is) kind = IsRangeKind P v is kind
IsRangeKind P v (HasValue b u k ∷ is) kind = IsRangeKind P v is kind
IsRangeKind P v (IRole r s ∷ is) kind = IsRangeKind P v is kind
IsRangeKind P v (IAttr t u ∷ is) kind = IsRangeKind P v is kind
IsRangeKind P v (Range u its ∷ is) kind = (IsValueOf P u v × (kind ≡ Some its)) ⊎ ((IsValueOf P u v → ⊥) × IsRangeKind P v is kind)

-- the kind of an element: that of a named value, none of a named object, and that of the ranges of an unnamed one
abbrev pub IsKindOf : List Inclusion → (Fact Element → Type 0) → Element → Option Kind → Type 0
IsKindOf tbox P (Named (term.Value v)) kind = kind ≡ Some (value_kind v)
IsKindOf tbox P (Named (term.Object o)) kind = kind ≡ None
IsKindOf tbox P (Successor t k) kind = IsRangeKind P (Successor t k) tbox kind

-- the fact holds, and its elements are kept
abbrev pub IsKeptFact : Theory → (Fact Term → Type 0) → Fact Element → Type 0
IsKeptFact theory F f = HoldsBy theory F f × OfElements (IsKept (stated theory) (HoldsBy theory F)) f

-- Kept(F): the interpretation of the facts that hold of kept elements
pub record IsKeptWorld (w : Interpretation Element) (theory : Theory) (F : Fact Term → Type 0) : Type 0 where
  pub facts : (f : Fact Element) → IsTrue w f ↔ IsKeptFact theory F f
  pub names : (t : Term) → w.named t ≡ Named t
  pub kinds : (e : Element) → IsKindOf (stated theory) (HoldsBy theory F) e (w.kind e)
  pub fillers : (k : ℕ) (e : Element) → IsFill (stated theory) (HoldsBy theory F) k e (w.fill k e)
