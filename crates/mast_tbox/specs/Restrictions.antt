-- Restrictions: which properties are specialised, and the first breach.
use Rattle.std.specs.Prelude.{◌≡◌, List, [], ◌∷◌, Option, Some, None, Contains, ◌⊎◌}
use Rattle.mast_tree.specs.declared.document.DocName.TheVariants.{Ontology, Constraints}
use Rattle.mast_cq.specs.Sorts.{IsFirst}
use Rattle.mast_tbox.specs.declared.expression.Prop.{Prop}
use Rattle.mast_tbox.specs.declared.expression.Prop.TheVariants.{Role as PRole, Attr as PAttr}
use Rattle.mast_tbox.specs.declared.axiom.Inclusion.{Inclusion}
use Rattle.mast_tbox.specs.declared.axiom.Inclusion.TheVariants.{Class as IClass, Exists, HasValue, Role as IRole, Attr as IAttr, Range}
use Rattle.mast_tbox.specs.declared.axiom.Lined.{Lined}
use Rattle.mast_tbox.specs.declared.constraint.Step.{Step}
use Rattle.mast_tbox.specs.declared.constraint.Step.TheVariants.{Role as SRole, Test, Attr as SAttr}
use Rattle.mast_tbox.specs.declared.constraint.Constraint.{Constraint}
use Rattle.mast_tbox.specs.declared.constraint.Constraint.TheVariants.{Functional, Identify, Deny}
use Rattle.mast_tbox.specs.declared.restriction.RestrictionKind.{RestrictionKind}
use Rattle.mast_tbox.specs.declared.restriction.RestrictionKind.TheVariants.{FunctSpecialised, NotLocal, AnchorSpecialised}
use Rattle.mast_tbox.specs.declared.restriction.RestrictionBreach.{RestrictionBreach}
use Rattle.mast_tbox.specs.Expressions.{inverse}
use Rattle.mast_tbox.specs.Lists.{items}
use Rattle.mast_tbox.specs.Properties.{AreEquivalent}

-- the property is equivalent to the other or to its inverse
abbrev pub IsLike : List Inclusion → Prop → Prop → Type 0
IsLike tbox p q = AreEquivalent tbox p q ⊎ AreEquivalent tbox p (inverse q)

-- the inclusion specialises the property: it states something narrower that is not equivalent, or it is a qualified one
abbrev pub Specialises : List Inclusion → Inclusion → Prop → Type 0
Specialises tbox (IClass b a) p = ⊥
Specialises tbox (Exists b r None k) p = ⊥
Specialises tbox (Exists b r (Some a) k) p = IsLike tbox p (PRole r)
Specialises tbox (HasValue b u k) p = ⊥
Specialises tbox (IRole r s) p = (AreEquivalent tbox (PRole r) (PRole s) → ⊥) × IsLike tbox p (PRole s)
Specialises tbox (IAttr u v) p = (AreEquivalent tbox (PAttr u) (PAttr v) → ⊥) × IsLike tbox p (PAttr v)
Specialises tbox (Range u kind) p = ⊥

-- something in the ontology specialises the property
abbrev pub IsSpecialised : List Inclusion → Prop → Type 0
IsSpecialised tbox p = (i : Inclusion) × (Contains tbox i × Specialises tbox i p)

-- the property is functional, by the ontology or by a constraint
abbrev pub IsFunctional : List (Lined Prop) → List (Lined Constraint) → Prop → Type 0
IsFunctional functional constraints p = Contains (items functional) p ⊎ Contains (items constraints) (Functional p)

-- the inclusion specialises a functional property
abbrev pub SpecialisesFunctional : List Inclusion → (Prop → Type 0) → Lined Inclusion → Type 0
SpecialisesFunctional tbox F l = (p : Prop) × (F p × Specialises tbox l.item p)

-- the roles, inverse roles and attributes of a path, in order; their number is the path's length
abbrev pub along : List Step → List Prop
along [] = []
along (SRole r ∷ steps) = PRole r ∷ along steps
along (Test a ∷ steps) = along steps
along (SAttr u ∷ steps) = PAttr u ∷ along steps

-- the property of a path of length 1
abbrev pub single : List Prop → Option Prop
single [] = None
single (p ∷ []) = Some p
single (p ∷ q ∷ more) = None

-- the property, if there is one, and then the list
abbrev pub with_first : Option Prop → List Prop → List Prop
with_first None ps = ps
with_first (Some p) ps = p ∷ ps

-- the properties of the paths of length 1
abbrev pub anchors : List (List Step) → List Prop
anchors [] = []
anchors (path ∷ paths) = with_first (single (along path)) (anchors paths)

-- there are such properties, and each is specialised
abbrev pub AllSpecialised : List Inclusion → List Prop → Type 0
AllSpecialised tbox [] = ⊥
AllSpecialised tbox (p ∷ ps) = (q : Prop) → Contains (p ∷ ps) q → IsSpecialised tbox q

-- how an identification breaches: it has no path of length 1, or each one's property is specialised
abbrev pub Breaches : List Inclusion → RestrictionKind → Constraint → Type 0
Breaches tbox FunctSpecialised c = ⊥
Breaches tbox NotLocal (Functional p) = ⊥
Breaches tbox NotLocal (Identify b paths) = anchors paths ≡ []
Breaches tbox NotLocal (Deny atoms) = ⊥
Breaches tbox AnchorSpecialised (Functional p) = ⊥
Breaches tbox AnchorSpecialised (Identify b paths) = AllSpecialised tbox (anchors paths)
Breaches tbox AnchorSpecialised (Deny atoms) = ⊥

-- none of the list has the property
abbrev pub NoneOf : {X : Type 0} → (X → Type 0) → List X → Type 0
NoneOf {X} P xs = (x : X) → Contains xs x → P x → ⊥

-- no axiom specialises a functional property
abbrev pub NoAxiom : List (Lined Inclusion) → (Prop → Type 0) → Type 0
NoAxiom inclusions F = NoneOf (SpecialisesFunctional (items inclusions) F) inclusions

-- the breach is the first axiom that specialises a functional property
pub record IsAxiomBreach (inclusions : List (Lined Inclusion)) (F : Prop → Type 0) (b : RestrictionBreach) : Type 0 where
  pub line : Lined Inclusion
  pub first : IsFirst (SpecialisesFunctional (items inclusions) F) inclusions line
  pub is : b ≡ record { doc = Ontology; line = line.line; kind = FunctSpecialised }

-- some kind of breach is one of the constraint
abbrev pub BreachesSome : List Inclusion → Lined Constraint → Type 0
BreachesSome tbox l = (kind : RestrictionKind) × Breaches tbox kind l.item

-- the breach is the first constraint that has one
pub record IsConstraintBreach (tbox : List Inclusion) (constraints : List (Lined Constraint)) (b : RestrictionBreach) : Type 0 where
  pub line : Lined Constraint
  pub first : IsFirst (BreachesSome tbox) constraints line
  pub breaches : Breaches tbox b.kind line.item
  pub is : b ≡ record { doc = Constraints; line = line.line; kind = b.kind }

-- the restriction breach: the first axiom that specialises a functional property, and if there is none the first
-- identification that breaches
abbrev pub IsRestrictionBreach : List (Lined Inclusion) → List (Lined Prop) → List (Lined Constraint) → Option RestrictionBreach → Type 0
IsRestrictionBreach inclusions functional constraints None =
    NoAxiom inclusions (IsFunctional functional constraints) × NoneOf (BreachesSome (items inclusions)) constraints
IsRestrictionBreach inclusions functional constraints (Some b) =
    IsAxiomBreach inclusions (IsFunctional functional constraints) b
    ⊎ (NoAxiom inclusions (IsFunctional functional constraints) × IsConstraintBreach (items inclusions) constraints b)
