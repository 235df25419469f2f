-- No model: what facts that hold can break, and the origins of what is broken.
use Rattle.std.specs.Prelude.{◌≡◌, ◌≢◌, ℕ, List, [], ◌∷◌, ◌++◌, Contains}
use Rattle.std.specs.List.{AllByRecursion}
use Rattle.mast_terms.specs.declared.name.Name.{Name}
use Rattle.mast_terms.specs.declared.term.Term.{Term}
use Rattle.mast_terms.specs.declared.term.Term.TheVariants as term
use Rattle.mast_terms.specs.declared.value.Kind.{Kind}
use Rattle.mast_terms.specs.declared.value.Value.{Value}
use Rattle.mast_tree.specs.declared.document.DocName.{DocName}
use Rattle.mast_tree.specs.declared.document.DocName.TheVariants as doc
use Rattle.mast_tables.specs.Whole.{value_kind}
use Rattle.mast_cq.specs.declared.atom.Atom.{Atom}
use Rattle.mast_cq.specs.declared.query.Cq.{Cq}
use Rattle.mast_cq.specs.Meanings.{Fact, InRole, InAttr, HasTuple}
use Rattle.mast_tbox.specs.declared.axiom.Inclusion.{Inclusion}
use Rattle.mast_tbox.specs.declared.axiom.Inclusion.TheVariants.{Range}
use Rattle.mast_tbox.specs.declared.axiom.Lined.{Lined}
use Rattle.mast_tbox.specs.declared.axiom.Negative.{Negative}
use Rattle.mast_tbox.specs.declared.axiom.Negative.TheVariants.{Concepts, Roles, Attrs, Irreflexive}
use Rattle.mast_tbox.specs.declared.constraint.Constraint.{Constraint}
use Rattle.mast_tbox.specs.declared.constraint.Constraint.TheVariants.{Functional, Identify, Deny}
use Rattle.mast_tbox.specs.declared.constraint.Step.{Step}
use Rattle.mast_tbox.specs.declared.expression.Basic.{Basic}
use Rattle.mast_tbox.specs.declared.expression.Prop.{Prop}
use Rattle.mast_tbox.specs.declared.expression.Prop.TheVariants.{Role as PRole, Attr as PAttr}
use Rattle.mast_tbox.specs.Lists.{items}
use Rattle.mast_canon.specs.declared.origin.Ground.{Ground}
use Rattle.mast_canon.specs.declared.origin.Ground.TheVariants as grounds
use Rattle.mast_canon.specs.declared.origin.Origin.{Origin}
use Rattle.mast_canon.specs.CertainAnswers.{HoldsBy, constant_in}
use Rattle.mast_canon.specs.Elements.{Element, Named}
use Rattle.mast_canon.specs.Memberships.{pair_fact, IsIn, ShareEnd}
use Rattle.mast_canon.specs.Theories.{Theory}

-- the query without answers that asks whether the atoms hold
abbrev pub asks : List Atom → Cq
asks atoms = record { answer = []; atoms = atoms }

-- some term, or some pair, stands in both expressions of the negative, or a term is related to itself
abbrev pub BreaksNegative : {X : Type 0} → (Fact X → Type 0) → Negative → Type 0
BreaksNegative {X} P (Concepts left right) = (t : X) × (IsIn P left t × IsIn P right t)
BreaksNegative {X} P (Roles left right) = (t : X) × ((u : X) × (P (pair_fact (PRole left) t u) × P (pair_fact (PRole right) t u)))
BreaksNegative {X} P (Attrs left right) = (t : X) × ((u : X) × (P (pair_fact (PAttr left) t u) × P (pair_fact (PAttr right) t u)))
BreaksNegative {X} P (Irreflexive role) = (t : X) × P (InRole role t t)

-- a value of the attribute is not of the kind, or is one of an attribute with an earlier range of another kind
pub data BreaksRange (P : Fact Element → Type 0) (earlier : List Inclusion) (attr : Name) (kind : Kind) : Type 0 where
  wrong : (t : Element) (v : Value) → P (InAttr attr t (Named (term.Value v))) → value_kind v ≢ kind → BreaksRange P earlier attr kind
  two : (other : Name) (its : Kind) (t s v : Element) → Contains earlier (Range other its) → its ≢ kind
      → P (InAttr attr t v) → P (InAttr other s v) → BreaksRange P earlier attr kind

-- a named term has two different named fillers or values by the property
pub record BreaksFunctional (P : Fact Element → Type 0) (prop : Prop) : Type 0 where
  pub subject : Term
  pub one : Term
  pub other : Term
  pub first : P (pair_fact prop (Named subject) (Named one))
  pub second : P (pair_fact prop (Named subject) (Named other))
  pub differ : one ≢ other

-- two different named terms are in the concept and share an end on every path
pub record BreaksIdentification (P : Fact Element → Type 0) (concept : Basic) (paths : List (List Step)) : Type 0 where
  pub one : Term
  pub other : Term
  pub first : IsIn P concept (Named one)
  pub second : IsIn P concept (Named other)
  pub share : AllByRecursion (ShareEnd P (Named one) (Named other)) paths
  pub differ : one ≢ other

-- the constraint is broken; a denial is where one assignment makes each of its atoms a fact
abbrev pub BreaksConstraint : Theory → (Fact Element → Type 0) → Constraint → Type 0
BreaksConstraint theory P (Functional prop) = BreaksFunctional P prop
BreaksConstraint theory P (Identify concept paths) = BreaksIdentification P concept paths
BreaksConstraint theory P (Deny atoms) = HasTuple (constant_in theory) P (asks atoms) []

-- the ground of a broken negative
abbrev pub negative_ground : Negative → Ground
negative_ground (Concepts left right) = grounds.Disjoint
negative_ground (Roles left right) = grounds.Disjoint
negative_ground (Attrs left right) = grounds.Disjoint
negative_ground (Irreflexive role) = grounds.Irreflexive

-- the ground of a broken constraint
abbrev pub constraint_ground : Constraint → Ground
constraint_ground (Functional prop) = grounds.Functional
constraint_ground (Identify concept paths) = grounds.Identify
constraint_ground (Deny atoms) = grounds.Deny

-- the origin of this ground, document and line
abbrev pub origin_of : (ground : Ground) (document : DocName) (line : ℕ) → Origin
origin_of why document line = record { ground = why; doc = document; line = line }

-- the facts with P break what has this origin: a negative, a range, a functionality assertion of the ontology, or a constraint
pub data Breaks (theory : Theory) (P : Fact Element → Type 0) (origin : Origin) : Type 0 where
  negative : (l : Lined Negative) → Contains theory.negatives l → BreaksNegative P l.item
      → origin ≡ origin_of (negative_ground l.item) doc.Ontology l.line → Breaks theory P origin
  range : (before after : List (Lined Inclusion)) (l : Lined Inclusion) (attr : Name) (kind : Kind) → theory.inclusions ≡ before ++ l ∷ after
      → l.item ≡ Range attr kind → BreaksRange P (items before) attr kind
      → origin ≡ origin_of grounds.ValueType doc.Ontology l.line → Breaks theory P origin
  functional : (l : Lined Prop) → Contains theory.functional l → BreaksFunctional P l.item
      → origin ≡ origin_of grounds.Functional doc.Ontology l.line → Breaks theory P origin
  constraint : (l : Lined Constraint) → Contains theory.constraints l → BreaksConstraint theory P l.item
      → origin ≡ origin_of (constraint_ground l.item) doc.Constraints l.line → Breaks theory P origin

-- By(F, origin): what has this origin is broken by the facts that hold
abbrev pub By : Theory → (Fact Term → Type 0) → Origin → Type 0
By theory F origin = Breaks theory (HoldsBy theory F) origin

-- NoModel(F): something is
abbrev pub NoModel : Theory → (Fact Term → Type 0) → Type 0
NoModel theory F = (origin : Origin) × By theory F origin
