-- Worlds: interpretations in which all that a specification and its facts say is true.
use Rattle.std.specs.Prelude.{◌≡◌, List, [], Contains, Option, Some, None}
use Rattle.std.specs.List.{AllByRecursion}
use Rattle.mast_terms.specs.declared.name.Name.{Name}
use Rattle.mast_terms.specs.declared.term.Term.{Term}
use Rattle.mast_terms.specs.declared.term.Term.TheVariants as term
use Rattle.mast_terms.specs.declared.value.Value.{Value}
use Rattle.mast_tables.specs.Whole.{value_kind}
use Rattle.mast_cq.specs.declared.atom.Atom.{Atom}
use Rattle.mast_cq.specs.Meanings.{Fact, HasTuple}
use Rattle.mast_tbox.specs.declared.axiom.Inclusion.{Inclusion}
use Rattle.mast_tbox.specs.declared.axiom.Inclusion.TheVariants.{Class as IClass, Exists, HasValue, Role as IRole, Attr as IAttr, Range}
use Rattle.mast_tbox.specs.declared.axiom.Negative.{Negative}
use Rattle.mast_tbox.specs.declared.axiom.Negative.TheVariants.{Concepts, Roles, Attrs, Irreflexive}
use Rattle.mast_tbox.specs.declared.constraint.Constraint.TheVariants.{Identify, Deny}
use Rattle.mast_tbox.specs.declared.constraint.Step.{Step}
use Rattle.mast_tbox.specs.declared.expression.Basic.{Basic}
use Rattle.mast_tbox.specs.declared.expression.Prop.{Prop}
use Rattle.mast_tbox.specs.declared.expression.Prop.TheVariants.{Role as PRole, Attr as PAttr}
use Rattle.mast_tbox.specs.Lists.{items}
use Rattle.mast_tbox.specs.Restrictions.{IsFunctional}
use Rattle.mast_canon.specs.Elements.{map_fact}
use Rattle.mast_canon.specs.Interpretations.{Interpretation, IsTrue, constant_by}
use Rattle.mast_canon.specs.Memberships.{pair_fact, IsIn, ShareEnd}
use Rattle.mast_canon.specs.NoModels.{asks}
use Rattle.mast_canon.specs.Theories.{Theory, stated}

module _ {X : Type 0} (w : Interpretation X) where
  -- the element is in the class, where there is one
  abbrev pub IsInEnd : Option Name → X → Type 0
  IsInEnd None e = Unit {0}
  IsInEnd (Some a) e = w.class a e

  -- each pair of the first property is one of the second
  abbrev pub Widens : Prop → Prop → Type 0
  Widens p q = (e f : X) → IsTrue w (pair_fact p e f) → IsTrue w (pair_fact q e f)

  -- the inclusion is true: by an existential one each member of its left side has the filler of its number, in its class. A range is true where
  -- each value of the attribute has the kind
  abbrev pub Obeys : Inclusion → Type 0
  Obeys (IClass b a) = (e : X) → IsIn (IsTrue w) b e → w.class a e
  Obeys (Exists b r end k) = (e : X) → IsIn (IsTrue w) b e → IsTrue w (pair_fact (PRole r) e (w.fill k e)) × IsInEnd end (w.fill k e)
  Obeys (HasValue b u k) = (e : X) → IsIn (IsTrue w) b e → w.attr u e (w.fill k e)
  Obeys (IRole r s) = Widens (PRole r) (PRole s)
  Obeys (IAttr u v) = Widens (PAttr u) (PAttr v)
  Obeys (Range u kind) = (e v : X) → w.attr u e v → w.kind v ≡ Some kind

  -- no element has two fillers or values by the property
  abbrev pub HasOneFiller : Prop → Type 0
  HasOneFiller p = (e f g : X) → IsTrue w (pair_fact p e f) → IsTrue w (pair_fact p e g) → f ≡ g

  -- elements of the concept that share an end on every path are one
  abbrev pub IsIdentified : Basic → List (List Step) → Type 0
  IsIdentified b paths = (e f : X) → IsIn (IsTrue w) b e → IsIn (IsTrue w) b f → AllByRecursion (ShareEnd (IsTrue w) e f) paths → e ≡ f

  -- no element is in both concepts, no pair is one of both properties, and no element is related to itself
  abbrev pub IsApart : Negative → Type 0
  IsApart (Concepts left right) = (e : X) → IsIn (IsTrue w) left e → IsIn (IsTrue w) right e → ⊥
  IsApart (Roles left right) = (e f : X) → IsTrue w (pair_fact (PRole left) e f) → IsTrue w (pair_fact (PRole right) e f) → ⊥
  IsApart (Attrs left right) = (e f : X) → w.attr left e f → w.attr right e f → ⊥
  IsApart (Irreflexive role) = (e : X) → w.role role e e → ⊥

  -- a world of the theory and the facts of F
  pub record IsWorld (theory : Theory) (F : Fact Term → Type 0) : Type 0 where
    pub names_differ : (t u : Term) → w.named t ≡ w.named u → t ≡ u
    pub values_have_kinds : (v : Value) → w.kind (w.named (term.Value v)) ≡ Some (value_kind v)
    pub facts_are_true : (f : Fact Term) → F f → IsTrue w (map_fact w.named f)
    pub obeys : (i : Inclusion) → Contains (stated theory) i → Obeys i
    pub keeps_apart : (n : Negative) → Contains (items theory.negatives) n → IsApart n
    pub functional : (p : Prop) → IsFunctional theory.functional theory.constraints p → HasOneFiller p
    pub identified : (b : Basic) (paths : List (List Step)) → Contains (items theory.constraints) (Identify b paths) → IsIdentified b paths
    pub denied : (atoms : List Atom) → Contains (items theory.constraints) (Deny atoms) → HasTuple (constant_by w theory) (IsTrue w) (asks atoms) [] → ⊥
