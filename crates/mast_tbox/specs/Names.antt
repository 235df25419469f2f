-- Names of axioms and constraints, and their ranges: those that documents may use, and the auxiliary roles of a TBox.
use Rattle.std.specs.Prelude.{◌≡◌, ℕ, ◌+◌, ◌<◌, List, Option, Some, None, Bool, true, Contains, ◌⊎◌}
use Rattle.std.specs.List.{AllByRecursion}
use Rattle.mast_terms.specs.declared.name.Name.{Name}
use Rattle.mast_terms.specs.declared.name.NameKind.{NameKind}
use Rattle.mast_terms.specs.declared.name.NameKind.TheVariants as kinds
use Rattle.mast_cq.specs.declared.atom.Atom.{Atom}
use Rattle.mast_cq.specs.declared.atom.Atom.TheVariants.{Class, Role, Attr}
use Rattle.mast_cq.specs.Origins.{Named}
use Rattle.mast_tbox.specs.declared.expression.RoleExpr.{RoleExpr}
use Rattle.mast_tbox.specs.declared.expression.RoleExpr.TheVariants.{Direct, Inverse}
use Rattle.mast_tbox.specs.declared.expression.Basic.{Basic}
use Rattle.mast_tbox.specs.declared.expression.Basic.TheVariants.{Class as BClass, Some as BSome, Subjects}
use Rattle.mast_tbox.specs.declared.expression.Prop.{Prop}
use Rattle.mast_tbox.specs.declared.expression.Prop.TheVariants.{Role as PRole, Attr as PAttr}
use Rattle.mast_tbox.specs.declared.axiom.Inclusion.{Inclusion}
use Rattle.mast_tbox.specs.declared.axiom.Inclusion.TheVariants.{Class as IClass, Exists, HasValue, Role as IRole, Attr as IAttr, Range}
use Rattle.mast_tbox.specs.declared.axiom.Negative.{Negative}
use Rattle.mast_tbox.specs.declared.axiom.Negative.TheVariants.{Concepts, Roles, Attrs, Irreflexive}
use Rattle.mast_tbox.specs.declared.constraint.Constraint.{Constraint}
use Rattle.mast_tbox.specs.declared.constraint.Constraint.TheVariants.{Functional, Identify, Deny}
use Rattle.mast_tbox.specs.declared.constraint.Step.{Step}
use Rattle.mast_tbox.specs.declared.constraint.Step.TheVariants as step
use Rattle.mast_tbox.specs.Inclusions.{first_auxiliary, auxiliary}

-- P holds of the kind and the number of the expression's name
abbrev pub RoleNamed : (NameKind → ℕ → Type 0) → RoleExpr → Type 0
RoleNamed P (Direct p) = P kinds.Role p.0
RoleNamed P (Inverse p) = P kinds.Role p.0

-- it does of the property's name
abbrev pub PropNamed : (NameKind → ℕ → Type 0) → Prop → Type 0
PropNamed P (PRole r) = RoleNamed P r
PropNamed P (PAttr u) = P kinds.Attr u.0

-- it does of the basic concept's name
abbrev pub BasicNamed : (NameKind → ℕ → Type 0) → Basic → Type 0
BasicNamed P (BClass a) = P kinds.Class a.0
BasicNamed P (BSome r) = RoleNamed P r
BasicNamed P (Subjects u) = P kinds.Attr u.0

-- it does of the name of the class that an end is in, if there is one
abbrev pub EndNamed : (NameKind → ℕ → Type 0) → Option Name → Type 0
EndNamed P None = Unit {0}
EndNamed P (Some a) = P kinds.Class a.0

-- it does of the names of the inclusion
abbrev pub InclusionNamed : (NameKind → ℕ → Type 0) → Inclusion → Type 0
InclusionNamed P (IClass b a) = BasicNamed P b × P kinds.Class a.0
InclusionNamed P (Exists b r end k) = BasicNamed P b × (RoleNamed P r × EndNamed P end)
InclusionNamed P (HasValue b u k) = BasicNamed P b × P kinds.Attr u.0
InclusionNamed P (IRole r s) = RoleNamed P r × RoleNamed P s
InclusionNamed P (IAttr u v) = P kinds.Attr u.0 × P kinds.Attr v.0
InclusionNamed P (Range u kind) = P kinds.Attr u.0

-- it does of the names of what is disjoint or irreflexive
abbrev pub NegativeNamed : (NameKind → ℕ → Type 0) → Negative → Type 0
NegativeNamed P (Concepts b c) = BasicNamed P b × BasicNamed P c
NegativeNamed P (Roles r s) = RoleNamed P r × RoleNamed P s
NegativeNamed P (Attrs u v) = P kinds.Attr u.0 × P kinds.Attr v.0
NegativeNamed P (Irreflexive p) = P kinds.Role p.0

-- it does of the name of the step
abbrev pub StepNamed : (NameKind → ℕ → Type 0) → Step → Type 0
StepNamed P (step.Role r) = RoleNamed P r
StepNamed P (step.Test a) = P kinds.Class a.0
StepNamed P (step.Attr u) = P kinds.Attr u.0

-- it does of the names of the constraint
abbrev pub ConstraintNamed : (NameKind → ℕ → Type 0) → Constraint → Type 0
ConstraintNamed P (Functional p) = PropNamed P p
ConstraintNamed P (Identify concept paths) = BasicNamed P concept × AllByRecursion (AllByRecursion (StepNamed P)) paths
ConstraintNamed P (Deny atoms) = AllByRecursion (Named P) atoms

-- it does of the names of all inclusions
abbrev pub AreNamed : (NameKind → ℕ → Type 0) → List Inclusion → Type 0
AreNamed P tbox = (i : Inclusion) → Contains tbox i → InclusionNamed P i

-- the number is that of a name that documents may use, of any kind
abbrev pub IsStatable : NameKind → ℕ → Type 0
IsStatable kind n = n < first_auxiliary

-- the name is one that documents may use
abbrev pub InRange : Name → Type 0
InRange n = n.0 < first_auxiliary

-- the name of the property is
abbrev pub PropInRange : Prop → Type 0
PropInRange = PropNamed IsStatable

-- the names of all inclusions are
abbrev pub AreInRange : List Inclusion → Type 0
AreInRange = AreNamed IsStatable

-- the role is the auxiliary one of a qualified inclusion of the TBox
pub record IsAuxiliary (tbox : List Inclusion) (p : Name) : Type 0 where
  pub sub : Basic
  pub role : RoleExpr
  pub end : Name
  pub number : ℕ
  pub stands : Contains tbox (Exists sub role (Some end) number)
  pub is : p ≡ auxiliary number

-- the auxiliary roles of the TBox pass the test
abbrev pub AuxiliariesPass : (NameKind → ℕ → Bool) → List Inclusion → Type 0
AuxiliariesPass test tbox = (p : Name) → IsAuxiliary tbox p → test kinds.Role p.0 ≡ true

-- the atom's name is in range, or is an auxiliary role of the TBox
abbrev pub AtomInRange : List Inclusion → Atom → Type 0
AtomInRange tbox (Class a x) = InRange a
AtomInRange tbox (Role p x y) = InRange p ⊎ IsAuxiliary tbox p
AtomInRange tbox (Attr u x y) = InRange u

-- more than the number of each name of a kind, where fewer existential inclusions than the count are numbered
abbrev pub name_bounds : ℕ → NameKind → ℕ
name_bounds count kinds.Class = first_auxiliary
name_bounds count kinds.Role = first_auxiliary + count
name_bounds count kinds.Attr = first_auxiliary
