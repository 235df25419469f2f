-- A specification is proper: what it keeps of its axioms and constraints is told whole.
use Rattle.std.proofs.Common.{ℕ, ◌≤◌, List, [], ◌∷◌, length, arith}
use Rattle.std.proofs.Math.Logic.{∥∥₁_elim}
use Rattle.std.specs.Coded.{×_prop, Π_prop, →_prop, Unit-prop, le_prop}
use Rattle.std.specs.List.{AllByRecursion}
use Rattle.mast_terms.specs.declared.name.NameKind.{NameKind}
use Rattle.mast_terms.specs.declared.name.NameKind.TheVariants as kinds
use Rattle.mast_terms.specs.Vocabularies.{Lists, IsVocabulary}
use Rattle.mast_cq.specs.declared.atom.Arg.{Arg}
use Rattle.mast_cq.specs.declared.atom.Arg.TheVariants as arg
use Rattle.mast_cq.specs.declared.atom.Atom.{Atom}
use Rattle.mast_cq.specs.declared.atom.Atom.TheVariants as atom
use Rattle.mast_cq.specs.Origins.{Named}
use Rattle.mast_cq.specs.Sorts.{EachHasOneSort}
use Rattle.mast_cq.specs.UnifierMeanings.{IsBelow, KnownArg, KnownAtom}
use Rattle.mast_tbox.specs.declared.axiom.Negative.{Negative}
use Rattle.mast_tbox.specs.declared.axiom.Negative.TheVariants.{Concepts, Roles, Attrs, Irreflexive}
use Rattle.mast_tbox.specs.declared.constraint.Constraint.{Constraint}
use Rattle.mast_tbox.specs.declared.constraint.Constraint.TheVariants.{Functional, Identify, Deny}
use Rattle.mast_tbox.specs.declared.constraint.Step.{Step}
use Rattle.mast_tbox.specs.declared.constraint.Step.TheVariants as step
use Rattle.mast_tbox.specs.declared.expression.Basic.{Basic}
use Rattle.mast_tbox.specs.declared.expression.Basic.TheVariants as basic
use Rattle.mast_tbox.specs.declared.expression.Prop.{Prop}
use Rattle.mast_tbox.specs.declared.expression.Prop.TheVariants as prop
use Rattle.mast_tbox.specs.declared.expression.RoleExpr.{RoleExpr}
use Rattle.mast_tbox.specs.declared.expression.RoleExpr.TheVariants.{Direct, Inverse}
use Rattle.mast_tbox.specs.declared.constraint.TheConstants.{MOST_ATOMS}
use Rattle.mast_tbox.specs.ConstraintForms.{IsAttributeLast, HasPathForm, steps_together, most_steps, HasForm}
use Rattle.mast_tbox.specs.Lists.{items}
use Rattle.mast_tbox.specs.Names.{IsStatable, RoleNamed, PropNamed, BasicNamed, NegativeNamed, StepNamed, ConstraintNamed}
use Rattle.mast_tbox.specs.Restrictions.{along}
use Rattle.mast_tbox.specs.Vocabularies.{ConstantsStandIn}
use Rattle.mast_tree.specs.Names.{StandsIn}
use Rattle.mast_canon.specs.declared.spec.Spec.{Spec}
use Rattle.mast_canon.specs.Theories.{theory_of}
use Rattle.mast_canon.proofs.SpecLemmas.{spec_stated}
use Rattle.mast_canon.proofs.SupportLemmas.{each_weaker}
use Rattle.mast_check.specs.DecidedLaws.{IsProper}

bottom_prop : IsProp ⊥
bottom_prop a b = absurd a

each_prop : {X : Type 0} (P : X → Type 0) → ((x : X) → IsProp (P x)) → (xs : List X) → IsProp (AllByRecursion P xs)
each_prop P k [] = Unit-prop
each_prop P k (x ∷ xs) = ×_prop (k x) (each_prop P k xs)

-- names in range
name_prop : (kind : NameKind) (n : ℕ) → IsProp (IsStatable kind n)
name_prop kind n = hlevel le_prop

role_prop : (r : RoleExpr) → IsProp (RoleNamed IsStatable r)
role_prop (Direct p) = name_prop kinds.Role p.0
role_prop (Inverse p) = name_prop kinds.Role p.0

prop_prop : (p : Prop) → IsProp (PropNamed IsStatable p)
prop_prop (prop.Role r) = role_prop r
prop_prop (prop.Attr u) = name_prop kinds.Attr u.0

basic_prop : (b : Basic) → IsProp (BasicNamed IsStatable b)
basic_prop (basic.Class a) = name_prop kinds.Class a.0
basic_prop (basic.Some r) = role_prop r
basic_prop (basic.Subjects v) = name_prop kinds.Attr v.0

negative_prop : (n : Negative) → IsProp (NegativeNamed IsStatable n)
negative_prop (Concepts b c) = ×_prop (basic_prop b) (basic_prop c)
negative_prop (Roles r s) = ×_prop (role_prop r) (role_prop s)
negative_prop (Attrs u v) = ×_prop (name_prop kinds.Attr u.0) (name_prop kinds.Attr v.0)
negative_prop (Irreflexive p) = name_prop kinds.Role p.0

step_prop : (s : Step) → IsProp (StepNamed IsStatable s)
step_prop (step.Role r) = role_prop r
step_prop (step.Test a) = name_prop kinds.Class a.0
step_prop (step.Attr u) = name_prop kinds.Attr u.0

atom_prop : (g : Atom) → IsProp (Named IsStatable g)
atom_prop (atom.Class a x) = name_prop kinds.Class a.0
atom_prop (atom.Role p x y) = name_prop kinds.Role p.0
atom_prop (atom.Attr u x y) = name_prop kinds.Attr u.0

constraint_prop : (c : Constraint) → IsProp (ConstraintNamed IsStatable c)
constraint_prop (Functional p) = prop_prop p
constraint_prop (Identify b paths) = ×_prop (basic_prop b) (each_prop (AllByRecursion (StepNamed IsStatable)) (each_prop (StepNamed IsStatable) step_prop) paths)
constraint_prop (Deny atoms) = each_prop (Named IsStatable) atom_prop atoms

module _ (P Q : NameKind → ℕ → Type 0) (k : (kind : NameKind) (n : ℕ) → P kind n → Q kind n) where
  role_weaker : (r : RoleExpr) → RoleNamed P r → RoleNamed Q r
  role_weaker (Direct p) h = k kinds.Role p.0 h
  role_weaker (Inverse p) h = k kinds.Role p.0 h

  prop_weaker : (p : Prop) → PropNamed P p → PropNamed Q p
  prop_weaker (prop.Role r) h = role_weaker r h
  prop_weaker (prop.Attr u) h = k kinds.Attr u.0 h

  basic_weaker : (b : Basic) → BasicNamed P b → BasicNamed Q b
  basic_weaker (basic.Class a) h = k kinds.Class a.0 h
  basic_weaker (basic.Some r) h = role_weaker r h
  basic_weaker (basic.Subjects u) h = k kinds.Attr u.0 h

  negative_weaker : (n : Negative) → NegativeNamed P n → NegativeNamed Q n
  negative_weaker (Concepts b c) h = (basic_weaker b h.0, basic_weaker c h.1)
  negative_weaker (Roles r s) h = (role_weaker r h.0, role_weaker s h.1)
  negative_weaker (Attrs u v) h = (k kinds.Attr u.0 h.0, k kinds.Attr v.0 h.1)
  negative_weaker (Irreflexive p) h = k kinds.Role p.0 h

  step_weaker : (s : Step) → StepNamed P s → StepNamed Q s
  step_weaker (step.Role r) h = role_weaker r h
  step_weaker (step.Test a) h = k kinds.Class a.0 h
  step_weaker (step.Attr u) h = k kinds.Attr u.0 h

  atom_weaker : (g : Atom) → Named P g → Named Q g
  atom_weaker (atom.Class a x) h = k kinds.Class a.0 h
  atom_weaker (atom.Role p x y) h = k kinds.Role p.0 h
  atom_weaker (atom.Attr u x y) h = k kinds.Attr u.0 h

  constraint_weaker : (c : Constraint) → ConstraintNamed P c → ConstraintNamed Q c
  constraint_weaker (Functional p) h = prop_weaker p h
  constraint_weaker (Identify b paths) h = (basic_weaker b h.0, each_weaker (AllByRecursion (StepNamed P)) (AllByRecursion (StepNamed Q)) (each_weaker (StepNamed P) (StepNamed Q) step_weaker) paths h.1)
  constraint_weaker (Deny atoms) h = each_weaker (Named P) (Named Q) atom_weaker atoms h

stands_statable : (lists : Lists) → IsVocabulary lists → (kind : NameKind) (n : ℕ) → StandsIn lists kind n → IsStatable kind n
stands_statable lists v kinds.Class n h = omega (arith, h, v.classes.few)
stands_statable lists v kinds.Role n h = omega (arith, h, v.roles.few)
stands_statable lists v kinds.Attr n h = omega (arith, h, v.attributes.few)

-- the form of a constraint, of statements alone
abbrev PathForm : List Step → Type 0
PathForm path = (1 ≤ length (along path)) × IsAttributeLast path

abbrev Form : Constraint → Type 0
Form (Functional p) = Unit {0}
Form (Identify b paths) = (steps_together paths ≤ most_steps) × AllByRecursion PathForm paths
Form (Deny atoms) = (1 ≤ length atoms) × ((length atoms ≤ MOST_ATOMS) × EachHasOneSort atoms)

last_prop : (path : List Step) → IsProp (IsAttributeLast path)
last_prop [] = Unit-prop
last_prop (step.Role r ∷ path) = last_prop path
last_prop (step.Test a ∷ path) = last_prop path
last_prop (step.Attr u ∷ []) = Unit-prop
last_prop (step.Attr u ∷ (s ∷ path)) = bottom_prop

at_most_prop : (m n : ℕ) → IsProp (m ≤ n)
at_most_prop m n = hlevel le_prop

form_prop : (c : Constraint) → IsProp (Form c)
form_prop (Functional p) = Unit-prop
form_prop (Identify b paths) = ×_prop (at_most_prop (steps_together paths) most_steps) (each_prop PathForm (λ path. ×_prop (at_most_prop 1 (length (along path))) (last_prop path)) paths)
form_prop (Deny atoms) = ×_prop (at_most_prop 1 (length atoms)) (×_prop (at_most_prop (length atoms) MOST_ATOMS) (Π_prop (λ x. →_prop (→_prop bottom_prop))))

to_form : (c : Constraint) → HasForm c → Form c
to_form (Functional p) h = tt
to_form (Identify b paths) h = (h.few, each_weaker HasPathForm PathForm (λ path f. (f.long, f.last)) paths h.paths_are)
to_form (Deny atoms) h = (h.some, (h.few, h.sorts))

from_form : (c : Constraint) → Form c → HasForm c
from_form (Functional p) h = tt
from_form (Identify b paths) h = record { few = h.0; paths_are = each_weaker PathForm HasPathForm (λ path f. record { long = f.0; last = f.1 }) paths h.1 }
from_form (Deny atoms) h = record { some = h.0; few = h.1.0; sorts = h.1.1 }

-- a specification over the names of a vocabulary is proper
pub spec_proper : (spec : Spec) → IsVocabulary spec.vocab → IsProper (theory_of spec)
spec_proper spec v =
    let known = stands_statable spec.vocab v in
    record {
      is_stated = spec_stated spec v;
      negatives = ∥∥₁_elim spec.axioms_in_range (each_prop (NegativeNamed IsStatable) negative_prop (items spec.tbox.negatives))
          (λ h. each_weaker (NegativeNamed (StandsIn spec.vocab)) (NegativeNamed IsStatable) (negative_weaker (StandsIn spec.vocab) IsStatable known) (items spec.tbox.negatives) h.of_negatives);
      functional = ∥∥₁_elim spec.axioms_in_range (each_prop (PropNamed IsStatable) prop_prop (items spec.tbox.functional))
          (λ h. each_weaker (PropNamed (StandsIn spec.vocab)) (PropNamed IsStatable) (prop_weaker (StandsIn spec.vocab) IsStatable known) (items spec.tbox.functional) h.of_functional);
      constraints = ∥∥₁_elim spec.constraints_in_range (each_prop (ConstraintNamed IsStatable) constraint_prop (items spec.constraints))
          (λ h. each_weaker (ConstraintNamed (StandsIn spec.vocab)) (ConstraintNamed IsStatable) (constraint_weaker (StandsIn spec.vocab) IsStatable known) (items spec.constraints) h.names);
      formed = each_weaker Form HasForm from_form (items spec.constraints)
          (∥∥₁_elim spec.formed (each_prop Form form_prop (items spec.constraints)) (λ h. each_weaker HasForm Form to_form (items spec.constraints) h));
    }

-- constants in range
constant_prop : (bound : ℕ) (x : Arg) → IsProp (KnownArg (IsBelow bound) x)
constant_prop bound arg.Blank = Unit-prop
constant_prop bound (arg.Var n) = Unit-prop
constant_prop bound (arg.Constant c) = hlevel le_prop

known_prop : (bound : ℕ) (g : Atom) → IsProp (KnownAtom (IsBelow bound) g)
known_prop bound (atom.Class a x) = constant_prop bound x
known_prop bound (atom.Role a x y) = ×_prop (constant_prop bound x) (constant_prop bound y)
known_prop bound (atom.Attr a x y) = ×_prop (constant_prop bound x) (constant_prop bound y)

constants_prop : (lists : Lists) (c : Constraint) → IsProp (ConstantsStandIn lists c)
constants_prop lists (Functional p) = Unit-prop
constants_prop lists (Identify b paths) = Unit-prop
constants_prop lists (Deny atoms) = each_prop (KnownAtom (IsBelow (length lists.constants))) (known_prop (length lists.constants)) atoms

-- the constants of a specification's constraints stand in its vocabulary
pub spec_constants : (spec : Spec) → AllByRecursion (ConstantsStandIn spec.vocab) (items spec.constraints)
spec_constants spec = ∥∥₁_elim spec.constraints_in_range (each_prop (ConstantsStandIn spec.vocab) (constants_prop spec.vocab) (items spec.constraints)) (λ h. h.constants)
