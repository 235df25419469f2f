-- What items of constraints give stays so in vocabularies and among variables that begin with theirs.
use Rattle.std.proofs.Common.{inl, inr, List, [], ◌∷◌}
use Rattle.mast_cq.specs.declared.atom.Arg.{Arg}
use Rattle.mast_cq.specs.declared.atom.Arg.TheVariants as arg
use Rattle.mast_cq.specs.declared.atom.Atom.{Atom}
use Rattle.mast_cq.specs.declared.atom.Atom.TheVariants as atom
use Rattle.mast_terms.specs.declared.name.Name.{Name}
use Rattle.mast_terms.specs.declared.name.NameKind.TheVariants as kinds
use Rattle.mast_terms.specs.declared.value.Value.{Value as AValue}
use Rattle.mast_terms.specs.Vocabularies.{Lists}
use Rattle.mast_tbox.specs.declared.axiom.Lined.{Lined}
use Rattle.mast_tbox.specs.declared.constraint.Constraint.{Constraint}
use Rattle.mast_tbox.specs.declared.constraint.Constraint.TheVariants as constraint
use Rattle.mast_tbox.specs.declared.constraint.Step.{Step}
use Rattle.mast_tbox.specs.declared.constraint.Step.TheVariants as step
use Rattle.mast_tbox.specs.declared.expression.Basic.{Basic}
use Rattle.mast_tbox.specs.declared.expression.Prop.{Prop}
use Rattle.mast_tbox.specs.declared.expression.Prop.TheVariants as prop
use Rattle.mast_tbox.specs.Lists.{AreEach}
use Rattle.mast_tbox.proofs.EachLemmas.{each_more}
use Rattle.mast_tree.specs.declared.item.Item.{Item}
use Rattle.mast_tree.specs.Growing.{BeginsWith, Begins}
use Rattle.mast_tree.proofs.GrowingLemmas.{get_grows}
use Rattle.mast_tree.specs.Pages.{Page, says}
use Rattle.mast_expressions.proofs.GivenLemmas.{named_grows, role_grows, left_grows}
use Rattle.mast_constr.specs.declared.variables.Sort.TheVariants.{Object, Value}
use Rattle.mast_constr.specs.Denials.{Dates, IsConstant, IsValue, IsClassOf, IsRoleOf, IsAttrAtomOf, IsAtomOf, IsAtom, variables_of}
use Rattle.mast_constr.specs.Items.{IsProp, IsFunctionalOf, IsConstraintOf, IsConstraint, IsLined}
use Rattle.mast_constr.specs.Paths.{IsTestOf, IsAttrOf, IsStep, IsPath, AreIdentified}
use Rattle.mast_constr.specs.Variables.{Variables, variable}
use Rattle.mast_constr.proofs.VariableLemmas.{begins_here, variable_grows}

test_grows : (new old : Lists) (page : Page) (items : List Item) (a : Name) → Begins new old → IsTestOf old page items a → IsTestOf new page items a
test_grows new old page [] a b h = h
test_grows new old page (only ∷ []) a b h = named_grows new old kinds.Class page only a b h
test_grows new old page (one ∷ other ∷ more) a b h = h

attr_grows : (new old : Lists) (page : Page) (items : List Item) (u : Name) → Begins new old → IsAttrOf old page items u → IsAttrOf new page items u
attr_grows new old page [] u b h = h
attr_grows new old page (only ∷ []) u b h = named_grows new old kinds.Attr page only u b h
attr_grows new old page (one ∷ other ∷ more) u b h = h

-- a step
pub step_grows : (new old : Lists) (page : Page) → Begins new old → (item : Item) (s : Step) → IsStep old page item s → IsStep new page item s
step_grows new old page b item (step.Role r) h = role_grows new old page item r b h
step_grows new old page b item (step.Test a) h = (h.0, h.1, test_grows new old page h.0 a b h.2)
step_grows new old page b item (step.Attr u) h = (h.0, h.1, attr_grows new old page h.0 u b h.2)

-- a path
pub path_grows : (new old : Lists) (page : Page) → Begins new old → (item : Item) (path : List Step) → IsPath old page item path → IsPath new page item path
path_grows new old page b item path h = (h.0, h.1, each_more (IsStep old page) (IsStep new page) h.0 path (step_grows new old page b) h.2)

identified_grows : (new old : Lists) (page : Page) → Begins new old → (items : List Item) (concept : Basic) (paths : List (List Step))
    → AreIdentified old page items concept paths → AreIdentified new page items concept paths
identified_grows new old page b [] concept paths h = h
identified_grows new old page b (left ∷ items) concept paths h =
    (left_grows new old page left concept b h.0, each_more (IsPath old page) (IsPath new page) items paths (path_grows new old page b) h.1)

constant_grows : (new old : Lists) (value : AValue) (x : Arg) → Begins new old → IsConstant old value x → IsConstant new value x
constant_grows new old value arg.Blank b h = h
constant_grows new old value (arg.Var n) b h = h
constant_grows new old value (arg.Constant n) b h = get_grows new.constants old.constants n value b.constants h

-- a value
pub value_grows : (dates : Dates) (new old : Lists) (page : Page) (more known : Variables) (item : Item) (x : Arg)
    → Begins new old → BeginsWith more known → IsValue dates old page known item x → IsValue dates new page more item x
value_grows dates new old page more known item x b k (inl c) = inl (c.0, c.1, constant_grows new old c.0 x b c.2)
value_grows dates new old page more known item x b k (inr v) = inr (variable_grows Value more known (variable (says page item)) x k v)

class_grows : (new old : Lists) (page : Page) (more known : Variables) (items : List Item) (a : Name) (x : Arg)
    → Begins new old → BeginsWith more known → IsClassOf old page known items a x → IsClassOf new page more items a x
class_grows new old page more known [] a x b k h = h
class_grows new old page more known (i ∷ []) a x b k h = h
class_grows new old page more known (i ∷ j ∷ []) a x b k h =
    (named_grows new old kinds.Class page i a b h.0, variable_grows Object more known (variable (says page j)) x k h.1)
class_grows new old page more known (i ∷ j ∷ l ∷ ls) a x b k h = h

roles_grow : (new old : Lists) (page : Page) (more known : Variables) (items : List Item) (p : Name) (x y : Arg)
    → Begins new old → BeginsWith more known → IsRoleOf old page known items p x y → IsRoleOf new page more items p x y
roles_grow new old page more known [] p x y b k h = h
roles_grow new old page more known (i ∷ []) p x y b k h = h
roles_grow new old page more known (i ∷ j ∷ []) p x y b k h = h
roles_grow new old page more known (i ∷ j ∷ l ∷ []) p x y b k h =
    (named_grows new old kinds.Role page i p b h.0, variable_grows Object more known (variable (says page j)) x k h.1, variable_grows Object more known (variable (says page l)) y k h.2)
roles_grow new old page more known (i ∷ j ∷ l ∷ m ∷ ms) p x y b k h = h

fillers_grow : (dates : Dates) (new old : Lists) (page : Page) (more known : Variables) (items : List Item) (u : Name) (x y : Arg)
    → Begins new old → BeginsWith more known → IsAttrAtomOf dates old page known items u x y → IsAttrAtomOf dates new page more items u x y
fillers_grow dates new old page more known [] u x y b k h = h
fillers_grow dates new old page more known (i ∷ []) u x y b k h = h
fillers_grow dates new old page more known (i ∷ j ∷ []) u x y b k h = h
fillers_grow dates new old page more known (i ∷ j ∷ l ∷ []) u x y b k h =
    (named_grows new old kinds.Attr page i u b h.0, variable_grows Object more known (variable (says page j)) x k h.1, value_grows dates new old page more known l y b k h.2)
fillers_grow dates new old page more known (i ∷ j ∷ l ∷ m ∷ ms) u x y b k h = h

inside_grows : (dates : Dates) (new old : Lists) (page : Page) (more known : Variables) (items : List Item) (g : Atom)
    → Begins new old → BeginsWith more known → IsAtomOf dates old page known items g → IsAtomOf dates new page more items g
inside_grows dates new old page more known items (atom.Class a x) b k h = class_grows new old page more known items a x b k h
inside_grows dates new old page more known items (atom.Role p x y) b k h = roles_grow new old page more known items p x y b k h
inside_grows dates new old page more known items (atom.Attr u x y) b k h = fillers_grow dates new old page more known items u x y b k h

-- an atom
pub atom_grows : (dates : Dates) (new old : Lists) (page : Page) (more known : Variables) (item : Item) (g : Atom)
    → Begins new old → BeginsWith more known → IsAtom dates old page known item g → IsAtom dates new page more item g
atom_grows dates new old page more known item g b k h = (h.0, h.1, inside_grows dates new old page more known h.0 g b k h.2)

prop_grows : (new old : Lists) (page : Page) (item : Item) (p : Prop) → Begins new old → IsProp old page item p → IsProp new page item p
prop_grows new old page item (prop.Role r) b h = role_grows new old page item r b h
prop_grows new old page item (prop.Attr u) b h = (h.0, h.1, attr_grows new old page h.0 u b h.2)

functional_grows : (new old : Lists) (page : Page) (items : List Item) (p : Prop) → Begins new old → IsFunctionalOf old page items p → IsFunctionalOf new page items p
functional_grows new old page [] p b h = h
functional_grows new old page (only ∷ []) p b h = prop_grows new old page only p b h
functional_grows new old page (one ∷ other ∷ more) p b h = h

denied_grows : (dates : Dates) (new old : Lists) (page : Page) (known : Variables) (items : List Item) (atoms : List Atom)
    → Begins new old → AreEach (IsAtom dates old page known) items atoms → AreEach (IsAtom dates new page known) items atoms
denied_grows dates new old page known items atoms b h =
    each_more (IsAtom dates old page known) (IsAtom dates new page known) items atoms (λ item g. atom_grows dates new old page known known item g b (begins_here known)) h

within_grows : (dates : Dates) (new old : Lists) (page : Page) (items : List Item) (c : Constraint)
    → Begins new old → IsConstraintOf dates old page items c → IsConstraintOf dates new page items c
within_grows dates new old page items (constraint.Functional p) b h = functional_grows new old page items p b h
within_grows dates new old page items (constraint.Identify concept paths) b h = identified_grows new old page b items concept paths h
within_grows dates new old page items (constraint.Deny atoms) b h = denied_grows dates new old page (variables_of page items) items atoms b h

-- a constraint
pub constraint_grows : (dates : Dates) (new old : Lists) (page : Page) (item : Item) (c : Constraint)
    → Begins new old → IsConstraint dates old page item c → IsConstraint dates new page item c
constraint_grows dates new old page item c b h = (h.0, h.1, within_grows dates new old page h.0 c b h.2)

-- a constraint with its line
pub lined_grows : (dates : Dates) (new old : Lists) (page : Page) → Begins new old → (item : Item) (l : Lined Constraint)
    → IsLined dates old page item l → IsLined dates new page item l
lined_grows dates new old page b item l h = (h.0, constraint_grows dates new old page item l.item b h.1)
