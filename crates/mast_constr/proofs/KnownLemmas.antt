-- The names and constants of constraints are those of the vocabulary.
use Rattle.std.proofs.Common.{inl, inr, List, [], ◌∷◌, length}
use Rattle.std.specs.List.{AllByRecursion}
use Rattle.std.proofs.lemmas.Option.{slice_get_within}
use Rattle.mast_cq.specs.declared.atom.Arg.{Arg}
use Rattle.mast_cq.specs.declared.atom.Arg.TheVariants as arg
use Rattle.mast_cq.specs.declared.atom.Atom.{Atom}
use Rattle.mast_cq.specs.declared.atom.Atom.TheVariants as atom
use Rattle.mast_cq.specs.Origins.{Named}
use Rattle.mast_cq.specs.UnifierMeanings.{IsBelow, KnownArg, KnownAtom}
use Rattle.mast_terms.specs.declared.name.Name.{Name}
use Rattle.mast_terms.specs.declared.name.NameKind.TheVariants as kinds
use Rattle.mast_terms.specs.declared.value.Value.{Value as AValue}
use Rattle.mast_terms.specs.Vocabularies.{Lists}
use Rattle.mast_tbox.specs.declared.constraint.Constraint.{Constraint}
use Rattle.mast_tbox.specs.declared.constraint.Constraint.TheVariants as constraint
use Rattle.mast_tbox.specs.declared.constraint.Step.{Step}
use Rattle.mast_tbox.specs.declared.constraint.Step.TheVariants as step
use Rattle.mast_tbox.specs.declared.expression.Basic.{Basic}
use Rattle.mast_tbox.specs.declared.expression.Prop.{Prop}
use Rattle.mast_tbox.specs.declared.expression.Prop.TheVariants as prop
use Rattle.mast_tbox.specs.Lists.{AreEach}
use Rattle.mast_tbox.specs.Names.{BasicNamed, PropNamed, StepNamed, ConstraintNamed}
use Rattle.mast_tbox.specs.Vocabularies.{ConstantsStandIn}
use Rattle.mast_tree.specs.Names.{StandsIn}
use Rattle.mast_tbox.proofs.EachLemmas.{each_of}
use Rattle.mast_tree.specs.declared.item.Item.{Item}
use Rattle.mast_tree.specs.Pages.{Page}
use Rattle.mast_expressions.proofs.KnownLemmas.{named_known, role_known, left_known}
use Rattle.mast_constr.specs.Denials.{Dates, IsConstant, IsValue, IsObject, IsClassOf, IsRoleOf, IsAttrAtomOf, IsAtomOf, IsAtom, variables_of}
use Rattle.mast_constr.specs.Items.{IsProp, IsFunctionalOf, IsConstraintOf}
use Rattle.mast_constr.specs.Paths.{IsTestOf, IsAttrOf, IsStep, IsPath, AreIdentified}
use Rattle.mast_constr.specs.Variables.{Variables}

test_known : (lists : Lists) (page : Page) (items : List Item) (a : Name) → IsTestOf lists page items a → StandsIn lists kinds.Class a.0
test_known lists page [] a h = absurd h
test_known lists page (only ∷ []) a h = named_known lists kinds.Class page only a h
test_known lists page (one ∷ other ∷ more) a h = absurd h

attr_known : (lists : Lists) (page : Page) (items : List Item) (u : Name) → IsAttrOf lists page items u → StandsIn lists kinds.Attr u.0
attr_known lists page [] u h = absurd h
attr_known lists page (only ∷ []) u h = named_known lists kinds.Attr page only u h
attr_known lists page (one ∷ other ∷ more) u h = absurd h

step_known : (lists : Lists) (page : Page) (item : Item) (s : Step) → IsStep lists page item s → StepNamed (StandsIn lists) s
step_known lists page item (step.Role r) h = role_known lists page item r h
step_known lists page item (step.Test a) h = test_known lists page h.0 a h.2
step_known lists page item (step.Attr u) h = attr_known lists page h.0 u h.2

path_known : (lists : Lists) (page : Page) (item : Item) (path : List Step) → IsPath lists page item path → AllByRecursion (StepNamed (StandsIn lists)) path
path_known lists page item path h = each_of (IsStep lists page) (StepNamed (StandsIn lists)) h.0 path (step_known lists page) h.2

identified_known : (lists : Lists) (page : Page) (items : List Item) (concept : Basic) (paths : List (List Step))
    → AreIdentified lists page items concept paths → BasicNamed (StandsIn lists) concept × AllByRecursion (AllByRecursion (StepNamed (StandsIn lists))) paths
identified_known lists page [] concept paths h = absurd h
identified_known lists page (left ∷ items) concept paths h =
    (left_known lists page left concept h.0, each_of (IsPath lists page) (AllByRecursion (StepNamed (StandsIn lists))) items paths (path_known lists page) h.1)

variable_known : (lists : Lists) (page : Page) (known : Variables) (item : Item) (x : Arg) → IsObject page known item x → KnownArg (IsBelow (length lists.constants)) x
variable_known lists page known item arg.Blank h = tt
variable_known lists page known item (arg.Var n) h = tt
variable_known lists page known item (arg.Constant n) h = absurd h

constant_known : (lists : Lists) (value : AValue) (x : Arg) → IsConstant lists value x → KnownArg (IsBelow (length lists.constants)) x
constant_known lists value arg.Blank h = tt
constant_known lists value (arg.Var n) h = tt
constant_known lists value (arg.Constant n) h = slice_get_within lists.constants n value h

value_known : (dates : Dates) (lists : Lists) (page : Page) (known : Variables) (item : Item) (x : Arg) → IsValue dates lists page known item x → KnownArg (IsBelow (length lists.constants)) x
value_known dates lists page known item x (inl c) = constant_known lists c.0 x c.2
value_known dates lists page known item arg.Blank (inr h) = tt
value_known dates lists page known item (arg.Var n) (inr h) = tt
value_known dates lists page known item (arg.Constant n) (inr h) = absurd h

-- the name of the atom and its constants stand in the vocabulary
abbrev AtomKnown : Lists → Atom → Type 0
AtomKnown lists g = Named (StandsIn lists) g × KnownAtom (IsBelow (length lists.constants)) g

class_known : (lists : Lists) (page : Page) (known : Variables) (items : List Item) (a : Name) (x : Arg) → IsClassOf lists page known items a x → AtomKnown lists (atom.Class a x)
class_known lists page known [] a x h = absurd h
class_known lists page known (i ∷ []) a x h = absurd h
class_known lists page known (i ∷ j ∷ []) a x h = (named_known lists kinds.Class page i a h.0, variable_known lists page known j x h.1)
class_known lists page known (i ∷ j ∷ k ∷ ks) a x h = absurd h

roles_known : (lists : Lists) (page : Page) (known : Variables) (items : List Item) (p : Name) (x y : Arg) → IsRoleOf lists page known items p x y → AtomKnown lists (atom.Role p x y)
roles_known lists page known [] p x y h = absurd h
roles_known lists page known (i ∷ []) p x y h = absurd h
roles_known lists page known (i ∷ j ∷ []) p x y h = absurd h
roles_known lists page known (i ∷ j ∷ k ∷ []) p x y h =
    (named_known lists kinds.Role page i p h.0, (variable_known lists page known j x h.1, variable_known lists page known k y h.2))
roles_known lists page known (i ∷ j ∷ k ∷ l ∷ ls) p x y h = absurd h

fillers_known : (dates : Dates) (lists : Lists) (page : Page) (known : Variables) (items : List Item) (u : Name) (x y : Arg) → IsAttrAtomOf dates lists page known items u x y → AtomKnown lists (atom.Attr u x y)
fillers_known dates lists page known [] u x y h = absurd h
fillers_known dates lists page known (i ∷ []) u x y h = absurd h
fillers_known dates lists page known (i ∷ j ∷ []) u x y h = absurd h
fillers_known dates lists page known (i ∷ j ∷ k ∷ []) u x y h =
    (named_known lists kinds.Attr page i u h.0, (variable_known lists page known j x h.1, value_known dates lists page known k y h.2))
fillers_known dates lists page known (i ∷ j ∷ k ∷ l ∷ ls) u x y h = absurd h

inside_known : (dates : Dates) (lists : Lists) (page : Page) (known : Variables) (items : List Item) (g : Atom) → IsAtomOf dates lists page known items g → AtomKnown lists g
inside_known dates lists page known items (atom.Class a x) h = class_known lists page known items a x h
inside_known dates lists page known items (atom.Role p x y) h = roles_known lists page known items p x y h
inside_known dates lists page known items (atom.Attr u x y) h = fillers_known dates lists page known items u x y h

prop_known : (lists : Lists) (page : Page) (item : Item) (p : Prop) → IsProp lists page item p → PropNamed (StandsIn lists) p
prop_known lists page item (prop.Role r) h = role_known lists page item r h
prop_known lists page item (prop.Attr u) h = attr_known lists page h.0 u h.2

functional_known : (lists : Lists) (page : Page) (items : List Item) (p : Prop) → IsFunctionalOf lists page items p → PropNamed (StandsIn lists) p
functional_known lists page [] p h = absurd h
functional_known lists page (only ∷ []) p h = prop_known lists page only p h
functional_known lists page (one ∷ other ∷ more) p h = absurd h

atoms_known : (dates : Dates) (lists : Lists) (page : Page) (known : Variables) (items : List Item) (atoms : List Atom)
    → AreEach (IsAtom dates lists page known) items atoms → AllByRecursion (AtomKnown lists) atoms
atoms_known dates lists page known items atoms h =
    each_of (IsAtom dates lists page known) (AtomKnown lists) items atoms (λ item g a. inside_known dates lists page known a.0 g a.2) h

-- of two things that hold of each, the one and the other
firsts : {X : Type 0} (P Q : X → Type 0) (xs : List X) → AllByRecursion (λ x. P x × Q x) xs → AllByRecursion P xs
firsts P Q [] h = tt
firsts P Q (x ∷ xs) h = (h.0.0, firsts P Q xs h.1)

seconds : {X : Type 0} (P Q : X → Type 0) (xs : List X) → AllByRecursion (λ x. P x × Q x) xs → AllByRecursion Q xs
seconds P Q [] h = tt
seconds P Q (x ∷ xs) h = (h.0.1, seconds P Q xs h.1)

-- the names of a constraint stand in the vocabulary
pub constraint_names : (dates : Dates) (lists : Lists) (page : Page) (items : List Item) (c : Constraint) → IsConstraintOf dates lists page items c → ConstraintNamed (StandsIn lists) c
constraint_names dates lists page items (constraint.Functional p) h = functional_known lists page items p h
constraint_names dates lists page items (constraint.Identify concept paths) h = identified_known lists page items concept paths h
constraint_names dates lists page items (constraint.Deny atoms) h =
    firsts (Named (StandsIn lists)) (KnownAtom (IsBelow (length lists.constants))) atoms (atoms_known dates lists page (variables_of page items) items atoms h)

-- and its constants
pub constraint_constants : (dates : Dates) (lists : Lists) (page : Page) (items : List Item) (c : Constraint) → IsConstraintOf dates lists page items c → ConstantsStandIn lists c
constraint_constants dates lists page items (constraint.Functional p) h = tt
constraint_constants dates lists page items (constraint.Identify concept paths) h = tt
constraint_constants dates lists page items (constraint.Deny atoms) h =
    seconds (Named (StandsIn lists)) (KnownAtom (IsBelow (length lists.constants))) atoms (atoms_known dates lists page (variables_of page items) items atoms h)
