-- What each rule of the constraints is read to.
use Rattle.std.specs.Prelude.{◌≡◌, ℕ, Bool, ◌++◌, List, [], ◌∷◌, Option, Some, None, Result, Ok, codes, slice_get}
use Rattle.mast_cq.specs.declared.atom.Arg.{Arg}
use Rattle.mast_cq.specs.declared.atom.Arg.TheVariants as arg
use Rattle.mast_cq.specs.declared.atom.Atom.{Atom}
use Rattle.mast_terms.specs.declared.memory.Stop.{Stop}
use Rattle.mast_terms.specs.declared.name.Name.{Name}
use Rattle.mast_terms.specs.declared.value.Value.{Value}
use Rattle.mast_terms.specs.Vocabularies.{Lists}
use Rattle.mast_tbox.specs.declared.axiom.Lined.{Lined}
use Rattle.mast_tbox.specs.declared.constraint.Constraint.{Constraint}
use Rattle.mast_tbox.specs.declared.constraint.Step.{Step}
use Rattle.mast_tbox.specs.declared.expression.Basic.{Basic}
use Rattle.mast_tbox.specs.declared.expression.Prop.{Prop}
use Rattle.mast_tbox.specs.Lists.{AreEach}
use Rattle.mast_tree.specs.declared.item.Item.{Item}
use Rattle.mast_tree.specs.declared.shape.ShapeBreach.{ShapeBreach}
use Rattle.mast_tree.specs.declared.shape.ShapeKind.TheVariants.{Shape}
use Rattle.mast_tree.specs.Constants.{AreDates, constant_of}
use Rattle.mast_tree.specs.Growing.{Begins}
use Rattle.mast_tree.specs.Judgements.{Judgement, numbers, AreRight, Judges}
use Rattle.mast_tree.specs.Said.{Said, line}
use Rattle.mast_expressions.specs.Judged.{role_judged}
use Rattle.mast_tree.specs.Pages.{Page, says}
use Rattle.mast_expressions.specs.Reads.{page}
use Rattle.mast_constr.specs.inside.Atoms.{placed}
use Rattle.mast_constr.specs.declared.reader.Reader.{Reader}
use Rattle.mast_constr.specs.declared.variables.Sort.{Sort}
use Rattle.mast_constr.specs.inside.Atoms as a
use Rattle.mast_constr.specs.Denials as d
use Rattle.mast_constr.specs.Denials.{Dates}
use Rattle.mast_constr.specs.Items as i
use Rattle.mast_constr.specs.Paths as p
use Rattle.mast_constr.specs.Variables.{Variables, variable, sort_of, sort_judged, variable_judged, IsVariable}

-- the page of a reader
abbrev pub page_in : Reader → Page
page_in reader = page reader.places

-- what an item says to a reader
abbrev pub said_in : Reader → Item → Said
said_in reader item = says (page_in reader) item

-- a list has become this one, with more of which P holds
abbrev pub Adds : {X : Type 0} → List X → List X → (List X → Type 0) → Type 0
Adds {X} old new P = (more : List X) × (new ≡ old ++ more) × P more

-- `Test(..)`
abbrev pub ReadsTest : Page → ℕ → List Item → Lists → Lists → Result Name (Stop ShapeBreach) → Type 0
ReadsTest page at inside old new result = Judges old (p.test_judged page at inside) new (p.IsTestOf new page inside) result

-- `Attr(..)`
abbrev pub ReadsAttribute : Page → ℕ → List Item → Lists → Lists → Result Name (Stop ShapeBreach) → Type 0
ReadsAttribute page at inside old new result = Judges old (p.attribute_judged page at inside) new (p.IsAttrOf new page inside) result

-- `Attr(..)` in a path
abbrev pub ReadsLast : Bool → Page → ℕ → List Item → Lists → Lists → Result Name (Stop ShapeBreach) → Type 0
ReadsLast last page at inside old new result = Judges old (p.last_judged last page at inside) new (p.IsAttrOf new page inside) result

-- a role as a step
abbrev pub ReadsRoleStep : Page → Item → Lists → Lists → Result Step (Stop ShapeBreach) → Type 0
ReadsRoleStep page item old new result = Judges old (role_judged Shape page item) new (p.IsStep new page item) result

-- a step
abbrev pub ReadsStep : Bool → Page → Item → Lists → Lists → Result Step (Stop ShapeBreach) → Type 0
ReadsStep last page item old new result = Judges old (p.step_judged last page item) new (p.IsStep new page item) result

-- a list has become this one, with one more of which P holds
abbrev pub Puts : {X : Type 0} → List X → List X → (X → Type 0) → Type 0
Puts {X} old new P = (one : X) × (new ≡ old ++ one ∷ []) × P one

-- a step, behind those that stand before
abbrev pub PutsStep : Bool → Page → Item → Lists → Lists → List Step → List Step → Result (Unit {0}) (Stop ShapeBreach) → Type 0
PutsStep last page item old new before after result =
    Judges old (p.step_judged last page item) new (λ u. Puts before after (p.IsStep new page item)) result

-- steps, behind those that stand before
abbrev pub ReadsSteps : Page → List Item → Lists → Lists → List Step → List Step → Result (Unit {0}) (Stop ShapeBreach) → Type 0
ReadsSteps page inside old new before after result =
    Judges old (p.steps_judged page inside) new (λ u. Adds before after (AreEach (p.IsStep new page) inside)) result

-- what stands in `Path(..)`
abbrev pub ReadsPathItems : Page → ℕ → List Item → Lists → Lists → Result (List Step) (Stop ShapeBreach) → Type 0
ReadsPathItems page at inside old new result = Judges old (p.path_items page at inside) new (AreEach (p.IsStep new page) inside) result

-- a path
abbrev pub ReadsPath : Page → Item → Lists → Lists → Result (List Step) (Stop ShapeBreach) → Type 0
ReadsPath page item old new result = Judges old (p.path_judged page item) new (p.IsPath new page item) result

-- a path, behind those that stand before
abbrev pub PutsPath : Page → Item → Lists → Lists → List (List Step) → List (List Step) → Result (Unit {0}) (Stop ShapeBreach) → Type 0
PutsPath page item old new before after result =
    Judges old (p.path_judged page item) new (λ u. Puts before after (p.IsPath new page item)) result

-- paths, behind those that stand before
abbrev pub ReadsPaths : Page → List Item → Lists → Lists → List (List Step) → List (List Step) → Result (Unit {0}) (Stop ShapeBreach) → Type 0
ReadsPaths page inside old new before after result =
    Judges old (p.paths_judged page inside) new (λ u. Adds before after (AreEach (p.IsPath new page) inside)) result

-- a concept and paths
abbrev pub Identified : Type 0
Identified = Result (Basic × List (List Step)) (Stop ShapeBreach)

-- a left side and paths, which are not too long
abbrev pub ReadsConceptPaths : Page → Item → List Item → Lists → Lists → Identified → Type 0
ReadsConceptPaths page left inside old new result =
    Judges old (p.concept_paths page left inside) new (λ r. p.AreIdentified new page (left ∷ inside) r.0 r.1) result

-- a left side and paths
abbrev pub ReadsIdentified : Page → ℕ → Item → List Item → Lists → Lists → Identified → Type 0
ReadsIdentified page at left inside old new result =
    Judges old (p.identified_judged (p.are_many (p.all_steps page inside)) page at left inside) new
    (λ r. p.AreIdentified new page (left ∷ inside) r.0 r.1) result

-- `Identify(..)`
abbrev pub ReadsIdentify : Page → ℕ → List Item → Lists → Lists → Identified → Type 0
ReadsIdentify page at inside old new result =
    Judges old (p.identify_judged page at inside) new (λ r. p.AreIdentified new page inside r.0 r.1) result

-- what was found of a name among variables: its number, and the sort of its first place
abbrev pub IsFound : Variables → List ℕ → Option (ℕ × Sort) → Type 0
IsFound known x None = sort_of x known ≡ None
IsFound known x (Some found) = (sort_of x known ≡ Some found.1) × (slice_get known found.0 ≡ Some (x, found.1))

-- a place of this sort, of the variable of a number that first stands in a place of that sort
abbrev pub IsSame : Sort → Sort → ℕ → ℕ → Result Arg (Stop ShapeBreach) → Type 0
IsSame sort first number at result =
    (lists : Lists) → Judges lists (sort_judged sort (Some first) at) lists (λ x. (sort ≡ first) × (x ≡ arg.Var number)) result

-- a variable in a place of a sort, if one was found, at a line
abbrev pub ReadsVariable : Sort → Option (List ℕ) → ℕ → Variables → Variables → Result Arg (Stop ShapeBreach) → Type 0
ReadsVariable sort found at before after result =
    (lists : Lists) → Judges lists (variable_judged sort before found at) lists
    (λ x. (after ≡ placed sort found before) × IsVariable sort after found x) result

-- an argument that is to be a variable
abbrev pub ReadsArgument : Sort → Page → Item → Variables → Variables → Result Arg (Stop ShapeBreach) → Type 0
ReadsArgument sort page item before after result = ReadsVariable sort (variable (says page item)) (line (says page item)) before after result

-- a constant at a line
abbrev pub ReadsConstantAt : Value → ℕ → Lists → Lists → Result Arg (Stop ShapeBreach) → Type 0
ReadsConstantAt value at old new result = Judges old (numbers value at ∷ []) new (d.IsConstant new value) result

-- what a constant is to say
abbrev pub GivesConstant : Dates → Page → Item → Lists → Arg → Type 0
GivesConstant dates page item new x = (value : Value) × (constant_of dates page.doc (says page item) ≡ Ok value) × d.IsConstant new value x

-- the constant that an item says, at a line
abbrev pub ReadsSaidConstant : Page → Item → ℕ → Lists → Lists → Result Arg (Stop ShapeBreach) → Type 0
ReadsSaidConstant page item at old new result =
    (dates : Dates) → AreDates dates → Judges old (d.constant_judged (constant_of dates page.doc (says page item)) at) new
    (GivesConstant dates page item new) result

-- a value
abbrev pub ReadsValue : Page → Item → Variables → Variables → Lists → Lists → Result Arg (Stop ShapeBreach) → Type 0
ReadsValue page item before after old new result =
    (dates : Dates) → AreDates dates → Judges old (d.value_judged dates page before item) new
    (λ x. (after ≡ a.with_value page before item) × d.IsValue dates new page after item x) result

-- two objects
abbrev pub ReadsPair : Page → Item → Item → Variables → Variables → Result (Arg × Arg) (Stop ShapeBreach) → Type 0
ReadsPair page from to before after result =
    (lists : Lists) → Judges lists (d.pair_judged page before from to) lists
    (λ xy. (after ≡ a.with_object page (a.with_object page before from) to) × d.IsObject page after from xy.0 × d.IsObject page after to xy.1) result

-- an object and a value
abbrev pub ReadsFiller : Page → Item → Item → Variables → Variables → Lists → Lists → Result (Arg × Arg) (Stop ShapeBreach) → Type 0
ReadsFiller page from value before after old new result =
    (dates : Dates) → AreDates dates → Judges old (d.filler_judged dates page before from value) new
    (λ xy. (after ≡ a.with_value page (a.with_object page before from) value)
    × d.IsObject page after from xy.0 × d.IsValue dates new page after value xy.1) result

-- the inside of an atom's node with a word: the variables once it stood, and the atom
abbrev pub GivesAtom : List ℕ → Dates → Page → List Item → Variables → Variables → Lists → Atom → Type 0
GivesAtom word dates page inside before after new g =
    (after ≡ a.with_arguments word page before inside) × (d.atom_word g ≡ word) × d.IsAtomOf dates new page after inside g

-- a class and an object
abbrev pub ReadsClassParts : Page → Item → Item → Variables → Variables → Lists → Lists → Result Atom (Stop ShapeBreach) → Type 0
ReadsClassParts page class object before after old new result =
    (dates : Dates) → AreDates dates → Judges old (d.class_parts page before class object) new
    (GivesAtom (codes "Class") dates page (class ∷ object ∷ []) before after new) result

-- a role and two objects
abbrev pub ReadsRoleParts : Page → Item → Item → Item → Variables → Variables → Lists → Lists → Result Atom (Stop ShapeBreach) → Type 0
ReadsRoleParts page role from to before after old new result =
    (dates : Dates) → AreDates dates → Judges old (d.role_parts page before role from to) new
    (GivesAtom (codes "Role") dates page (role ∷ from ∷ to ∷ []) before after new) result

-- an attribute, an object and a value
abbrev pub ReadsAttrParts : Page → Item → Item → Item → Variables → Variables → Lists → Lists → Result Atom (Stop ShapeBreach) → Type 0
ReadsAttrParts page attr from value before after old new result =
    (dates : Dates) → AreDates dates → Judges old (d.attr_parts dates page before attr from value) new
    (GivesAtom (codes "Attr") dates page (attr ∷ from ∷ value ∷ []) before after new) result

-- `Class(..)`
abbrev pub ReadsClassAtom : Page → ℕ → ℕ → List Item → Variables → Variables → Lists → Lists → Result Atom (Stop ShapeBreach) → Type 0
ReadsClassAtom page number at inside before after old new result =
    (dates : Dates) → AreDates dates → Judges old (d.class_atom page number before at inside) new
    (GivesAtom (codes "Class") dates page inside before after new) result

-- `Role(..)`
abbrev pub ReadsRoleAtom : Page → ℕ → ℕ → List Item → Variables → Variables → Lists → Lists → Result Atom (Stop ShapeBreach) → Type 0
ReadsRoleAtom page number at inside before after old new result =
    (dates : Dates) → AreDates dates → Judges old (d.role_atom page number before at inside) new
    (GivesAtom (codes "Role") dates page inside before after new) result

-- `Attr(..)`
abbrev pub ReadsAttrAtom : Page → ℕ → ℕ → List Item → Variables → Variables → Lists → Lists → Result Atom (Stop ShapeBreach) → Type 0
ReadsAttrAtom page number at inside before after old new result =
    (dates : Dates) → AreDates dates → Judges old (d.attr_atom dates page number before at inside) new
    (GivesAtom (codes "Attr") dates page inside before after new) result

-- the atom of a number
abbrev pub ReadsAtom : Page → ℕ → Item → Variables → Variables → Lists → Lists → Result Atom (Stop ShapeBreach) → Type 0
ReadsAtom page number item before after old new result =
    (dates : Dates) → AreDates dates → Judges old (d.atom_judged dates page number before item) new
    (λ g. (after ≡ a.with_atom page before (says page item)) × d.IsAtom dates new page after item g) result

-- the atom of a number, behind those that stand before
abbrev pub PutsAtom : Page → ℕ → Item → Variables → Variables → Lists → Lists → List Atom → List Atom
    → Result (Unit {0}) (Stop ShapeBreach) → Type 0
PutsAtom page number item before after old new some all result =
    (dates : Dates) → AreDates dates → Judges old (d.atom_judged dates page number before item) new
    (λ u. (after ≡ a.with_atom page before (says page item)) × Puts some all (d.IsAtom dates new page after item)) result

-- the atoms that were put behind others, by the variables of the denial
abbrev pub GivesAtoms : Dates → Page → List Item → Variables → Variables → Lists → List Atom → List Atom → Type 0
GivesAtoms dates page inside before after new some all =
    (after ≡ a.with_atoms page before inside) × Adds some all (AreEach (d.IsAtom dates new page after) inside)

-- atoms from a number on, behind those that stand before
abbrev pub ReadsAtoms : Page → ℕ → List Item → Variables → Variables → Lists → Lists → List Atom → List Atom
    → Result (Unit {0}) (Stop ShapeBreach) → Type 0
ReadsAtoms page number inside before after old new some all result =
    (dates : Dates) → AreDates dates → Judges old (a.atoms_from dates page number before inside) new
    (λ u. GivesAtoms dates page inside before after new some all) result

-- all atoms of a denial
abbrev pub ReadsAll : Page → List Item → Lists → Lists → Result (List Atom) (Stop ShapeBreach) → Type 0
ReadsAll page inside old new result =
    (dates : Dates) → AreDates dates → Judges old (a.atoms_from dates page 0 [] inside) new (d.AreDenied dates new page inside) result

-- `Deny(..)`
abbrev pub ReadsDeny : Page → ℕ → List Item → Lists → Lists → Result (List Atom) (Stop ShapeBreach) → Type 0
ReadsDeny page at inside old new result =
    (dates : Dates) → AreDates dates → Judges old (d.deny_judged dates page at inside) new (d.AreDenied dates new page inside) result

-- a role as a property
abbrev pub ReadsRoleProp : Page → Item → Lists → Lists → Result Prop (Stop ShapeBreach) → Type 0
ReadsRoleProp page item old new result = Judges old (role_judged Shape page item) new (i.IsProp new page item) result

-- a property
abbrev pub ReadsProp : Page → Item → Lists → Lists → Result Prop (Stop ShapeBreach) → Type 0
ReadsProp page item old new result = Judges old (i.prop_judged page item) new (i.IsProp new page item) result

-- `Functional(..)`
abbrev pub ReadsFunctional : Page → ℕ → List Item → Lists → Lists → Result Prop (Stop ShapeBreach) → Type 0
ReadsFunctional page at inside old new result =
    Judges old (i.functional_judged page at inside) new (i.IsFunctionalOf new page inside) result

-- a constraint
abbrev pub ReadsConstraint : Page → Item → Lists → Lists → Result Constraint (Stop ShapeBreach) → Type 0
ReadsConstraint page item old new result =
    (dates : Dates) → AreDates dates → Judges old (i.constraint_judged dates page item) new (i.IsConstraint dates new page item) result

-- a constraint with its line, behind those that stand before
abbrev pub PutsConstraint : Page → Item → Lists → Lists → List (Lined Constraint) → List (Lined Constraint)
    → Result (Unit {0}) (Stop ShapeBreach) → Type 0
PutsConstraint page item old new before after result =
    (dates : Dates) → AreDates dates → Judges old (i.constraint_judged dates page item) new
    (λ u. Puts before after (i.IsLined dates new page item)) result

-- some items were read without a breach, and the rest stands before the reader: what the rest gives by later lists makes the whole
abbrev pub SoFar : Page → List Item → List Item → Lists → Lists → List (Lined Constraint) → Type 0
SoFar page all rest old now list = (dates : Dates) → AreDates dates → (done : List Judgement)
    × (i.constraints_judged dates page all ≡ done ++ i.constraints_judged dates page rest) × AreRight old done now
    × ((final : Lists) (more : List (Lined Constraint)) → Begins final now → i.AreConstraints dates final page rest more
    → i.AreConstraints dates final page all (list ++ more))

-- constraints
abbrev pub ReadsItems : Page → List Item → Lists → Lists → Result (List (Lined Constraint)) (Stop ShapeBreach) → Type 0
ReadsItems page inside old new result =
    (dates : Dates) → AreDates dates → Judges old (i.constraints_judged dates page inside) new (i.AreConstraints dates new page inside) result
