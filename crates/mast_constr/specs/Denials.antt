-- Denials: what is judged of their atoms, and what these give.
use Rattle.std.specs.Prelude.{◌≡◌, ◌⊎◌, ℕ, nat_lt, if◌then◌else◌, List, [], ◌∷◌, ◌++◌, length, Option, Some, Result, Ok, Err, codes, slice_get}
use Rattle.std.specs.List.{flat_map}
use Rattle.std.specs.Str.{bytes_eq}
use Rattle.mast_cq.specs.declared.atom.Arg.{Arg}
use Rattle.mast_cq.specs.declared.atom.Arg.TheVariants as arg
use Rattle.mast_cq.specs.declared.atom.Atom.{Atom}
use Rattle.mast_cq.specs.declared.atom.Atom.TheVariants as atom
use Rattle.mast_terms.specs.declared.date.Date.{Date}
use Rattle.mast_terms.specs.declared.name.Name.{Name}
use Rattle.mast_terms.specs.declared.name.NameKind.TheVariants as kinds
use Rattle.mast_terms.specs.declared.value.Value.{Value as AValue}
use Rattle.mast_terms.specs.Vocabularies.{Lists}
use Rattle.mast_tbox.specs.declared.constraint.TheConstants.{MOST_ATOMS}
use Rattle.mast_tbox.specs.Lists.{AreEach, once}
use Rattle.mast_tree.specs.declared.item.Item.{Item}
use Rattle.mast_tree.specs.declared.shape.ShapeBreach.{ShapeBreach}
use Rattle.mast_tree.specs.declared.shape.ShapeKind.TheVariants.{Shape, Atoms}
use Rattle.mast_tree.specs.Constants.{constant_of}
use Rattle.mast_tree.specs.Judgements.{Judgement, breaks, numbers}
use Rattle.mast_tree.specs.Said.{Said, node, line}
use Rattle.mast_expressions.specs.Given.{IsNamed, IsClassIn, IsAttr}
use Rattle.mast_expressions.specs.Judged.{named_judged, class_judged, attr_judged}
use Rattle.mast_tree.specs.Pages.{Page, says, IsNodeOf}
use Rattle.mast_constr.specs.declared.variables.Sort.TheVariants.{Object, Value}
use Rattle.mast_constr.specs.Variables.{Variables, variable, place, same_name, variable_judged, IsVariable}

-- the dates of texts
abbrev pub Dates : Type 0
Dates = List ℕ → Option Date

-- an argument in the place of an object, behind these places: a variable
abbrev pub object_judged : Page → Variables → Item → List Judgement
object_judged page before item = variable_judged Object before (variable (says page item)) (line (says page item))

-- the place of a variable that an item is in the place of an object
abbrev pub object_place : Page → Item → Variables
object_place page item = place Object (variable (says page item))

-- a constant is numbered, or is a breach
abbrev pub constant_judged : Result AValue ShapeBreach → ℕ → List Judgement
constant_judged (Err breach) at = breaks breach.kind breach.line ∷ []
constant_judged (Ok value) at = numbers value at ∷ []

-- the line of the leaf or string of a constant
abbrev pub inner_line : Page → ℕ → List Item → ℕ
inner_line page at (only ∷ []) = line (says page only)
inner_line page at _ = at

-- a value, by what its item says
abbrev pub value_said : Dates → Page → Variables → Said → List Judgement
value_said dates page before (node word at items) =
    constant_judged (constant_of dates page.doc (node word at items)) (inner_line page at items)
value_said dates page before leaf = variable_judged Value before (variable leaf) (line leaf)

-- an argument in the place of a value: a variable or a constant
abbrev pub value_judged : Dates → Page → Variables → Item → List Judgement
value_judged dates page before item = value_said dates page before (says page item)

-- the inside of the atom of this number, unless it is one too many
abbrev pub unless_many : ℕ → ℕ → List Judgement → List Judgement
unless_many number at inside = if nat_lt number MOST_ATOMS then inside else breaks Atoms at ∷ []

-- a class and an object
abbrev pub class_parts : Page → Variables → Item → Item → List Judgement
class_parts page before class object = class_judged Shape page class ++ object_judged page before object

-- what stands in `Class(..)` at a line, as the atom of a number: these two
abbrev pub class_atom : Page → ℕ → Variables → ℕ → List Item → List Judgement
class_atom page number before at (class ∷ object ∷ []) = unless_many number at (class_parts page before class object)
class_atom page number before at _ = breaks Shape at ∷ []

-- two objects
abbrev pub pair_judged : Page → Variables → Item → Item → List Judgement
pair_judged page before from to = object_judged page before from ++ object_judged page (before ++ object_place page from) to

-- a role and two objects
abbrev pub role_parts : Page → Variables → Item → Item → Item → List Judgement
role_parts page before role from to = named_judged Shape kinds.Role page role ++ pair_judged page before from to

-- what stands in `Role(..)`: these
abbrev pub role_atom : Page → ℕ → Variables → ℕ → List Item → List Judgement
role_atom page number before at (role ∷ from ∷ to ∷ []) = unless_many number at (role_parts page before role from to)
role_atom page number before at _ = breaks Shape at ∷ []

-- an object and a value
abbrev pub filler_judged : Dates → Page → Variables → Item → Item → List Judgement
filler_judged dates page before from value =
    object_judged page before from ++ value_judged dates page (before ++ object_place page from) value

-- an attribute, an object and a value
abbrev pub attr_parts : Dates → Page → Variables → Item → Item → Item → List Judgement
attr_parts dates page before attr from value = attr_judged Shape page attr ++ filler_judged dates page before from value

-- what stands in `Attr(..)`: these
abbrev pub attr_atom : Dates → Page → ℕ → Variables → ℕ → List Item → List Judgement
attr_atom dates page number before at (attr ∷ from ∷ value ∷ []) = unless_many number at (attr_parts dates page before attr from value)
attr_atom dates page number before at _ = breaks Shape at ∷ []

-- an atom, by what its item says
abbrev pub atom_said : Dates → Page → ℕ → Variables → Said → List Judgement
atom_said dates page number before (node word at items) =
    if bytes_eq word (codes "Class") then class_atom page number before at items
    else if bytes_eq word (codes "Role") then role_atom page number before at items
    else if bytes_eq word (codes "Attr") then attr_atom dates page number before at items
    else breaks Shape at ∷ []
atom_said dates page number before other = breaks Shape (line other) ∷ []

-- an atom of a number, from 0, behind those with these places
abbrev pub atom_judged : Dates → Page → ℕ → Variables → Item → List Judgement
atom_judged dates page number before item = atom_said dates page number before (says page item)

-- the places of variables in an atom, in order: its first item is an IRI
abbrev pub places_inside : List ℕ → Page → List Item → Variables
places_inside word page (class ∷ object ∷ []) = object_place page object
places_inside word page (property ∷ from ∷ to ∷ []) =
    object_place page from ++ place (if bytes_eq word (codes "Attr") then Value else Object) (variable (says page to))
places_inside word page _ = []

-- those of an atom, by what its item says
abbrev pub places_said : Page → Said → Variables
places_said page (node word at items) = places_inside word page items
places_said page other = []

-- those of atoms
abbrev pub places : Page → List Item → Variables
places page items = flat_map (λ item. places_said page (says page item)) items

-- the variables of atoms: each once, where it first stands
abbrev pub variables_of : Page → List Item → Variables
variables_of page items = once same_name (places page items)

-- what each element gives, behind those before it
abbrev pub each_behind : {X Y : Type 0} → (List X → X → List Y) → List X → List X → List Y
each_behind f before [] = []
each_behind f before (x ∷ xs) = f before x ++ each_behind f (before ++ x ∷ []) xs

-- an atom behind others: its number is how many they are, and their places stand before it
abbrev pub atom_behind : Dates → Page → List Item → Item → List Judgement
atom_behind dates page before item = atom_judged dates page (length before) (places page before) item

-- atoms, in order
abbrev pub atoms_judged : Dates → Page → List Item → List Judgement
atoms_judged dates page items = each_behind (atom_behind dates page) [] items

-- what stands in `Deny(..)` at a line: one or more atoms
abbrev pub deny_judged : Dates → Page → ℕ → List Item → List Judgement
deny_judged dates page at [] = breaks Shape at ∷ []
deny_judged dates page at (item ∷ items) = atoms_judged dates page (item ∷ items)

-- the variable that the item is, in the place of an object
abbrev pub IsObject : Page → Variables → Item → Arg → Type 0
IsObject page known item x = IsVariable Object known (variable (says page item)) x

-- the argument is the constant, by its number
abbrev pub IsConstant : Lists → AValue → Arg → Type 0
IsConstant lists value arg.Blank = ⊥
IsConstant lists value (arg.Var n) = ⊥
IsConstant lists value (arg.Constant n) = slice_get lists.constants n ≡ Some value

-- the constant or the variable that the item is, in the place of a value
abbrev pub IsValue : Dates → Lists → Page → Variables → Item → Arg → Type 0
IsValue dates lists page known item x =
    ((value : AValue) × (constant_of dates page.doc (says page item) ≡ Ok value) × IsConstant lists value x)
    ⊎ IsVariable Value known (variable (says page item)) x

-- the class and the object that stand in `Class(..)`
abbrev pub IsClassOf : Lists → Page → Variables → List Item → Name → Arg → Type 0
IsClassOf lists page known (class ∷ object ∷ []) a x = IsClassIn lists page class a × IsObject page known object x
IsClassOf lists page known _ a x = ⊥

-- the role and the objects that stand in `Role(..)`
abbrev pub IsRoleOf : Lists → Page → Variables → List Item → Name → Arg → Arg → Type 0
IsRoleOf lists page known (role ∷ from ∷ to ∷ []) p x y =
    IsNamed lists kinds.Role page role p × IsObject page known from x × IsObject page known to y
IsRoleOf lists page known _ p x y = ⊥

-- the attribute, the object and the value that stand in `Attr(..)`
abbrev pub IsAttrAtomOf : Dates → Lists → Page → Variables → List Item → Name → Arg → Arg → Type 0
IsAttrAtomOf dates lists page known (attr ∷ from ∷ value ∷ []) u x y =
    IsAttr lists page attr u × IsObject page known from x × IsValue dates lists page known value y
IsAttrAtomOf dates lists page known _ u x y = ⊥

-- the atom whose node has this inside, by the variables of its denial
abbrev pub IsAtomOf : Dates → Lists → Page → Variables → List Item → Atom → Type 0
IsAtomOf dates lists page known items (atom.Class a x) = IsClassOf lists page known items a x
IsAtomOf dates lists page known items (atom.Role p x y) = IsRoleOf lists page known items p x y
IsAtomOf dates lists page known items (atom.Attr u x y) = IsAttrAtomOf dates lists page known items u x y

-- the word of an atom's node
abbrev pub atom_word : Atom → List ℕ
atom_word (atom.Class a x) = codes "Class"
atom_word (atom.Role p x y) = codes "Role"
atom_word (atom.Attr u x y) = codes "Attr"

-- the atom that the item says
abbrev pub IsAtom : Dates → Lists → Page → Variables → Item → Atom → Type 0
IsAtom dates lists page known item g =
    (items : List Item) × IsNodeOf page (atom_word g) item items × IsAtomOf dates lists page known items g

-- the atoms that stand in `Deny(..)`
abbrev pub AreDenied : Dates → Lists → Page → List Item → List Atom → Type 0
AreDenied dates lists page items atoms = AreEach (IsAtom dates lists page (variables_of page items)) items atoms
