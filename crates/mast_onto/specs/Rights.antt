-- Right sides: the parts of one, what is judged of them, and what they give.
use Rattle.std.specs.Prelude.{⊤, ℕ, Bool, false, if◌then◌else◌, List, [], ◌∷◌, ◌++◌, Option, Some, None, Result, Ok, Err, codes}
use Rattle.std.specs.List.{flat_map}
use Rattle.std.specs.Str.{bytes_eq}
use Rattle.mast_terms.specs.Vocabularies.{Lists}
use Rattle.mast_tree.specs.declared.item.Item.{Item, para-Item}
use Rattle.mast_tree.specs.declared.item.Item.TheOpen.{Item-F}
use Rattle.mast_tree.specs.declared.shape.ShapeBreach.{ShapeBreach}
use Rattle.mast_tree.specs.declared.shape.ShapeKind.TheVariants.{Shape, NotDlLite}
use Rattle.mast_tree.specs.Judgements.{Judgement, breaks}
use Rattle.mast_tree.specs.Said.{Said, node}
use Rattle.mast_tree.specs.Pages.{Page, says, names}
use Rattle.mast_expressions.specs.Iris.{owl_thing}
use Rattle.mast_expressions.specs.Judged.{class_judged, role_judged, left_judged}
use Rattle.mast_expressions.specs.Given.{IsClassIn, IsRole, IsLeft}
use Rattle.mast_onto.specs.declared.statement.Part.{Part}
use Rattle.mast_onto.specs.declared.statement.Part.TheVariants as part

-- the form of a part: owl:Thing, a left side, a role with the class of its filler, a complement, or a wrong number of items
pub data PartForm : Type 0 where
  thing : PartForm
  left : Item → PartForm
  filled : Item → Item → PartForm
  complement : Item → PartForm
  wrong : ℕ → PartForm

-- an IRI that is owl:Thing
abbrev pub is_thing : Result (List ℕ) ShapeBreach → Bool
is_thing (Ok iri) = bytes_eq iri owl_thing
is_thing (Err breach) = false

-- `ObjectSomeValuesFrom(Role owl:Thing)` is a left side, and any other filler is a class
abbrev pub filled_form : Page → Item → ℕ → List Item → PartForm
filled_form page item at (role ∷ filler ∷ []) = if is_thing (names page filler) then left item else filled role filler
filled_form page item at _ = wrong at

-- `ObjectComplementOf(Left)`
abbrev pub complement_form : ℕ → List Item → PartForm
complement_form at (only ∷ []) = complement only
complement_form at _ = wrong at

-- a node as a part
abbrev pub part_node : Page → Item → List ℕ → ℕ → List Item → PartForm
part_node page item word at items =
    if bytes_eq word (codes "ObjectSomeValuesFrom") then filled_form page item at items
    else if bytes_eq word (codes "ObjectComplementOf") then complement_form at items
    else left item

-- another item as a part
abbrev pub part_leaf : Page → Item → PartForm
part_leaf page item = if is_thing (names page item) then thing else left item

-- the form of a part, by what its item says
abbrev pub part_said : Page → Item → Said → PartForm
part_said page item (node word at items) = part_node page item word at items
part_said page item leaf = part_leaf page item

-- the form of a part
abbrev pub part_form : Page → Item → PartForm
part_form page item = part_said page item (says page item)

-- the line of an intersection
abbrev pub intersection : Said → Option ℕ
intersection (node word at items) = if bytes_eq word (codes "ObjectIntersectionOf") then Some at else None
intersection leaf = None

-- `ObjectIntersectionOf` of two or more right sides, each of which has these parts
abbrev pub both_forms : {T : Type 0} → (T → List PartForm) → ℕ → List T → List PartForm
both_forms forms at (first ∷ second ∷ more) = flat_map forms (first ∷ second ∷ more)
both_forms forms at _ = wrong at ∷ []

-- the parts of a node: of an intersection those of each item inside it, and of another node itself
abbrev pub opened : {T : Type 0} → Page → (T → List PartForm) → Item → List T → Option ℕ → List PartForm
opened page forms item inside None = part_form page item ∷ []
opened page forms item inside (Some at) = both_forms forms at inside

-- the parts of an item that stands beside what gives them
abbrev pub given : Item × (Item → List PartForm) → List PartForm
given p = p.1 p.0

-- the parts of an item with this layer, in which each item inside stands beside what gives its parts
abbrev pub right_layer : Page → Item-F (Item × (Item → List PartForm)) → Item → List PartForm
right_layer page (Item-F.Node token inside) item = opened page given item inside (intersection (says page item))
right_layer page leaf item = part_form page item ∷ []

-- the parts of a right side, by recursion on its tree (`para-Item`), of which each layer gives the parts of its item
abbrev pub right_forms : Page → Item → List PartForm
right_forms page item = para-Item (Item → List PartForm) (right_layer page) item item

-- what is judged of a part
abbrev pub part_judged : Page → PartForm → List Judgement
part_judged page thing = []
part_judged page (left item) = left_judged page item
part_judged page (filled role filler) = role_judged NotDlLite page role ++ class_judged NotDlLite page filler
part_judged page (complement item) = left_judged page item
part_judged page (wrong at) = breaks Shape at ∷ []

-- Right: Left; owl:Thing; `ObjectSomeValuesFrom(Role Class)`; `ObjectComplementOf(Left)`; `ObjectIntersectionOf` of two or more Right
abbrev pub right_judged : Page → Item → List Judgement
right_judged page item = flat_map (part_judged page) (right_forms page item)

-- the part that a form gives
abbrev pub IsPart : Page → Lists → PartForm → Part → Type 0
IsPart page lists thing part.Thing = ⊤
IsPart page lists (left item) (part.Basic b) = IsLeft lists page item b
IsPart page lists (filled role filler) (part.Qualified r a) = IsRole lists page role r × IsClassIn lists page filler a
IsPart page lists (complement item) (part.Complement b) = IsLeft lists page item b
IsPart page lists _ _ = ⊥
