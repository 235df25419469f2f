-- Paths and identifications: what is judged of them, and what they give.
use Rattle.std.specs.Prelude.{ℕ, ◌+◌, ◌*◌, ◌||◌, Bool, true, false, nat_lt, if◌then◌else◌, List, [], ◌∷◌, ◌++◌, length, codes}
use Rattle.std.specs.Str.{bytes_eq}
use Rattle.mast_terms.specs.declared.name.Name.{Name}
use Rattle.mast_terms.specs.Vocabularies.{Lists}
use Rattle.mast_tbox.specs.declared.expression.Basic.{Basic}
use Rattle.mast_tbox.specs.declared.constraint.Step.{Step}
use Rattle.mast_tbox.specs.declared.constraint.Step.TheVariants as step
use Rattle.mast_tbox.specs.declared.constraint.TheConstants.{MOST_ATOMS}
use Rattle.mast_tbox.specs.Lists.{AreEach}
use Rattle.mast_tree.specs.declared.item.Item.{Item}
use Rattle.mast_tree.specs.declared.shape.ShapeKind.TheVariants.{Shape, Atoms}
use Rattle.mast_tree.specs.Empty.{is_empty}
use Rattle.mast_tree.specs.Judgements.{Judgement, breaks}
use Rattle.mast_tree.specs.Said.{Said, name, iri, text, tagged, binding, node, line}
use Rattle.mast_expressions.specs.Given.{IsClassIn, IsAttr, IsRole, IsLeft}
use Rattle.mast_expressions.specs.Judged.{class_judged, attr_judged, role_judged, left_judged}
use Rattle.mast_tree.specs.Pages.{Page, says, IsNodeOf}

-- what stands in `Test(..)` at a line: a class
abbrev pub test_judged : Page → ℕ → List Item → List Judgement
test_judged page at (only ∷ []) = class_judged Shape page only
test_judged page at _ = breaks Shape at ∷ []

-- what stands in `Attr(..)` at a line: an attribute
abbrev pub attribute_judged : Page → ℕ → List Item → List Judgement
attribute_judged page at (only ∷ []) = attr_judged Shape page only
attribute_judged page at _ = breaks Shape at ∷ []

-- an `Attr` node, which stands last in a path
abbrev pub last_judged : Bool → Page → ℕ → List Item → List Judgement
last_judged true page at items = attribute_judged page at items
last_judged false page at items = breaks Shape at ∷ []

-- a step, by what its item says
abbrev pub step_said : Bool → Page → Item → Said → List Judgement
step_said last page item (node word at items) =
    if bytes_eq word (codes "Test") then test_judged page at items
    else if bytes_eq word (codes "Attr") then last_judged last page at items
    else role_judged Shape page item
step_said last page item leaf = role_judged Shape page item

-- a step: a Role, `Test(IRI)`, or as the last one `Attr(IRI)`
abbrev pub step_judged : Bool → Page → Item → List Judgement
step_judged last page item = step_said last page item (says page item)

-- the steps of a path, in order
abbrev pub steps_judged : Page → List Item → List Judgement
steps_judged page [] = []
steps_judged page (item ∷ items) = step_judged (is_empty items) page item ++ steps_judged page items

-- it looks like a role, an inverse role or an attribute: a leaf, an `ObjectInverseOf` node or an `Attr` node, right or wrong inside
abbrev pub leads : Said → Bool
leads (name word at) = true
leads (iri word at) = true
leads (text chars at) = false
leads (tagged at) = false
leads (binding at) = false
leads (node word at items) = bytes_eq word (codes "ObjectInverseOf") || bytes_eq word (codes "Attr")

-- some item does
abbrev pub some_leads : Page → List Item → Bool
some_leads page [] = false
some_leads page (item ∷ items) = leads (says page item) || some_leads page items

-- what stands in `Path(..)` at a line
abbrev pub path_items : Page → ℕ → List Item → List Judgement
path_items page at items = if some_leads page items then steps_judged page items else breaks Shape at ∷ []

-- a path, by what its item says
abbrev pub path_said : Page → Said → List Judgement
path_said page (node word at items) = if bytes_eq word (codes "Path") then path_items page at items else breaks Shape at ∷ []
path_said page other = breaks Shape (line other) ∷ []

-- a path: a `Path` node of steps, of which one leads
abbrev pub path_judged : Page → Item → List Judgement
path_judged page item = path_said page (says page item)

-- paths, in order
abbrev pub paths_judged : Page → List Item → List Judgement
paths_judged page [] = []
paths_judged page (item ∷ items) = path_judged page item ++ paths_judged page items

-- how many items stand in a `Path` node
abbrev pub path_length : Said → ℕ
path_length (node word at items) = if bytes_eq word (codes "Path") then length items else 0
path_length other = 0

-- how many stand in all `Path` nodes
abbrev pub all_steps : Page → List Item → ℕ
all_steps page [] = 0
all_steps page (item ∷ items) = path_length (says page item) + all_steps page items

-- the atoms of the violation query of an identification whose paths have so many steps are too many
abbrev pub are_many : ℕ → Bool
are_many steps = nat_lt MOST_ATOMS (2 + 2 * steps)

-- a left side and paths
abbrev pub concept_paths : Page → Item → List Item → List Judgement
concept_paths page left paths = left_judged page left ++ paths_judged page paths

-- the same, where the paths are not too long
abbrev pub identified_judged : Bool → Page → ℕ → Item → List Item → List Judgement
identified_judged true page at left paths = breaks Atoms at ∷ []
identified_judged false page at left paths = concept_paths page left paths

-- what stands in `Identify(..)` at a line: a left side and one or more paths
abbrev pub identify_judged : Page → ℕ → List Item → List Judgement
identify_judged page at (left ∷ path ∷ paths) =
    identified_judged (are_many (all_steps page (path ∷ paths))) page at left (path ∷ paths)
identify_judged page at _ = breaks Shape at ∷ []

-- the class that `Test(..)` has inside
abbrev pub IsTestOf : Lists → Page → List Item → Name → Type 0
IsTestOf lists page (only ∷ []) a = IsClassIn lists page only a
IsTestOf lists page _ a = ⊥

-- the attribute that `Attr(..)` has inside
abbrev pub IsAttrOf : Lists → Page → List Item → Name → Type 0
IsAttrOf lists page (only ∷ []) u = IsAttr lists page only u
IsAttrOf lists page _ u = ⊥

-- the step that the item says
abbrev pub IsStep : Lists → Page → Item → Step → Type 0
IsStep lists page item (step.Role r) = IsRole lists page item r
IsStep lists page item (step.Test a) = (items : List Item) × IsNodeOf page (codes "Test") item items × IsTestOf lists page items a
IsStep lists page item (step.Attr u) = (items : List Item) × IsNodeOf page (codes "Attr") item items × IsAttrOf lists page items u

-- the path that the item says: each item inside is a step
abbrev pub IsPath : Lists → Page → Item → List Step → Type 0
IsPath lists page item steps =
    (items : List Item) × IsNodeOf page (codes "Path") item items × AreEach (IsStep lists page) items steps

-- the concept and the paths that stand in `Identify(..)`
abbrev pub AreIdentified : Lists → Page → List Item → Basic → List (List Step) → Type 0
AreIdentified lists page [] concept paths = ⊥
AreIdentified lists page (left ∷ items) concept paths = IsLeft lists page left concept × AreEach (IsPath lists page) items paths
