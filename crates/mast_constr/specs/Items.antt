-- The items of the constraints: what is judged of each, and the constraint that it gives.
use Rattle.std.specs.Prelude.{◌≡◌, ℕ, if◌then◌else◌, List, [], ◌∷◌, ◌++◌, codes}
use Rattle.std.specs.Str.{bytes_eq}
use Rattle.mast_terms.specs.Vocabularies.{Lists}
use Rattle.mast_tbox.specs.declared.axiom.Lined.{Lined}
use Rattle.mast_tbox.specs.declared.constraint.Constraint.{Constraint}
use Rattle.mast_tbox.specs.declared.constraint.Constraint.TheVariants as constraint
use Rattle.mast_tbox.specs.declared.expression.Prop.{Prop}
use Rattle.mast_tbox.specs.declared.expression.Prop.TheVariants as prop
use Rattle.mast_tbox.specs.Lists.{AreEach}
use Rattle.mast_tree.specs.declared.item.Item.{Item}
use Rattle.mast_tree.specs.declared.shape.ShapeKind.TheVariants.{Shape}
use Rattle.mast_tree.specs.Judgements.{Judgement, breaks}
use Rattle.mast_tree.specs.Said.{Said, node, line}
use Rattle.mast_expressions.specs.Given.{IsRole}
use Rattle.mast_expressions.specs.Judged.{role_judged}
use Rattle.mast_tree.specs.Pages.{Page, says, IsNodeOf}
use Rattle.mast_constr.specs.Denials.{Dates, deny_judged, AreDenied}
use Rattle.mast_constr.specs.Paths.{attribute_judged, identify_judged, IsAttrOf, AreIdentified}

-- a property, by what its item says
abbrev pub prop_said : Page → Item → Said → List Judgement
prop_said page item (node word at items) =
    if bytes_eq word (codes "Attr") then attribute_judged page at items else role_judged Shape page item
prop_said page item leaf = role_judged Shape page item

-- a property: a Role or `Attr(IRI)`
abbrev pub prop_judged : Page → Item → List Judgement
prop_judged page item = prop_said page item (says page item)

-- what stands in `Functional(..)` at a line: a property
abbrev pub functional_judged : Page → ℕ → List Item → List Judgement
functional_judged page at (only ∷ []) = prop_judged page only
functional_judged page at _ = breaks Shape at ∷ []

-- a constraint, by what its item says
abbrev pub constraint_said : Dates → Page → Said → List Judgement
constraint_said dates page (node word at items) =
    if bytes_eq word (codes "Functional") then functional_judged page at items
    else if bytes_eq word (codes "Identify") then identify_judged page at items
    else if bytes_eq word (codes "Deny") then deny_judged dates page at items
    else breaks Shape at ∷ []
constraint_said dates page other = breaks Shape (line other) ∷ []

-- a constraint: `Functional(..)`, `Identify(..)` or `Deny(..)`
abbrev pub constraint_judged : Dates → Page → Item → List Judgement
constraint_judged dates page item = constraint_said dates page (says page item)

-- constraints, in order
abbrev pub constraints_judged : Dates → Page → List Item → List Judgement
constraints_judged dates page [] = []
constraints_judged dates page (item ∷ items) = constraint_judged dates page item ++ constraints_judged dates page items

-- the property that the item says
abbrev pub IsProp : Lists → Page → Item → Prop → Type 0
IsProp lists page item (prop.Role r) = IsRole lists page item r
IsProp lists page item (prop.Attr u) = (items : List Item) × IsNodeOf page (codes "Attr") item items × IsAttrOf lists page items u

-- the property that stands in `Functional(..)`
abbrev pub IsFunctionalOf : Lists → Page → List Item → Prop → Type 0
IsFunctionalOf lists page (only ∷ []) p = IsProp lists page only p
IsFunctionalOf lists page _ p = ⊥

-- the constraint that stands inside a node of its word
abbrev pub IsConstraintOf : Dates → Lists → Page → List Item → Constraint → Type 0
IsConstraintOf dates lists page items (constraint.Functional p) = IsFunctionalOf lists page items p
IsConstraintOf dates lists page items (constraint.Identify concept paths) = AreIdentified lists page items concept paths
IsConstraintOf dates lists page items (constraint.Deny atoms) = AreDenied dates lists page items atoms

-- the word of a constraint's node
abbrev pub constraint_word : Constraint → List ℕ
constraint_word (constraint.Functional p) = codes "Functional"
constraint_word (constraint.Identify concept paths) = codes "Identify"
constraint_word (constraint.Deny atoms) = codes "Deny"

-- the constraint that the item says
abbrev pub IsConstraint : Dates → Lists → Page → Item → Constraint → Type 0
IsConstraint dates lists page item c =
    (items : List Item) × IsNodeOf page (constraint_word c) item items × IsConstraintOf dates lists page items c

-- the constraint that the item says, with its line
abbrev pub IsLined : Dates → Lists → Page → Item → Lined Constraint → Type 0
IsLined dates lists page item l = (l.line ≡ line (says page item)) × IsConstraint dates lists page item l.item

-- the constraints that the items say, each in its place
abbrev pub AreConstraints : Dates → Lists → Page → List Item → List (Lined Constraint) → Type 0
AreConstraints dates lists page items list = AreEach (IsLined dates lists page) items list
