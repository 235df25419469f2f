-- The forms of what stands among the axioms: its places, by its word, behind the annotations at its front.
use Rattle.std.specs.Prelude.{ℕ, Bool, true, false, ◌||◌, if◌then◌else◌, List, [], ◌∷◌, length, Option, Some, None, codes}
use Rattle.std.specs.Str.{bytes_eq}
use Rattle.mast_terms.specs.declared.name.NameKind.{NameKind}
use Rattle.mast_terms.specs.declared.name.NameKind.TheVariants as kinds
use Rattle.mast_tree.specs.declared.item.Item.{Item}
use Rattle.mast_tree.specs.declared.shape.ShapeKind.{ShapeKind}
use Rattle.mast_tree.specs.declared.shape.ShapeKind.TheVariants as shape
use Rattle.mast_tree.specs.Said.{Said, node, line}
use Rattle.mast_tree.specs.Pages.{Page, says}
use Rattle.mast_onto.specs.Forms.{form_of, fits}
use Rattle.mast_onto.specs.declared.form.Form.{Form}
use Rattle.mast_onto.specs.declared.form.Form.TheVariants as form
use Rattle.mast_onto.specs.declared.form.Place.{Place}
use Rattle.mast_onto.specs.declared.form.Relation.{Relation}

-- the form of an axiom with the items in its places: one that says nothing; a declared name of a kind, or of none that counts; a list;
-- a concept and a right side; an attribute and a type; or a breach whatever the names
pub data AxiomForm : Type 0 where
  nothing : AxiomForm
  declared : Option NameKind → Item → AxiomForm
  listed : Place → Relation → List Item → AxiomForm
  below : Place → Bool → Item → Item → AxiomForm
  range : Item → Item → AxiomForm
  wrong : ShapeKind → ℕ → AxiomForm

-- an `Annotation` node
abbrev pub is_annotation : Said → Bool
is_annotation (node word at items) = bytes_eq word (codes "Annotation")
is_annotation leaf = false

-- the items behind the annotations at the front
abbrev pub behind_annotations : Page → List Item → List Item
behind_annotations page [] = []
behind_annotations page (item ∷ items) = if is_annotation (says page item) then behind_annotations page items else item ∷ items

-- the nodes of a declaration that add a name
abbrev pub declared_kind : List ℕ → Option NameKind
declared_kind word =
    if bytes_eq word (codes "Class") then Some kinds.Class
    else if bytes_eq word (codes "ObjectProperty") then Some kinds.Role
    else if bytes_eq word (codes "DataProperty") then Some kinds.Attr
    else None

-- those that add none
abbrev pub declares_nothing : List ℕ → Bool
declares_nothing word =
    bytes_eq word (codes "AnnotationProperty") || (bytes_eq word (codes "Datatype") || bytes_eq word (codes "NamedIndividual"))

-- one IRI in the node of a declaration
abbrev pub declared_one : Option NameKind → ℕ → List Item → AxiomForm
declared_one kind at (only ∷ []) = declared kind only
declared_one kind at _ = wrong shape.Shape at

-- the node of a declaration that adds no name, or another node
abbrev pub declared_other : List ℕ → ℕ → List Item → AxiomForm
declared_other word at items = if declares_nothing word then declared_one None at items else wrong shape.NotDlLite at

-- the node of a declaration, by the kind of its name
abbrev pub declared_node : Option NameKind → List ℕ → ℕ → List Item → AxiomForm
declared_node (Some kind) word at items = declared_one (Some kind) at items
declared_node None word at items = declared_other word at items

-- what stands in a declaration: a node
abbrev pub declared_said : Said → AxiomForm
declared_said (node word at items) = declared_node (declared_kind word) word at items
declared_said leaf = wrong shape.Shape (line leaf)

-- `Declaration` of one node
abbrev pub declaration : Page → ℕ → List Item → AxiomForm
declaration page at (only ∷ []) = declared_said (says page only)
declaration page at _ = wrong shape.Shape at

-- a list of the length that is wanted
abbrev pub list_of : Bool → Place → Relation → ℕ → List Item → AxiomForm
list_of true place relation at items = listed place relation items
list_of false place relation at items = wrong shape.Shape at

-- a place and a right side
abbrev pub below_two : Place → Bool → ℕ → List Item → AxiomForm
below_two place turned at (sub ∷ sup ∷ []) = below place turned sub sup
below_two place turned at _ = wrong shape.Shape at

-- an attribute and a type
abbrev pub range_two : ℕ → List Item → AxiomForm
range_two at (attr ∷ of_type ∷ []) = range attr of_type
range_two at _ = wrong shape.Shape at

-- a node among the axioms at a line, by its form and the items behind its annotations
abbrev pub node_form : Page → Form → ℕ → List Item → AxiomForm
node_form page form.Skipped at items = nothing
node_form page form.Assertion at items = wrong shape.AssertionHere at
node_form page form.Declaration at items = declaration page at items
node_form page (form.Listed place relation) at items = list_of (fits relation (length items)) place relation at items
node_form page (form.Below place turned) at items = below_two place turned at items
node_form page form.AttrRange at items = range_two at items
node_form page form.Other at items = wrong shape.NotDlLite at

-- what stands among the axioms, by what it says
abbrev pub axiom_said : Page → Said → AxiomForm
axiom_said page (node word at items) = node_form page (form_of word) at (behind_annotations page items)
axiom_said page leaf = wrong shape.Shape (line leaf)

-- the form of what stands among the axioms
abbrev pub axiom_form : Page → Item → AxiomForm
axiom_form page item = axiom_said page (says page item)
