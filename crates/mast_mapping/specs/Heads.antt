-- Heads of maps: what is judged of one, and the head that it is.
use Rattle.std.specs.Prelude.{◌≡◌, ℕ, if◌then◌else◌, List, [], ◌∷◌, ◌++◌, Option, Some, None, Result, Ok, Err, codes}
use Rattle.std.specs.Str.{bytes_eq}
use Rattle.mast_terms.specs.declared.date.Date.{Date}
use Rattle.mast_terms.specs.declared.name.Name.{Name}
use Rattle.mast_terms.specs.declared.name.NameKind.{NameKind}
use Rattle.mast_terms.specs.declared.name.NameKind.TheVariants as kind
use Rattle.mast_terms.specs.declared.value.Value.{Value}
use Rattle.mast_terms.specs.Vocabularies.{Lists, stands}
use Rattle.mast_tree.specs.Seen.{Document}
use Rattle.mast_tree.specs.declared.item.Item.{Item}
use Rattle.mast_tree.specs.declared.shape.ShapeBreach.{ShapeBreach}
use Rattle.mast_tree.specs.declared.shape.ShapeKind.TheVariants as shape
use Rattle.mast_tree.specs.Constants.{identifier_of, constant_of}
use Rattle.mast_tree.specs.Judgements.{Judgement, breaks, breach_judged}
use Rattle.mast_tree.specs.MainNode.{Prefixes}
use Rattle.mast_tree.specs.Names.{name_judged, IsName}
use Rattle.mast_tree.specs.Prefixes.{shape_at}
use Rattle.mast_tree.specs.Said.{Said, name, node, line, said}
use Rattle.mast_mapping.specs.declared.map.Head.{Head}
use Rattle.mast_mapping.specs.declared.map.Head.TheVariants as head
use Rattle.mast_mapping.specs.declared.map.Slot.{Slot}
use Rattle.mast_mapping.specs.declared.map.Slot.TheVariants as slot
use Rattle.mast_mapping.specs.declared.map.Template.{Template}
use Rattle.mast_mapping.specs.Declarations.{wrong_at}

-- what heads are read by: the document and its prefixes, the outputs of the source query, and the dates of texts
pub record Scope : Type 0 where
  pub doc : Document
  pub prefixes : Prefixes
  pub outputs : List (List ℕ)
  pub dates : List ℕ → Option Date

-- an output of the source query
abbrev pub output_among : List (List ℕ) → Result (List ℕ) ShapeBreach → ℕ → Result Slot ShapeBreach
output_among outputs (Err breach) at = Err breach
output_among outputs (Ok word) at = if stands word outputs then Ok (slot.Output word) else Err (wrong_at shape.UnknownColumn at)

-- a constant in a slot
abbrev pub constant_slot : Result Value ShapeBreach → Result Slot ShapeBreach
constant_slot (Err breach) = Err breach
constant_slot (Ok value) = Ok (slot.Constant value)

-- a slot: a leaf that is an identifier and an output, or else a constant
abbrev pub slot_of : Scope → Said → Result Slot ShapeBreach
slot_of scope (name word at) = output_among scope.outputs (identifier_of (name word at)) at
slot_of scope other = constant_slot (constant_of scope.dates scope.doc other)

-- what comes of the slots with one more, or its breach
abbrev pub with_slot : List Slot → Result Slot ShapeBreach → (List Slot → Result (List Slot) ShapeBreach) → Result (List Slot) ShapeBreach
with_slot before (Err breach) later = Err breach
with_slot before (Ok one) later = later (before ++ one ∷ [])

-- these slots and those of some items, or the first breach
abbrev pub slots_of : Scope → List Slot → List Item → Result (List Slot) ShapeBreach
slots_of scope before [] = Ok before
slots_of scope before (item ∷ items) = with_slot before (slot_of scope (said scope.doc item)) (λ more. slots_of scope more items)

-- an object of these parts, or the first breach among them
abbrev pub object_of_parts : Result (List ℕ) ShapeBreach → Result (List Slot) ShapeBreach → Result Template ShapeBreach
object_of_parts (Err breach) slots = Err breach
object_of_parts (Ok symbol) (Err breach) = Err breach
object_of_parts (Ok symbol) (Ok slots) = Ok (record { symbol = symbol; args = slots })

-- the items of an `Obj` node: a symbol and any number of slots
abbrev pub object_in : Scope → ℕ → List Item → Result Template ShapeBreach
object_in scope at [] = Err (shape_at at)
object_in scope at (symbol ∷ slots) = object_of_parts (identifier_of (said scope.doc symbol)) (slots_of scope [] slots)

-- an object: `Obj(SYMBOL SLOT ..)`
abbrev pub object_of : Scope → Said → Result Template ShapeBreach
object_of scope (node word at items) = if bytes_eq word (codes "Obj") then object_in scope at items else Err (shape_at at)
object_of scope other = Err (shape_at (line other))

-- the kind of the name in a head of this word
abbrev pub head_kind : List ℕ → Option NameKind
head_kind word =
    if bytes_eq word (codes "Class") then Some kind.Class
    else if bytes_eq word (codes "Role") then Some kind.Role
    else if bytes_eq word (codes "Attr") then Some kind.Attr
    else None

-- what is judged of a name in a head
abbrev pub head_name_judged : Scope → NameKind → Item → List Judgement
head_name_judged scope k item = name_judged k scope.doc scope.prefixes item

-- what is judged of an object in a head
abbrev pub object_judged : Scope → Item → List Judgement
object_judged scope item = breach_judged (object_of scope (said scope.doc item))

-- what is judged of a value in a head
abbrev pub value_judged : Scope → Item → List Judgement
value_judged scope item = breach_judged (slot_of scope (said scope.doc item))

-- `Class(IRI object)`, `Role(IRI object object)` or `Attr(IRI object slot)`: the items in their order
abbrev pub items_of_head_judged : Scope → Option NameKind → ℕ → List Item → List Judgement
items_of_head_judged scope (Some kind.Class) at (iri ∷ (subject ∷ [])) =
    head_name_judged scope kind.Class iri ++ object_judged scope subject
items_of_head_judged scope (Some kind.Role) at (iri ∷ (from ∷ (to ∷ []))) =
    head_name_judged scope kind.Role iri ++ (object_judged scope from ++ object_judged scope to)
items_of_head_judged scope (Some kind.Attr) at (iri ∷ (from ∷ (value ∷ []))) =
    head_name_judged scope kind.Attr iri ++ (object_judged scope from ++ value_judged scope value)
items_of_head_judged scope word at items = breaks shape.Shape at ∷ []

-- what is judged of a head
abbrev pub head_judged : Scope → Said → List Judgement
head_judged scope (node word at items) = items_of_head_judged scope (head_kind word) at items
head_judged scope other = breaks shape.Shape (line other) ∷ []

-- what is judged of heads, in order
abbrev pub heads_judged : Scope → List Item → List Judgement
heads_judged scope [] = []
heads_judged scope (item ∷ items) = head_judged scope (said scope.doc item) ++ heads_judged scope items

-- the item of a head is this object
abbrev pub IsObject : Scope → Item → Template → Type 0
IsObject scope item one = object_of scope (said scope.doc item) ≡ Ok one

-- the item of a head is this slot
abbrev pub IsSlot : Scope → Item → Slot → Type 0
IsSlot scope item one = slot_of scope (said scope.doc item) ≡ Ok one

-- `Class(IRI object)`: the head is of the class that the IRI names, and of the object
pub record IsClassHead (lists : Lists) (scope : Scope) (items : List Item) (h : Head) : Type 0 where
  pub iri : Item
  pub item : Item
  pub number : Name
  pub subject : Template
  pub form : items ≡ iri ∷ (item ∷ [])
  pub is : h ≡ head.Class number subject
  pub named : IsName lists kind.Class scope.doc scope.prefixes iri number
  pub object : IsObject scope item subject

-- `Role(IRI object object)`: the head is of the role that the IRI names, and of the objects
pub record IsRoleHead (lists : Lists) (scope : Scope) (items : List Item) (h : Head) : Type 0 where
  pub iri : Item
  pub first : Item
  pub second : Item
  pub number : Name
  pub from : Template
  pub to : Template
  pub form : items ≡ iri ∷ (first ∷ (second ∷ []))
  pub is : h ≡ head.Role number from to
  pub named : IsName lists kind.Role scope.doc scope.prefixes iri number
  pub from_object : IsObject scope first from
  pub to_object : IsObject scope second to

-- `Attr(IRI object slot)`: the head is of the attribute that the IRI names, of the object and of the slot
pub record IsAttrHead (lists : Lists) (scope : Scope) (items : List Item) (h : Head) : Type 0 where
  pub iri : Item
  pub first : Item
  pub second : Item
  pub number : Name
  pub from : Template
  pub value : Slot
  pub form : items ≡ iri ∷ (first ∷ (second ∷ []))
  pub is : h ≡ head.Attr number from value
  pub named : IsName lists kind.Attr scope.doc scope.prefixes iri number
  pub from_object : IsObject scope first from
  pub value_slot : IsSlot scope second value

-- the items of a head of this kind are those of this head, whose name is numbered by the lists
abbrev pub IsHeadOf : Lists → Scope → Option NameKind → List Item → Head → Type 0
IsHeadOf lists scope (Some kind.Class) items h = IsClassHead lists scope items h
IsHeadOf lists scope (Some kind.Role) items h = IsRoleHead lists scope items h
IsHeadOf lists scope (Some kind.Attr) items h = IsAttrHead lists scope items h
IsHeadOf lists scope None items h = ⊥

-- what is said is this head
abbrev pub IsHead : Lists → Scope → Said → Head → Type 0
IsHead lists scope (node word at items) h = IsHeadOf lists scope (head_kind word) items h
IsHead lists scope other h = ⊥

-- the items are these heads, in order
abbrev pub AreHeads : Lists → Scope → List Item → List Head → Type 0
AreHeads lists scope [] [] = Unit {0}
AreHeads lists scope (item ∷ items) (h ∷ heads) = IsHead lists scope (said scope.doc item) h × AreHeads lists scope items heads
AreHeads lists scope items heads = ⊥
