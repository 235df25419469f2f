-- What is judged of an item in the place of a class, a role, an attribute or a left side, in preorder.
-- The kind of breach that another node is in the place is an argument; inside an inverse and on a left side it is NotDlLite.
use Rattle.std.specs.Prelude.{ℕ, if◌then◌else◌, List, [], ◌∷◌, ◌++◌, Result, Ok, Err, codes}
use Rattle.std.specs.Str.{bytes_eq}
use Rattle.mast_terms.specs.declared.name.NameKind.{NameKind}
use Rattle.mast_terms.specs.declared.name.NameKind.TheVariants as kinds
use Rattle.mast_tree.specs.declared.item.Item.{Item}
use Rattle.mast_tree.specs.declared.shape.ShapeBreach.{ShapeBreach}
use Rattle.mast_tree.specs.declared.shape.ShapeKind.{ShapeKind}
use Rattle.mast_tree.specs.declared.shape.ShapeKind.TheVariants.{Shape, Datatype, NotDlLite, TopOnLeft}
use Rattle.mast_tree.specs.Judgements.{Judgement, breaks}
use Rattle.mast_tree.specs.Names.{iri_judged}
use Rattle.mast_tree.specs.Said.{Said, node, line}
use Rattle.mast_tree.specs.Pages.{Page, says, names}
use Rattle.mast_expressions.specs.Iris.{owl_thing, rdfs_literal, expanded}

-- an IRI as a name of a kind
abbrev pub named_judged : ShapeKind → NameKind → Page → Item → List Judgement
named_judged other kind page item = iri_judged kind (expanded other page item) (line (says page item))

-- Class: an IRI
abbrev pub class_judged : ShapeKind → Page → Item → List Judgement
class_judged other page item = named_judged other kinds.Class page item

-- what stands in `ObjectInverseOf(..)` at a line: one IRI
abbrev pub inverse_judged : Page → ℕ → List Item → List Judgement
inverse_judged page at (only ∷ []) = named_judged NotDlLite kinds.Role page only
inverse_judged page at _ = breaks Shape at ∷ []

-- a node in the place of a role
abbrev pub role_node : ShapeKind → Page → List ℕ → ℕ → List Item → List Judgement
role_node other page word at items =
    if bytes_eq word (codes "ObjectInverseOf") then inverse_judged page at items else breaks other at ∷ []

-- a role, by what its item says
abbrev pub role_said : ShapeKind → Page → Item → Said → List Judgement
role_said other page item (node word at items) = role_node other page word at items
role_said other page item leaf = named_judged other kinds.Role page item

-- Role: an IRI, or `ObjectInverseOf` of one IRI
abbrev pub role_judged : ShapeKind → Page → Item → List Judgement
role_judged other page item = role_said other page item (says page item)

-- Attr: an IRI
abbrev pub attr_judged : ShapeKind → Page → Item → List Judgement
attr_judged other page item = named_judged other kinds.Attr page item

-- an IRI that is to be the wanted one; another is a breach of this kind
abbrev pub compared : List ℕ → ShapeKind → Result (List ℕ) ShapeBreach → ℕ → List Judgement
compared wanted other (Err breach) at = breaks breach.kind breach.line ∷ []
compared wanted other (Ok named) at = if bytes_eq named wanted then [] else breaks other at ∷ []

-- an item that is to be the wanted IRI; another IRI is a breach of this kind, and a node is NotDlLite
abbrev pub is_iri_judged : List ℕ → ShapeKind → Page → Item → List Judgement
is_iri_judged wanted other page item = compared wanted other (expanded NotDlLite page item) (line (says page item))

-- a role and owl:Thing
abbrev pub some_parts : Page → Item → Item → List Judgement
some_parts page role filler = role_judged NotDlLite page role ++ is_iri_judged owl_thing NotDlLite page filler

-- what stands in `ObjectSomeValuesFrom(..)` on a left side at a line: these two
abbrev pub some_judged : Page → ℕ → List Item → List Judgement
some_judged page at (role ∷ filler ∷ []) = some_parts page role filler
some_judged page at _ = breaks Shape at ∷ []

-- an attribute and rdfs:Literal
abbrev pub subjects_parts : Page → Item → Item → List Judgement
subjects_parts page attr filler = attr_judged NotDlLite page attr ++ is_iri_judged rdfs_literal Datatype page filler

-- what stands in `DataSomeValuesFrom(..)` at a line: these two
abbrev pub subjects_judged : Page → ℕ → List Item → List Judgement
subjects_judged page at (attr ∷ filler ∷ []) = subjects_parts page attr filler
subjects_judged page at _ = breaks Shape at ∷ []

-- a node on a left side
abbrev pub left_node : Page → List ℕ → ℕ → List Item → List Judgement
left_node page word at items =
    if bytes_eq word (codes "ObjectSomeValuesFrom") then some_judged page at items
    else if bytes_eq word (codes "DataSomeValuesFrom") then subjects_judged page at items
    else breaks NotDlLite at ∷ []

-- an IRI on a left side: a class, and not owl:Thing
abbrev pub left_iri : Result (List ℕ) ShapeBreach → ℕ → List Judgement
left_iri (Err breach) at = breaks breach.kind breach.line ∷ []
left_iri (Ok named) at = if bytes_eq named owl_thing then breaks TopOnLeft at ∷ [] else iri_judged kinds.Class (Ok named) at

-- a left side, by what its item says
abbrev pub left_said : Page → Item → Said → List Judgement
left_said page item (node word at items) = left_node page word at items
left_said page item leaf = left_iri (names page item) (line leaf)

-- Left: Class; `ObjectSomeValuesFrom(Role owl:Thing)`; `DataSomeValuesFrom(Attr rdfs:Literal)`
abbrev pub left_judged : Page → Item → List Judgement
left_judged page item = left_said page item (says page item)
