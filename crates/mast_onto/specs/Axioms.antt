-- Axioms: what is judged of each form, and the axiom that it gives.
use Rattle.std.specs.Prelude.{◌≡◌, ⊤, ℕ, Bool, true, false, if◌then◌else◌, List, [], ◌∷◌, ◌++◌, Option, Some, None, Result, Ok, Err, codes}
use Rattle.std.specs.List.{flat_map}
use Rattle.std.specs.Str.{bytes_eq}
use Rattle.mast_terms.specs.declared.name.NameKind.{NameKind}
use Rattle.mast_terms.specs.declared.value.Kind.{Kind}
use Rattle.mast_terms.specs.declared.value.Kind.TheVariants as value
use Rattle.mast_terms.specs.Vocabularies.{Lists}
use Rattle.mast_tbox.specs.declared.expression.Basic.{Basic}
use Rattle.mast_tbox.specs.Lists.{AreEach}
use Rattle.mast_tree.specs.declared.item.Item.{Item}
use Rattle.mast_tree.specs.declared.shape.ShapeBreach.{ShapeBreach}
use Rattle.mast_tree.specs.declared.shape.ShapeKind.TheVariants.{NotDlLite, Datatype}
use Rattle.mast_tree.specs.Judgements.{Judgement, uses, breaks, breach_judged}
use Rattle.mast_tree.specs.Names.{is_standard}
use Rattle.mast_tree.specs.Said.{line}
use Rattle.mast_tree.specs.Pages.{Page, says}
use Rattle.mast_expressions.specs.Iris.{expanded, rdfs_literal}
use Rattle.mast_expressions.specs.Judged.{role_judged, attr_judged, left_judged}
use Rattle.mast_expressions.specs.Given.{IsAttr, IsRole, IsLeft}
use Rattle.mast_onto.specs.Nodes.{AxiomForm, nothing, declared, listed, below, range, wrong, axiom_form}
use Rattle.mast_onto.specs.Rights.{right_forms, right_judged, IsPart}
use Rattle.mast_onto.specs.Stated.{inverse_of, subjects_of}
use Rattle.mast_onto.specs.declared.form.Place.{Place}
use Rattle.mast_onto.specs.declared.form.Place.TheVariants as place
use Rattle.mast_onto.specs.declared.statement.Axiom.{Axiom}
use Rattle.mast_onto.specs.declared.statement.Axiom.TheVariants.{Nothing, Listed, Below, Range}
use Rattle.mast_onto.specs.declared.statement.Expression.{Expression}
use Rattle.mast_onto.specs.declared.statement.Expression.TheVariants.{Concept, Role, Attr}

-- an IRI that is declared as a name of a kind; one of the standards' namespaces adds nothing
abbrev pub declares : Option NameKind → List ℕ → ℕ → List Judgement
declares None iri at = []
declares (Some kind) iri at = if is_standard iri then [] else uses kind iri at ∷ []

-- a declared IRI: its form and prefix, then its use
abbrev pub declared_judged : Option NameKind → Result (List ℕ) ShapeBreach → ℕ → List Judgement
declared_judged kind (Err breach) at = breaks breach.kind breach.line ∷ []
declared_judged kind (Ok iri) at = declares kind iri at

-- what is judged of an item in a place
abbrev pub member_judged : Page → Place → Item → List Judgement
member_judged page place.Left item = left_judged page item
member_judged page place.Role item = role_judged NotDlLite page item
member_judged page place.Attr item = attr_judged NotDlLite page item

-- the kind of the values of a type; `rdfs:Literal` has none, and other IRIs are no types
abbrev pub type_of : List ℕ → ℕ → Result (Option Kind) ShapeBreach
type_of iri at =
    if bytes_eq iri (codes "http://www.w3.org/2001/XMLSchema#string") then Ok (Some value.Text)
    else if bytes_eq iri (codes "http://www.w3.org/2001/XMLSchema#integer") then Ok (Some value.Integer)
    else if bytes_eq iri (codes "http://www.w3.org/2001/XMLSchema#date") then Ok (Some value.Date)
    else if bytes_eq iri rdfs_literal then Ok None
    else Err (record { line = at; kind = Datatype })

-- the type that an IRI is
abbrev pub type_in : Result (List ℕ) ShapeBreach → ℕ → Result (Option Kind) ShapeBreach
type_in (Err breach) at = Err breach
type_in (Ok iri) at = type_of iri at

-- the type that an item says, or its breach
abbrev pub type_said : Page → Item → Result (Option Kind) ShapeBreach
type_said page item = type_in (expanded NotDlLite page item) (line (says page item))

-- what is judged of an axiom, by its form
abbrev pub form_judged : Page → AxiomForm → List Judgement
form_judged page nothing = []
form_judged page (declared kind item) = declared_judged kind (expanded NotDlLite page item) (line (says page item))
form_judged page (listed at relation items) = flat_map (member_judged page at) items
form_judged page (below at turned sub sup) = member_judged page at sub ++ right_judged page sup
form_judged page (range attr of_type) = attr_judged NotDlLite page attr ++ breach_judged (type_said page of_type)
form_judged page (wrong kind at) = breaks kind at ∷ []

-- what is judged of what stands among the axioms
abbrev pub axiom_judged : Page → Item → List Judgement
axiom_judged page item = form_judged page (axiom_form page item)

-- the expression that an item says in a place
abbrev pub IsMember : Page → Place → Lists → Item → Expression → Type 0
IsMember page place.Left lists item (Concept b) = IsLeft lists page item b
IsMember page place.Role lists item (Role r) = IsRole lists page item r
IsMember page place.Attr lists item (Attr u) = IsAttr lists page item u
IsMember page at lists item _ = ⊥

-- an expression, or its inverse where that is meant
abbrev pub turned_if : Bool → Expression → Expression
turned_if true e = inverse_of e
turned_if false e = e

-- the concept of what an item says in a place
pub record IsSubject (page : Page) (at : Place) (turned : Bool) (lists : Lists) (item : Item) (b : Basic) : Type 0 where
  pub expression : Expression
  pub said : IsMember page at lists item expression
  pub is : b ≡ subjects_of (turned_if turned expression)

-- the axiom that a form gives
abbrev pub IsAxiom : Page → Lists → AxiomForm → Axiom → Type 0
IsAxiom page lists nothing Nothing = ⊤
IsAxiom page lists (declared kind item) Nothing = ⊤
IsAxiom page lists (listed at relation items) (Listed r members) =
    (r ≡ relation) × AreEach (IsMember page at lists) items members
IsAxiom page lists (below at turned sub sup) (Below b parts) =
    IsSubject page at turned lists sub b × AreEach (IsPart page lists) (right_forms page sup) parts
IsAxiom page lists (range attr of_type) (Range u kind) = IsAttr lists page attr u × (type_said page of_type ≡ Ok kind)
IsAxiom page lists _ _ = ⊥
