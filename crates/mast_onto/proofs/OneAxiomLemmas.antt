-- What an item among the axioms states is one thing.
use Rattle.std.proofs.Common.{◌≡◌, refl, sym, ap, ◌∙◌, ℕ, Bool, List, Option}
use Rattle.std.specs.Prelude.{Result, Ok}
use Rattle.mast_terms.specs.declared.name.Name.{Name}
use Rattle.mast_terms.specs.declared.name.NameKind.{NameKind}
use Rattle.mast_terms.specs.declared.name.NameKind.TheVariants as kinds
use Rattle.mast_terms.specs.declared.value.Kind.{Kind}
use Rattle.mast_terms.specs.Vocabularies.{Lists, IsVocabulary}
use Rattle.mast_tbox.specs.declared.axiom.Lined.{Lined}
use Rattle.mast_tbox.specs.declared.expression.Basic.{Basic}
use Rattle.mast_tbox.specs.declared.expression.RoleExpr.{RoleExpr}
use Rattle.mast_tbox.specs.Lists.{AreEach}
use Rattle.mast_tbox.proofs.EachLemmas.{each_one}
use Rattle.mast_tree.specs.declared.item.Item.{Item}
use Rattle.mast_tree.specs.declared.shape.ShapeBreach.{ShapeBreach}
use Rattle.mast_tree.specs.declared.shape.ShapeKind.{ShapeKind}
use Rattle.mast_tree.specs.Said.{line}
use Rattle.mast_tree.specs.Pages.{Page, says}
use Rattle.mast_expressions.specs.Given.{IsClassIn, IsAttr, IsRole, IsLeft}
use Rattle.mast_expressions.proofs.OneLemmas.{named_one, role_one, left_one}
use Rattle.mast_onto.specs.Axioms.{IsMember, IsSubject, IsAxiom, turned_if, type_said}
use Rattle.mast_onto.specs.Nodes.{AxiomForm, nothing, declared, listed, below, range, wrong, axiom_form}
use Rattle.mast_onto.specs.Ontologies.{IsStated}
use Rattle.mast_onto.specs.Rights.{PartForm, thing, left, filled, complement, wrong as wrong_part, right_forms, IsPart}
use Rattle.mast_onto.specs.Stated.{stated, subjects_of}
use Rattle.mast_onto.specs.declared.form.Place.{Place}
use Rattle.mast_onto.specs.declared.form.Place.TheVariants as place
use Rattle.mast_onto.specs.declared.form.Relation.{Relation}
use Rattle.mast_onto.specs.declared.statement.Axiom.{Axiom}
use Rattle.mast_onto.specs.declared.statement.Axiom.TheVariants.{Nothing, Listed, Below, Range}
use Rattle.mast_onto.specs.declared.statement.Expression.{Expression}
use Rattle.mast_onto.specs.declared.statement.Expression.TheVariants.{Concept, Role, Attr}
use Rattle.mast_onto.specs.declared.statement.Part.{Part}
use Rattle.mast_onto.specs.declared.statement.Part.TheVariants as part
use Rattle.mast_onto.specs.declared.statement.Statement.{Statement}

-- the part of each form
thing_gives : (lists : Lists) (page : Page) (p : Part) → IsPart page lists thing p → p ≡ part.Thing
thing_gives lists page part.Thing h = refl
thing_gives lists page (part.Basic b) h = absurd h
thing_gives lists page (part.Qualified r a) h = absurd h
thing_gives lists page (part.Complement b) h = absurd h

left_gives : (lists : Lists) (page : Page) (item : Item) (p : Part) → IsPart page lists (left item) p → (b : Basic) × (p ≡ part.Basic b) × IsLeft lists page item b
left_gives lists page item part.Thing h = absurd h
left_gives lists page item (part.Basic b) h = (b, refl, h)
left_gives lists page item (part.Qualified r a) h = absurd h
left_gives lists page item (part.Complement b) h = absurd h

filled_gives : (lists : Lists) (page : Page) (role filler : Item) (p : Part) → IsPart page lists (filled role filler) p
    → (r : RoleExpr) × (a : Name) × (p ≡ part.Qualified r a) × IsRole lists page role r × IsClassIn lists page filler a
filled_gives lists page role filler part.Thing h = absurd h
filled_gives lists page role filler (part.Basic b) h = absurd h
filled_gives lists page role filler (part.Qualified r a) h = (r, a, refl, h.0, h.1)
filled_gives lists page role filler (part.Complement b) h = absurd h

complement_gives : (lists : Lists) (page : Page) (item : Item) (p : Part) → IsPart page lists (complement item) p → (b : Basic) × (p ≡ part.Complement b) × IsLeft lists page item b
complement_gives lists page item part.Thing h = absurd h
complement_gives lists page item (part.Basic b) h = absurd h
complement_gives lists page item (part.Qualified r a) h = absurd h
complement_gives lists page item (part.Complement b) h = (b, refl, h)

wrong_gives : (lists : Lists) (page : Page) (at : ℕ) (p : Part) → IsPart page lists (wrong_part at) p → ⊥
wrong_gives lists page at part.Thing h = h
wrong_gives lists page at (part.Basic b) h = h
wrong_gives lists page at (part.Qualified r a) h = h
wrong_gives lists page at (part.Complement b) h = h

-- a part
part_one : (lists : Lists) → IsVocabulary lists → (page : Page) (form : PartForm) (p q : Part) → IsPart page lists form p → IsPart page lists form q → p ≡ q
part_one lists v page thing p q h g = thing_gives lists page p h ∙ sym (thing_gives lists page q g)
part_one lists v page (left item) p q h g =
    let a = left_gives lists page item p h in let b = left_gives lists page item q g in
    a.1 ∙ (ap part.Basic (left_one lists page item a.0 b.0 v a.2 b.2) ∙ sym b.1)
part_one lists v page (filled role filler) p q h g =
    let a = filled_gives lists page role filler p h in let b = filled_gives lists page role filler q g in
    a.2 ∙ (ap (λ r. part.Qualified r a.1) (role_one lists page role a.0 b.0 v a.3 b.3) ∙ (ap (λ n. part.Qualified b.0 n) (named_one lists kinds.Class page filler a.1 b.1 v a.4 b.4) ∙ sym b.2))
part_one lists v page (complement item) p q h g =
    let a = complement_gives lists page item p h in let b = complement_gives lists page item q g in
    a.1 ∙ (ap part.Complement (left_one lists page item a.0 b.0 v a.2 b.2) ∙ sym b.1)
part_one lists v page (wrong_part at) p q h g = absurd (wrong_gives lists page at p h)

-- the expression of each place
left_expression : (lists : Lists) (page : Page) (item : Item) (e : Expression) → IsMember page place.Left lists item e → (b : Basic) × (e ≡ Concept b) × IsLeft lists page item b
left_expression lists page item (Concept b) h = (b, refl, h)
left_expression lists page item (Role r) h = absurd h
left_expression lists page item (Attr u) h = absurd h

role_expression : (lists : Lists) (page : Page) (item : Item) (e : Expression) → IsMember page place.Role lists item e → (r : RoleExpr) × (e ≡ Role r) × IsRole lists page item r
role_expression lists page item (Concept b) h = absurd h
role_expression lists page item (Role r) h = (r, refl, h)
role_expression lists page item (Attr u) h = absurd h

attr_expression : (lists : Lists) (page : Page) (item : Item) (e : Expression) → IsMember page place.Attr lists item e → (u : Name) × (e ≡ Attr u) × IsAttr lists page item u
attr_expression lists page item (Concept b) h = absurd h
attr_expression lists page item (Role r) h = absurd h
attr_expression lists page item (Attr u) h = (u, refl, h)

-- an expression in a place
member_one : (lists : Lists) → IsVocabulary lists → (page : Page) (at : Place) (item : Item) (d e : Expression) → IsMember page at lists item d → IsMember page at lists item e → d ≡ e
member_one lists v page place.Left item d e h g =
    let a = left_expression lists page item d h in let b = left_expression lists page item e g in
    a.1 ∙ (ap Concept (left_one lists page item a.0 b.0 v a.2 b.2) ∙ sym b.1)
member_one lists v page place.Role item d e h g =
    let a = role_expression lists page item d h in let b = role_expression lists page item e g in
    a.1 ∙ (ap Role (role_one lists page item a.0 b.0 v a.2 b.2) ∙ sym b.1)
member_one lists v page place.Attr item d e h g =
    let a = attr_expression lists page item d h in let b = attr_expression lists page item e g in
    a.1 ∙ (ap Attr (named_one lists kinds.Attr page item a.0 b.0 v a.2 b.2) ∙ sym b.1)

subject_one : (lists : Lists) → IsVocabulary lists → (page : Page) (at : Place) (turned : Bool) (item : Item) (b c : Basic) → IsSubject page at turned lists item b → IsSubject page at turned lists item c → b ≡ c
subject_one lists v page at turned item b c h g =
    h.is ∙ (ap (λ e. subjects_of (turned_if turned e)) (member_one lists v page at item h.expression g.expression h.said g.said) ∙ sym g.is)

-- the axiom of each form
nothing_gives : (lists : Lists) (page : Page) (x : Axiom) → IsAxiom page lists nothing x → x ≡ Nothing
nothing_gives lists page Nothing h = refl
nothing_gives lists page (Listed r members) h = absurd h
nothing_gives lists page (Below b parts) h = absurd h
nothing_gives lists page (Range u kind) h = absurd h

declared_gives : (lists : Lists) (page : Page) (kind : Option NameKind) (item : Item) (x : Axiom) → IsAxiom page lists (declared kind item) x → x ≡ Nothing
declared_gives lists page kind item Nothing h = refl
declared_gives lists page kind item (Listed r members) h = absurd h
declared_gives lists page kind item (Below b parts) h = absurd h
declared_gives lists page kind item (Range u k) h = absurd h

listed_gives : (lists : Lists) (page : Page) (at : Place) (relation : Relation) (items : List Item) (x : Axiom) → IsAxiom page lists (listed at relation items) x
    → (members : List Expression) × (x ≡ Listed relation members) × AreEach (IsMember page at lists) items members
listed_gives lists page at relation items Nothing h = absurd h
listed_gives lists page at relation items (Listed r members) h = (members, ap (λ s. Listed s members) h.0, h.1)
listed_gives lists page at relation items (Below b parts) h = absurd h
listed_gives lists page at relation items (Range u kind) h = absurd h

below_gives : (lists : Lists) (page : Page) (at : Place) (turned : Bool) (sub sup : Item) (x : Axiom) → IsAxiom page lists (below at turned sub sup) x
    → (b : Basic) × (parts : List Part) × (x ≡ Below b parts) × IsSubject page at turned lists sub b × AreEach (IsPart page lists) (right_forms page sup) parts
below_gives lists page at turned sub sup Nothing h = absurd h
below_gives lists page at turned sub sup (Listed r members) h = absurd h
below_gives lists page at turned sub sup (Below b parts) h = (b, parts, refl, h.0, h.1)
below_gives lists page at turned sub sup (Range u kind) h = absurd h

range_gives : (lists : Lists) (page : Page) (attr of_type : Item) (x : Axiom) → IsAxiom page lists (range attr of_type) x
    → (u : Name) × (kind : Option Kind) × (x ≡ Range u kind) × IsAttr lists page attr u × (type_said page of_type ≡ Ok kind)
range_gives lists page attr of_type Nothing h = absurd h
range_gives lists page attr of_type (Listed r members) h = absurd h
range_gives lists page attr of_type (Below b parts) h = absurd h
range_gives lists page attr of_type (Range u kind) h = (u, kind, refl, h.0, h.1)

wrong_states : (lists : Lists) (page : Page) (form : AxiomForm) (x : Axiom) → (kind : ShapeKind) (at : ℕ) → form ≡ wrong kind at → IsAxiom page lists (wrong kind at) x → ⊥
wrong_states lists page form Nothing kind at e h = h
wrong_states lists page form (Listed r members) kind at e h = h
wrong_states lists page form (Below b parts) kind at e h = h
wrong_states lists page form (Range u k) kind at e h = h

same_kind : (e : Result (Option Kind) ShapeBreach) (a b : Option Kind) → e ≡ Ok a → e ≡ Ok b → a ≡ b
same_kind e a b h g = cc

-- an axiom
axiom_one : (lists : Lists) → IsVocabulary lists → (page : Page) (form : AxiomForm) (x y : Axiom) → IsAxiom page lists form x → IsAxiom page lists form y → x ≡ y
axiom_one lists v page nothing x y h g = nothing_gives lists page x h ∙ sym (nothing_gives lists page y g)
axiom_one lists v page (declared kind item) x y h g = declared_gives lists page kind item x h ∙ sym (declared_gives lists page kind item y g)
axiom_one lists v page (listed at relation items) x y h g =
    let a = listed_gives lists page at relation items x h in let b = listed_gives lists page at relation items y g in
    a.1 ∙ (ap (λ members. Listed relation members) (each_one (IsMember page at lists) (member_one lists v page at) items a.0 b.0 a.2 b.2) ∙ sym b.1)
axiom_one lists v page (below at turned sub sup) x y h g =
    let a = below_gives lists page at turned sub sup x h in let b = below_gives lists page at turned sub sup y g in
    a.2 ∙ (ap (λ c. Below c a.1) (subject_one lists v page at turned sub a.0 b.0 a.3 b.3)
    ∙ (ap (λ ps. Below b.0 ps) (each_one (IsPart page lists) (part_one lists v page) (right_forms page sup) a.1 b.1 a.4 b.4) ∙ sym b.2))
axiom_one lists v page (range attr of_type) x y h g =
    let a = range_gives lists page attr of_type x h in let b = range_gives lists page attr of_type y g in
    a.2 ∙ (ap (λ u. Range u a.1) (named_one lists kinds.Attr page attr a.0 b.0 v a.3 b.3) ∙ (ap (λ k. Range b.0 k) (same_kind (type_said page of_type) a.1 b.1 a.4 b.4) ∙ sym b.2))
axiom_one lists v page (wrong kind at) x y h g = absurd (wrong_states lists page (wrong kind at) x kind at refl h)

-- what an item among the axioms states
pub stated_one : (lists : Lists) → IsVocabulary lists → (page : Page) (item : Item) (xs ys : List (Lined Statement)) → IsStated page lists item xs → IsStated page lists item ys → xs ≡ ys
stated_one lists v page item xs ys h g =
    h.states ∙ (ap (stated (line (says page item))) (axiom_one lists v page (axiom_form page item) h.read g.read h.is g.is) ∙ sym g.states)
