-- An ontology numbers no constant.
use Rattle.std.proofs.Common.{◌≡◌, refl, ap, ◌∙◌, ℕ, Bool, true, false, List, [], ◌∷◌, ◌++◌, Option, Some, None}
use Rattle.std.specs.Prelude.{⊤, Result, Ok, Err, codes, if◌then◌else◌}
use Rattle.std.specs.List.{flat_map}
use Rattle.std.specs.Str.{bytes_eq}
use Rattle.mast_terms.specs.declared.name.NameKind.{NameKind}
use Rattle.mast_terms.specs.declared.name.NameKind.TheVariants as kinds
use Rattle.mast_terms.specs.Vocabularies.{Lists}
use Rattle.mast_tbox.specs.declared.tbox.Ontology.{Ontology}
use Rattle.mast_tree.specs.declared.item.Item.{Item}
use Rattle.mast_tree.specs.declared.shape.ShapeBreach.{ShapeBreach}
use Rattle.mast_tree.specs.declared.shape.ShapeKind.{ShapeKind}
use Rattle.mast_tree.specs.declared.shape.ShapeKind.TheVariants as shape
use Rattle.mast_tree.specs.Judged.{after_judged}
use Rattle.mast_tree.specs.Judgements.{Judgement, uses, numbers, breaks, after, after_one, breach_judged}
use Rattle.mast_tree.specs.Names.{is_standard, iri_judged}
use Rattle.mast_tree.specs.Said.{Said, name, iri, text, tagged, binding, node, line}
use Rattle.mast_tree.specs.Seen.{Document}
use Rattle.mast_tree.specs.Pages.{Page, page_of, says, names}
use Rattle.mast_expressions.specs.Iris.{owl_thing, rdfs_literal, expanded}
use Rattle.mast_expressions.specs.Judged.{named_judged, inverse_judged, role_said, role_judged, compared, is_iri_judged, some_judged, subjects_judged, left_iri, left_said, left_judged}
use Rattle.mast_onto.specs.Axioms.{declared_judged, member_judged, form_judged, axiom_judged, type_said}
use Rattle.mast_onto.specs.Nodes.{AxiomForm, nothing, declared, listed, below, range, wrong, axiom_form}
use Rattle.mast_onto.specs.Ontologies.{is_iri, front_judged, behind_front, iris_judged, axioms, HasOntology}
use Rattle.mast_onto.specs.Rights.{PartForm, thing, left, filled, complement, wrong as wrong_part, right_forms, part_judged}
use Rattle.mast_onto.specs.declared.form.Place.{Place}
use Rattle.mast_onto.specs.declared.form.Place.TheVariants as place

-- no constant is numbered
abbrev NoConstants : List Judgement → Type 0
NoConstants [] = ⊤
NoConstants (uses kind x at ∷ js) = NoConstants js
NoConstants (numbers value at ∷ js) = ⊥
NoConstants (breaks kind at ∷ js) = NoConstants js

used : (lists : Lists) (kind : NameKind) (x : List ℕ) (at : ℕ) → (after_one lists (uses kind x at)).constants ≡ lists.constants
used lists kinds.Class x at = refl
used lists kinds.Role x at = refl
used lists kinds.Attr x at = refl

constants_after : (lists : Lists) (js : List Judgement) → NoConstants js → (after lists js).constants ≡ lists.constants
constants_after lists [] h = refl
constants_after lists (uses kind x at ∷ js) h = constants_after (after_one lists (uses kind x at)) js h ∙ used lists kind x at
constants_after lists (numbers value at ∷ js) h = absurd h
constants_after lists (breaks kind at ∷ js) h = constants_after lists js h

two : (xs ys : List Judgement) → NoConstants xs → NoConstants ys → NoConstants (xs ++ ys)
two [] ys h g = g
two (uses kind x at ∷ xs) ys h g = two xs ys h g
two (numbers value at ∷ xs) ys h g = h
two (breaks kind at ∷ xs) ys h g = two xs ys h g

of_each : {X : Type 0} (judged : X → List Judgement) → ((x : X) → NoConstants (judged x)) → (xs : List X) → NoConstants (flat_map judged xs)
of_each judged none [] = tt
of_each judged none (x ∷ xs) = two (judged x) (flat_map judged xs) (none x) (of_each judged none xs)

chosen : (b : Bool) (xs ys : List Judgement) → NoConstants xs → NoConstants ys → NoConstants (if b then xs else ys)
chosen true xs ys h g = h
chosen false xs ys h g = g

of_iri : (kind : NameKind) (e : Result (List ℕ) ShapeBreach) (at : ℕ) → NoConstants (iri_judged kind e at)
of_iri kind (Err breach) at = tt
of_iri kind (Ok x) at = chosen (is_standard x) (breaks shape.NotDlLite at ∷ []) (uses kind x at ∷ []) tt tt

of_name : (other : ShapeKind) (kind : NameKind) (page : Page) (item : Item) → NoConstants (named_judged other kind page item)
of_name other kind page item = of_iri kind (expanded other page item) (line (says page item))

of_inverse : (page : Page) (at : ℕ) (items : List Item) → NoConstants (inverse_judged page at items)
of_inverse page at [] = tt
of_inverse page at (only ∷ []) = of_name shape.NotDlLite kinds.Role page only
of_inverse page at (one ∷ two ∷ more) = tt

of_role_said : (page : Page) (item : Item) (s : Said) → NoConstants (role_said shape.NotDlLite page item s)
of_role_said page item (node word at items) = chosen (bytes_eq word (codes "ObjectInverseOf")) (inverse_judged page at items) (breaks shape.NotDlLite at ∷ []) (of_inverse page at items) tt
of_role_said page item (name word at) = of_name shape.NotDlLite kinds.Role page item
of_role_said page item (iri word at) = of_name shape.NotDlLite kinds.Role page item
of_role_said page item (text chars at) = of_name shape.NotDlLite kinds.Role page item
of_role_said page item (tagged at) = of_name shape.NotDlLite kinds.Role page item
of_role_said page item (binding at) = of_name shape.NotDlLite kinds.Role page item

of_role : (page : Page) (item : Item) → NoConstants (role_judged shape.NotDlLite page item)
of_role page item = of_role_said page item (says page item)

of_compared : (wanted : List ℕ) (other : ShapeKind) (e : Result (List ℕ) ShapeBreach) (at : ℕ) → NoConstants (compared wanted other e at)
of_compared wanted other (Err breach) at = tt
of_compared wanted other (Ok x) at = chosen (bytes_eq x wanted) [] (breaks other at ∷ []) tt tt

of_some : (page : Page) (at : ℕ) (items : List Item) → NoConstants (some_judged page at items)
of_some page at [] = tt
of_some page at (one ∷ []) = tt
of_some page at (role ∷ filler ∷ []) =
    two (role_judged shape.NotDlLite page role) (is_iri_judged owl_thing shape.NotDlLite page filler) (of_role page role)
    (of_compared owl_thing shape.NotDlLite (expanded shape.NotDlLite page filler) (line (says page filler)))
of_some page at (one ∷ two ∷ three ∷ more) = tt

of_subjects : (page : Page) (at : ℕ) (items : List Item) → NoConstants (subjects_judged page at items)
of_subjects page at [] = tt
of_subjects page at (one ∷ []) = tt
of_subjects page at (attr ∷ filler ∷ []) =
    two (named_judged shape.NotDlLite kinds.Attr page attr) (is_iri_judged rdfs_literal shape.Datatype page filler) (of_name shape.NotDlLite kinds.Attr page attr)
    (of_compared rdfs_literal shape.Datatype (expanded shape.NotDlLite page filler) (line (says page filler)))
of_subjects page at (one ∷ two ∷ three ∷ more) = tt

of_left_iri : (e : Result (List ℕ) ShapeBreach) (at : ℕ) → NoConstants (left_iri e at)
of_left_iri (Err breach) at = tt
of_left_iri (Ok x) at = chosen (bytes_eq x owl_thing) (breaks shape.TopOnLeft at ∷ []) (iri_judged kinds.Class (Ok x) at) tt (of_iri kinds.Class (Ok x) at)

of_left_said : (page : Page) (item : Item) (s : Said) → NoConstants (left_said page item s)
of_left_said page item (node word at items) =
    chosen (bytes_eq word (codes "ObjectSomeValuesFrom")) (some_judged page at items)
    (if bytes_eq word (codes "DataSomeValuesFrom") then subjects_judged page at items else breaks shape.NotDlLite at ∷ []) (of_some page at items)
    (chosen (bytes_eq word (codes "DataSomeValuesFrom")) (subjects_judged page at items) (breaks shape.NotDlLite at ∷ []) (of_subjects page at items) tt)
of_left_said page item (name word at) = of_left_iri (names page item) at
of_left_said page item (iri word at) = of_left_iri (names page item) at
of_left_said page item (text chars at) = of_left_iri (names page item) at
of_left_said page item (tagged at) = of_left_iri (names page item) at
of_left_said page item (binding at) = of_left_iri (names page item) at

of_left : (page : Page) (item : Item) → NoConstants (left_judged page item)
of_left page item = of_left_said page item (says page item)

of_part : (page : Page) (form : PartForm) → NoConstants (part_judged page form)
of_part page thing = tt
of_part page (left item) = of_left page item
of_part page (filled role filler) = two (role_judged shape.NotDlLite page role) (named_judged shape.NotDlLite kinds.Class page filler) (of_role page role) (of_name shape.NotDlLite kinds.Class page filler)
of_part page (complement item) = of_left page item
of_part page (wrong_part at) = tt

of_member : (page : Page) (at : Place) (item : Item) → NoConstants (member_judged page at item)
of_member page place.Left item = of_left page item
of_member page place.Role item = of_role page item
of_member page place.Attr item = of_name shape.NotDlLite kinds.Attr page item

of_declared : (kind : Option NameKind) (e : Result (List ℕ) ShapeBreach) (at : ℕ) → NoConstants (declared_judged kind e at)
of_declared kind (Err breach) at = tt
of_declared None (Ok x) at = tt
of_declared (Some kind) (Ok x) at = chosen (is_standard x) [] (uses kind x at ∷ []) tt tt

of_breach : {T : Type 0} (e : Result T ShapeBreach) → NoConstants (breach_judged e)
of_breach (Ok x) = tt
of_breach (Err breach) = tt

of_form : (page : Page) (form : AxiomForm) → NoConstants (form_judged page form)
of_form page nothing = tt
of_form page (declared kind item) = of_declared kind (expanded shape.NotDlLite page item) (line (says page item))
of_form page (listed at relation items) = of_each (member_judged page at) (of_member page at) items
of_form page (below at turned sub sup) =
    two (member_judged page at sub) (flat_map (part_judged page) (right_forms page sup)) (of_member page at sub) (of_each (part_judged page) (of_part page) (right_forms page sup))
of_form page (range attr of_type) = two (named_judged shape.NotDlLite kinds.Attr page attr) (breach_judged (type_said page of_type)) (of_name shape.NotDlLite kinds.Attr page attr) (of_breach (type_said page of_type))
of_form page (wrong kind at) = tt

of_front : (page : Page) (items : List Item) → NoConstants (front_judged page items)
of_front page [] = tt
of_front page (item ∷ items) = chosen (is_iri (says page item)) (breach_judged (names page item)) [] (of_breach (names page item)) tt

of_after : (doc : Document) (items : List Item) → NoConstants (after_judged doc items)
of_after doc [] = tt
of_after doc (item ∷ items) = of_after doc items

of_document : (page : Page) (inside behind : List Item) → NoConstants ((iris_judged page inside ++ flat_map (axiom_judged page) (axioms page inside)) ++ after_judged page.doc behind)
of_document page inside behind =
    two (iris_judged page inside ++ flat_map (axiom_judged page) (axioms page inside)) (after_judged page.doc behind)
    (two (iris_judged page inside) (flat_map (axiom_judged page) (axioms page inside))
    (two (front_judged page inside) (front_judged page (behind_front page inside)) (of_front page inside) (of_front page (behind_front page inside)))
    (of_each (axiom_judged page) (λ item. of_form page (axiom_form page item)) (axioms page inside)))
    (of_after page.doc behind)

-- the constants are those that were there
pub same_constants : (doc : Document) (old : Lists) (ontology : Ontology) → HasOntology doc old ontology → ontology.vocab.constants ≡ old.constants
same_constants doc old ontology h =
    ap (λ (lists : Lists). lists.constants) h.right.right.then
    ∙ constants_after old ((iris_judged (page_of doc h.right.prefixes) h.right.inside ++ flat_map (axiom_judged (page_of doc h.right.prefixes)) (axioms (page_of doc h.right.prefixes) h.right.inside)) ++ after_judged doc h.right.after)
    (of_document (page_of doc h.right.prefixes) h.right.inside h.right.after)
