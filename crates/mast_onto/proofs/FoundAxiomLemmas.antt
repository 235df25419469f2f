-- Where nothing is wrong with an item among the axioms, it states something.
use Rattle.std.proofs.Common.{◌≡◌, refl, sym, subst, Bool, List, [], ◌∷◌, ◌++◌, Option}
use Rattle.std.specs.Prelude.{Result, Ok, Err, None}
use Rattle.std.specs.List.{flat_map}
use Rattle.mast_terms.specs.declared.name.NameKind.TheVariants as kinds
use Rattle.mast_terms.specs.declared.value.Kind.{Kind}
use Rattle.mast_terms.specs.Vocabularies.{Lists}
use Rattle.mast_tbox.specs.declared.expression.Basic.{Basic}
use Rattle.mast_tbox.specs.Lists.{AreEach}
use Rattle.mast_tree.specs.declared.shape.ShapeBreach.{ShapeBreach}
use Rattle.mast_tree.specs.declared.shape.ShapeKind.TheVariants.{NotDlLite}
use Rattle.mast_tree.specs.Judgements.{Judgement, after, first_breach, breach_judged}
use Rattle.mast_tree.specs.Said.{line}
use Rattle.mast_tree.proofs.GrowingLemmas.{after_begins}
use Rattle.mast_tree.proofs.JudgementLemmas.{after-append}
use Rattle.mast_tree.specs.Pages.{Page, says}
use Rattle.mast_expressions.specs.Given.{IsNamed}
use Rattle.mast_expressions.specs.Judged.{named_judged, role_judged}
use Rattle.mast_expressions.proofs.FoundLemmas.{none_parts, named_found, role_found, left_found, role_behind, named_behind}
use Rattle.mast_onto.specs.Axioms.{member_judged, form_judged, axiom_judged, type_said, turned_if, IsMember, IsSubject, IsAxiom}
use Rattle.mast_onto.specs.Nodes.{nothing, declared, listed, below, range, wrong, axiom_form}
use Rattle.mast_onto.specs.Ontologies.{IsStated}
use Rattle.mast_onto.specs.Rights.{thing, left, filled, complement, wrong as wrong_part, right_forms, right_judged, part_judged, IsPart}
use Rattle.mast_onto.specs.Stated.{stated, subjects_of}
use Rattle.mast_onto.specs.declared.form.Place.{Place}
use Rattle.mast_onto.specs.declared.form.Place.TheVariants as place
use Rattle.mast_onto.specs.declared.statement.Axiom.TheVariants.{Nothing, Listed, Below, Range}
use Rattle.mast_onto.specs.declared.statement.Expression.TheVariants.{Concept, Role, Attr}
use Rattle.mast_onto.specs.declared.statement.Part.TheVariants as part
use Rattle.mast_onto.proofs.KeptLemmas.{part_kept, member_kept, subject_kept}
use Rattle.mast_onto.proofs.LeadLemmas.{Kept}

-- what is judged of an element, without a breach, gives something
abbrev pub Found : {X Y : Type 0} → (X → List Judgement) → (Lists → X → Y → Type 0) → Type 0
Found {X} {Y} judged Is = (old : Lists) (x : X) → first_breach old (judged x) ≡ None → (y : Y) × Is (after old (judged x)) x y

-- what is given is kept by what is judged behind it
behind : {X Y : Type 0} (Is : Lists → X → Y → Type 0) → Kept Is → (old : Lists) (x : X) (y : Y) (first second : List Judgement) → Is (after old first) x y → Is (after old (first ++ second)) x y
behind Is kept old x y first second h =
    subst (λ lists. Is lists x y) (sym (after-append old first second)) (kept (after (after old first) second) (after old first) x y (after_begins (after old first) second) h)

-- so do all elements of a list
each_found : {X Y : Type 0} (judged : X → List Judgement) (Is : Lists → X → Y → Type 0) → Kept Is → Found judged Is → (old : Lists) (xs : List X)
    → first_breach old (flat_map judged xs) ≡ None → (ys : List Y) × AreEach (Is (after old (flat_map judged xs))) xs ys
each_found judged Is kept found old [] h = ([], tt)
each_found judged Is kept found old (x ∷ xs) h =
    let parts = none_parts old (judged x) (flat_map judged xs) h in
    let one = found old x parts.0 in
    let more = each_found judged Is kept found (after old (judged x)) xs parts.1 in (
      one.0 ∷ more.0,
      (
        behind Is kept old x one.0 (judged x) (flat_map judged xs) one.1,
        subst (λ lists. AreEach (Is lists) xs more.0) (sym (after-append old (judged x) (flat_map judged xs))) more.1,
      ),
    )

-- a part
part_found : (page : Page) → Found (part_judged page) (IsPart page)
part_found page old thing h = (part.Thing, tt)
part_found page old (left item) h = let w = left_found old page item h in (part.Basic w.0, w.1)
part_found page old (filled role filler) h =
    let parts = none_parts old (role_judged NotDlLite page role) (named_judged NotDlLite kinds.Class page filler) h in
    let r = role_found old NotDlLite page role parts.0 in
    let a = named_found (after old (role_judged NotDlLite page role)) NotDlLite kinds.Class page filler parts.1 in (
      part.Qualified r.0 a.0,
      (
        role_behind old page role r.0 (role_judged NotDlLite page role) (named_judged NotDlLite kinds.Class page filler) r.1,
        subst (λ lists. IsNamed lists kinds.Class page filler a.0) (sym (after-append old (role_judged NotDlLite page role) (named_judged NotDlLite kinds.Class page filler))) a.1,
      ),
    )
part_found page old (complement item) h = let w = left_found old page item h in (part.Complement w.0, w.1)
part_found page old (wrong_part at) h = absurd (cc)

-- an expression in a place
member_found : (page : Page) (at : Place) → Found (member_judged page at) (IsMember page at)
member_found page place.Left old item h = let w = left_found old page item h in (Concept w.0, w.1)
member_found page place.Role old item h = let w = role_found old NotDlLite page item h in (Role w.0, w.1)
member_found page place.Attr old item h = let w = named_found old NotDlLite kinds.Attr page item h in (Attr w.0, w.1)

-- the concept of a place
subject_found : (page : Page) (at : Place) (turned : Bool) → Found (member_judged page at) (IsSubject page at turned)
subject_found page at turned old item h =
    let w = member_found page at old item h in
    (subjects_of (turned_if turned w.0), record { expression = w.0; said = w.1; is = refl })

type_is : (lists : Lists) (e : Result (Option Kind) ShapeBreach) → first_breach lists (breach_judged e) ≡ None → (kind : Option Kind) × (e ≡ Ok kind)
type_is lists (Ok kind) h = (kind, refl)
type_is lists (Err breach) h = absurd (cc)

-- an axiom of a form
form_found : (page : Page) → Found (form_judged page) (IsAxiom page)
form_found page old nothing h = (Nothing, tt)
form_found page old (declared kind item) h = (Nothing, tt)
form_found page old (listed at relation items) h =
    let w = each_found (member_judged page at) (IsMember page at) (member_kept page at) (member_found page at) old items h in
    (Listed relation w.0, (refl, w.1))
form_found page old (below at turned sub sup) h =
    let parts = none_parts old (member_judged page at sub) (right_judged page sup) h in
    let b = subject_found page at turned old sub parts.0 in
    let ps = each_found (part_judged page) (IsPart page) (part_kept page) (part_found page) (after old (member_judged page at sub)) (right_forms page sup) parts.1 in (
      Below b.0 ps.0,
      (
        behind (IsSubject page at turned) (subject_kept page at turned) old sub b.0 (member_judged page at sub) (right_judged page sup) b.1,
        subst (λ lists. AreEach (IsPart page lists) (right_forms page sup) ps.0) (sym (after-append old (member_judged page at sub) (right_judged page sup))) ps.1,
      ),
    )
form_found page old (range attr of_type) h =
    let parts = none_parts old (named_judged NotDlLite kinds.Attr page attr) (breach_judged (type_said page of_type)) h in
    let u = named_found old NotDlLite kinds.Attr page attr parts.0 in
    let kind = type_is (after old (named_judged NotDlLite kinds.Attr page attr)) (type_said page of_type) parts.1 in
    (Range u.0 kind.0, (named_behind old kinds.Attr page attr u.0 (named_judged NotDlLite kinds.Attr page attr) (breach_judged (type_said page of_type)) u.1, kind.1))
form_found page old (wrong kind at) h = absurd (cc)

-- what an item among the axioms states
pub stated_found : (page : Page) → Found (axiom_judged page) (IsStated page)
stated_found page old item h =
    let w = form_found page old (axiom_form page item) h in
    (stated (line (says page item)) w.0, record { read = w.0; is = w.1; states = refl })
