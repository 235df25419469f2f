-- A document is read in its parts.
use Rattle.std.proofs.Common.{◌≡◌, inl, inr, sym, ap, ◌∙◌, subst, ℕ, true, false, if◌then◌else◌, List, [], ◌∷◌}
use Rattle.std.specs.Prelude.{Result, Ok, Err, IsErrAnd, codes}
use Rattle.std.specs.Str.{bytes_eq}
use Rattle.mast_cq.specs.declared.atom.Atom.{Atom}
use Rattle.mast_terms.specs.Answers.{Answers}
use Rattle.mast_terms.specs.declared.memory.Stop.{Stop}
use Rattle.mast_terms.specs.declared.memory.Stop.TheVariants.{Named, NoMemory}
use Rattle.mast_terms.specs.Vocabularies.{Lists}
use Rattle.mast_tbox.specs.declared.axiom.Lined.{Lined}
use Rattle.mast_tbox.specs.declared.constraint.Constraint.{Constraint}
use Rattle.mast_tbox.specs.declared.constraint.Constraint.TheVariants.{Deny}
use Rattle.mast_tbox.specs.declared.constraint.Constraints.{Constraints}
use Rattle.mast_tree.specs.declared.item.Item.{Item}
use Rattle.mast_tree.specs.declared.shape.ShapeBreach.{ShapeBreach}
use Rattle.mast_tree.specs.declared.shape.ShapeKind.TheVariants.{Shape}
use Rattle.mast_tree.specs.Constants.{AreDates}
use Rattle.mast_tree.specs.Judged.{after_judged}
use Rattle.mast_tree.specs.Judgements.{breaks, AreRight, Judges}
use Rattle.mast_tree.specs.MainNode.{Prefixes, HasParts, IsFrontBreach}
use Rattle.mast_tree.specs.Said.{node}
use Rattle.mast_tree.specs.Seen.{Document}
use Rattle.mast_tree.proofs.JudgementLemmas.{right_parts, breach_first, breach_second}
use Rattle.mast_tree.specs.Pages.{Page, page_of, says}
use Rattle.mast_expressions.proofs.DateLemmas.{the_dates, are_dates}
use Rattle.mast_expressions.proofs.ReadLemmas.{is_node}
use Rattle.mast_constr.specs.Denials.{Dates, AreDenied, deny_judged}
use Rattle.mast_constr.specs.Items.{functional_judged, constraint_said, constraint_judged, constraints_judged, IsConstraint, AreConstraints}
use Rattle.mast_constr.specs.Paths.{identify_judged}
use Rattle.mast_constr.specs.Whole.{HasList, BreaksFirst, ReadsConstraints}

-- what is judged of a denial
pub is_deny : (dates : Dates) (page : Page) (item : Item) (word : List ℕ) (at : ℕ) (items : List Item) → says page item ≡ node word at items
    → bytes_eq word (codes "Functional") ≡ false → bytes_eq word (codes "Identify") ≡ false → bytes_eq word (codes "Deny") ≡ true → constraint_judged dates page item ≡ deny_judged dates page at items
is_deny dates page item word at items e a b c =
    ap (constraint_said dates page) e
    ∙ (ap (λ x. if x then functional_judged page at items else if bytes_eq word (codes "Identify") then identify_judged page at items else if bytes_eq word (codes "Deny") then deny_judged dates page at items else breaks Shape at ∷ []) a
    ∙ (ap (λ x. if x then identify_judged page at items else if bytes_eq word (codes "Deny") then deny_judged dates page at items else breaks Shape at ∷ []) b
    ∙ ap (λ x. if x then deny_judged dates page at items else breaks Shape at ∷ []) c))

-- and the denial that it gives
pub deny_given : (dates : Dates) (page : Page) (item : Item) (word : List ℕ) (at : ℕ) (items : List Item) (old new : Lists) (atoms : List Atom) → says page item ≡ node word at items
    → bytes_eq word (codes "Functional") ≡ false → bytes_eq word (codes "Identify") ≡ false → bytes_eq word (codes "Deny") ≡ true
    → AreRight old (deny_judged dates page at items) new × AreDenied dates new page items atoms
    → AreRight old (constraint_judged dates page item) new × IsConstraint dates new page item (Deny atoms)
deny_given dates page item word at items old new atoms e a b c h = (
  subst (λ js. AreRight old js new) (sym (is_deny dates page item word at items e a b c)) h.0,
  (items, is_node page item word (codes "Deny") at items e c, h.1),
)

-- by the dates of texts, the document was read
abbrev pub AnswersConstraints : Dates → Document → Lists → Result Constraints (Stop ShapeBreach) → Type 0
AnswersConstraints dates doc old result = Answers result (λ constraints. HasList dates doc old constraints.vocab constraints.list) (BreaksFirst dates doc old)

-- there are such dates
pub has_answer : (doc : Document) (old : Lists) (result : Result Constraints (Stop ShapeBreach))
    → ((dates : Dates) → AreDates dates → AnswersConstraints dates doc old result) → ReadsConstraints doc old result
has_answer doc old (Ok constraints) h = (the_dates, are_dates, h the_dates are_dates)
has_answer doc old (Err (Named breach)) h = (the_dates, are_dates, h the_dates are_dates)
has_answer doc old (Err NoMemory) h = tt

handed_on : (dates : Dates) (doc : Document) (old : Lists) (result : Result Constraints (Stop ShapeBreach)) (why : Stop ShapeBreach)
    → IsErrAnd result (λ e. e ≡ why) → AnswersConstraints dates doc old (Err why) → AnswersConstraints dates doc old result
handed_on dates doc old (Ok c) why e h = absurd e
handed_on dates doc old (Err other) why e h = subst (λ x. AnswersConstraints dates doc old (Err x)) (sym e) h

front : {T : Type 0} (dates : Dates) (doc : Document) (old : Lists) (P : T → Type 0) (why : Stop ShapeBreach)
    → Answers (Err why) P (IsFrontBreach doc (codes "Constraints")) → AnswersConstraints dates doc old (Err why)
front dates doc old P (Named breach) h = inl h
front dates doc old P NoMemory h = tt

-- the prologue has a breach
pub front_stops : {T : Type 0} (dates : Dates) (doc : Document) (old : Lists) (P : T → Type 0) (result : Result Constraints (Stop ShapeBreach)) (why : Stop ShapeBreach)
    → IsErrAnd result (λ e. e ≡ why) → Answers (Err why) P (IsFrontBreach doc (codes "Constraints")) → AnswersConstraints dates doc old result
front_stops dates doc old P result why e h = handed_on dates doc old result why e (front dates doc old P why h)

inner : {T : Type 0} (dates : Dates) (doc : Document) (old new : Lists) (prefixes : Prefixes) (inside after : List Item) (P : T → Type 0) (why : Stop ShapeBreach)
    → HasParts doc (codes "Constraints") prefixes inside after → Judges old (constraints_judged dates (page_of doc prefixes) inside) new P (Err why) → AnswersConstraints dates doc old (Err why)
inner dates doc old new prefixes inside after P (Named breach) parts h = inr (record {
  prefixes = prefixes;
  inside = inside;
  after = after;
  parts = parts;
  first = breach_first old (constraints_judged dates (page_of doc prefixes) inside) (after_judged doc after) breach h;
})
inner dates doc old new prefixes inside after P NoMemory parts h = tt

-- an item inside the main node has a breach
pub inner_stops : {T : Type 0} (dates : Dates) (doc : Document) (old new : Lists) (prefixes : Prefixes) (inside after : List Item) (P : T → Type 0) (result : Result Constraints (Stop ShapeBreach)) (why : Stop ShapeBreach)
    → IsErrAnd result (λ e. e ≡ why) → HasParts doc (codes "Constraints") prefixes inside after → Judges old (constraints_judged dates (page_of doc prefixes) inside) new P (Err why)
    → AnswersConstraints dates doc old result
inner_stops dates doc old new prefixes inside after P result why e parts h = handed_on dates doc old result why e (inner dates doc old new prefixes inside after P why parts h)

behind : {T : Type 0} (dates : Dates) (doc : Document) (old new : Lists) (prefixes : Prefixes) (inside after : List Item) (P : T → Type 0) (why : Stop ShapeBreach)
    → HasParts doc (codes "Constraints") prefixes inside after → AreRight old (constraints_judged dates (page_of doc prefixes) inside) new → Judges new (after_judged doc after) new P (Err why)
    → AnswersConstraints dates doc old (Err why)
behind dates doc old new prefixes inside after P (Named breach) parts right h = inr (record {
  prefixes = prefixes;
  inside = inside;
  after = after;
  parts = parts;
  first = breach_second old new (constraints_judged dates (page_of doc prefixes) inside) (after_judged doc after) breach right h;
})
behind dates doc old new prefixes inside after P NoMemory parts right h = tt

-- an item follows the main node
pub after_stops : {T : Type 0} (dates : Dates) (doc : Document) (old new : Lists) (prefixes : Prefixes) (inside after : List Item) (P : T → Type 0) (result : Result Constraints (Stop ShapeBreach)) (why : Stop ShapeBreach)
    → IsErrAnd result (λ e. e ≡ why) → HasParts doc (codes "Constraints") prefixes inside after → AreRight old (constraints_judged dates (page_of doc prefixes) inside) new
    → Judges new (after_judged doc after) new P (Err why) → AnswersConstraints dates doc old result
after_stops dates doc old new prefixes inside after P result why e parts right h =
    handed_on dates doc old result why e (behind dates doc old new prefixes inside after P why parts right h)

-- all was read
pub has_all : (dates : Dates) (doc : Document) (old new : Lists) (prefixes : Prefixes) (inside after : List Item) (list : List (Lined Constraint))
    → HasParts doc (codes "Constraints") prefixes inside after → AreRight old (constraints_judged dates (page_of doc prefixes) inside) new × AreConstraints dates new (page_of doc prefixes) inside list
    → AreRight new (after_judged doc after) new → HasList dates doc old new list
has_all dates doc old new prefixes inside after list parts h right = record {
  prefixes = prefixes;
  inside = inside;
  after = after;
  parts = parts;
  right = right_parts old new new (constraints_judged dates (page_of doc prefixes) inside) (after_judged doc after) h.0 right;
  gives = h.1;
}
