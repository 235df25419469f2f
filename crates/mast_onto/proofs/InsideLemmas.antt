-- What is read inside a main node, and what follows it.
use Rattle.std.proofs.Common.{◌≡◌, inl, inr, sym, ap, ◌∙◌, subst, List, [], ◌++◌}
use Rattle.std.specs.Prelude.{Result, Ok, Err, Some}
use Rattle.std.specs.List.{flat_map}
use Rattle.std.specs.Result.{IsErrAnd}
use Rattle.mast_terms.specs.declared.memory.Stop.{Stop}
use Rattle.mast_terms.specs.declared.memory.Stop.TheVariants.{Named, NoMemory}
use Rattle.mast_terms.specs.Vocabularies.{Lists}
use Rattle.mast_tbox.specs.declared.axiom.Lined.{Lined}
use Rattle.mast_tree.specs.declared.item.Item.{Item}
use Rattle.mast_tree.specs.declared.shape.ShapeBreach.{ShapeBreach}
use Rattle.mast_tree.specs.Judged.{after_judged}
use Rattle.mast_tree.specs.Judgements.{Judgement, first_breach, AreRight, Judges}
use Rattle.mast_tree.proofs.JudgementLemmas.{right_parts, breach_first, breach_second}
use Rattle.mast_tree.specs.Pages.{Page}
use Rattle.mast_onto.specs.Axioms.{axiom_judged}
use Rattle.mast_onto.specs.Ontologies.{front_judged, behind_front, iris_judged, axioms, inside_judged, IsBreachAmong, IsBreachIn}
use Rattle.mast_onto.specs.declared.statement.Statement.{Statement}
use Rattle.mast_onto.specs.declared.statements.Statements.{Statements}
use Rattle.mast_onto.specs.inside.Stating.{StateAll, AllStated, ReadsAxioms, ReadsInside, IsBreachFrom}
use Rattle.mast_onto.proofs.FrontLemmas.{within_none, among_from}

-- the first IRI is wrong
pub first_iri : (page : Page) (old : Lists) (inside after : List Item) (breach : ShapeBreach) → first_breach old (front_judged page inside) ≡ Some breach → IsBreachIn page old inside after breach
first_iri page old inside after breach h = inl (breach_first old (front_judged page inside) (front_judged page (behind_front page inside)) breach h)

-- the second is
pub second_iri : (page : Page) (old : Lists) (inside rest after : List Item) (breach : ShapeBreach) → rest ≡ behind_front page inside → AreRight old (front_judged page inside) old
    → first_breach old (front_judged page rest) ≡ Some breach → IsBreachIn page old inside after breach
second_iri page old inside rest after breach e a h =
    inl (breach_second old old (front_judged page inside) (front_judged page (behind_front page inside)) breach a (ap (λ xs. first_breach old (front_judged page xs)) (sym e) ∙ h))

-- neither is
pub both_iris : (page : Page) (old : Lists) (inside rest : List Item) → rest ≡ behind_front page inside → AreRight old (front_judged page inside) old → AreRight old (front_judged page rest) old
    → AreRight old (iris_judged page inside) old
both_iris page old inside rest e a b = right_parts old old old (front_judged page inside) (front_judged page (behind_front page inside)) a (subst (λ xs. AreRight old (front_judged page xs) old) e b)

-- the axioms behind both
pub same_axioms : (page : Page) (inside rest items : List Item) → rest ≡ behind_front page inside → items ≡ behind_front page rest → items ≡ axioms page inside
same_axioms page inside rest items e f = f ∙ ap (behind_front page) e

-- an axiom is wrong, or what follows is
pub axiom_wrong : (page : Page) (old : Lists) (inside items after : List Item) (breach : ShapeBreach) → items ≡ axioms page inside → AreRight old (iris_judged page inside) old
    → IsBreachFrom page old 0 items after breach → IsBreachIn page old inside after breach
axiom_wrong page old inside items after breach e a h =
    inr (a.none, subst (λ xs. IsBreachAmong page old xs after breach) e (among_from page old items after [] old [] breach (within_none page old) h))

-- nothing is
pub inside_right : (page : Page) (old new last : Lists) (inside items after : List Item) (statements : List (Lined Statement)) → items ≡ axioms page inside → AreRight old (iris_judged page inside) old
    → AllStated page items old new statements → AreRight new (after_judged page.doc after) last
    → AreRight old (inside_judged page inside ++ after_judged page.doc after) last
inside_right page old new last inside items after statements e a h b =
    right_parts old new last (inside_judged page inside) (after_judged page.doc after)
    (right_parts old old new (iris_judged page inside) (flat_map (axiom_judged page) (axioms page inside)) a (subst (λ xs. AreRight old (flat_map (axiom_judged page) xs) new) e h.right)) b

-- the statements are those of the axioms
pub inside_states : (page : Page) (old new : Lists) (inside items : List Item) (statements : List (Lined Statement)) → items ≡ axioms page inside
    → AllStated page items old new statements → StateAll page new (axioms page inside) statements
inside_states page old new inside items statements e h = subst (λ xs. StateAll page new xs statements) e h.states

-- the breach that stops the reading of a part is the first of it
pub judges_breach : {T : Type 0} (old mid : Lists) (js : List Judgement) (P : T → Type 0) (why : Stop ShapeBreach) (breach : ShapeBreach)
    → Judges old js mid P (Err why) → why ≡ Named breach → first_breach old js ≡ Some breach
judges_breach old mid js P (Named other) breach h e = let f : other ≡ breach = cc in h ∙ ap Some f
judges_breach old mid js P NoMemory breach h e = absurd (cc)

-- so is that which stops the reading of the axioms
pub axioms_breach : (page : Page) (items after : List Item) (old mid : Lists) (why : Stop ShapeBreach) (breach : ShapeBreach)
    → ReadsAxioms page items old mid (Err why) → why ≡ Named breach → IsBreachFrom page old 0 items after breach
axioms_breach page items after old mid (Named other) breach h e = let f : other ≡ breach = cc in subst (IsBreachFrom page old 0 items after) f (h after)
axioms_breach page items after old mid NoMemory breach h e = absurd (cc)

-- what stops the reading of the inside is its first breach
pub inside_stop : (page : Page) (inside after : List Item) (old new : Lists) (result : Result Statements (Stop ShapeBreach)) (why : Stop ShapeBreach)
    → IsErrAnd result (λ e. e ≡ why) → ((breach : ShapeBreach) → why ≡ Named breach → IsBreachIn page old inside after breach) → ReadsInside page inside after old new result
inside_stop page inside after old new (Ok x) why same h = absurd same
inside_stop page inside after old new (Err (Named breach)) why same h = h breach (sym same)
inside_stop page inside after old new (Err NoMemory) why same h = tt
