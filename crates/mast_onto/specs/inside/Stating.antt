-- What axioms are read to: what they state, within the limit, or the first breach.
use Rattle.std.specs.Prelude.{◌≡◌, ◌⊎◌, ◌<◌, ◌≤◌, ◌+◌, ℕ, List, [], ◌∷◌, ◌++◌, length, Some, Result}
use Rattle.std.specs.List.{flat_map}
use Rattle.std.specs.Borrow.{Bor}
use Rattle.mast_terms.specs.Answers.{Answers}
use Rattle.mast_terms.specs.declared.memory.Stop.{Stop}
use Rattle.mast_terms.specs.Vocabularies.{Lists}
use Rattle.mast_tbox.specs.declared.axiom.Lined.{Lined}
use Rattle.mast_tbox.specs.Lists.{AreEach}
use Rattle.mast_tree.specs.declared.item.Item.{Item}
use Rattle.mast_tree.specs.declared.shape.ShapeBreach.{ShapeBreach}
use Rattle.mast_tree.specs.Judged.{after_judged}
use Rattle.mast_tree.specs.Judgements.{first_breach, AreRight, Judges}
use Rattle.mast_tree.specs.Said.{line}
use Rattle.mast_tree.specs.Pages.{Page, says}
use Rattle.mast_onto.specs.Axioms.{axiom_judged}
use Rattle.mast_onto.specs.Lists.{together}
use Rattle.mast_onto.specs.Ontologies.{front_judged, behind_front, axioms, inside_judged, IsStated, PassesHere, IsBreachIn, items_at}
use Rattle.mast_onto.specs.declared.statement.Statement.{Statement}
use Rattle.mast_onto.specs.declared.statements.Statements.{Statements}
use Rattle.mast_onto.specs.declared.statements.TheConstants.{MOST_ITEMS}

-- an IRI of the ontology was read, if one stands at the front
abbrev pub ReadsFront : Page → List Item → Lists → Result (Bor (List Item)) (Stop ShapeBreach) → Type 0
ReadsFront page items lists result = Judges lists (front_judged page items) lists (λ rest. rest.now ≡ behind_front page items) result

-- an axiom was read, and what it states was added
pub record StatesOne (page : Page) (item : Item) (old new : Lists) (held all : List (Lined Statement)) : Type 0 where
  pub right : AreRight old (axiom_judged page item) new
  pub more : List (Lined Statement)
  pub states : IsStated page new item more
  pub is : all ≡ held ++ more

-- as it is read: the first breach from an axiom on, before which so many items are stated
abbrev pub IsBreachFrom : Page → Lists → ℕ → List Item → List Item → ShapeBreach → Type 0
IsBreachFrom page lists count [] after breach = first_breach lists (after_judged page.doc after) ≡ Some breach
IsBreachFrom page lists count (item ∷ items) after breach =
    (first_breach lists (axiom_judged page item) ≡ Some breach)
    ⊎ ((new : Lists) × (more : List (Lined Statement)) × AreRight lists (axiom_judged page item) new × IsStated page new item more
    × (((MOST_ITEMS < count + length more) × (breach ≡ items_at (line (says page item))))
    ⊎ ((count + length more ≤ MOST_ITEMS) × IsBreachFrom page new (count + length more) items after breach)))

-- an axiom was read
abbrev pub ReadsStated :
    {T : Type 0} → Page → Item → Lists → Lists → List (Lined Statement) → List (Lined Statement) → Result T (Stop ShapeBreach) → Type 0
ReadsStated page item old new held all result =
    Answers result (λ _. StatesOne page item old new held all)
    (λ breach. (first_breach old (axiom_judged page item) ≡ Some breach) ⊎ PassesHere page item old held breach)

-- the axioms state these items
abbrev pub StateAll : Page → Lists → List Item → List (Lined Statement) → Type 0
StateAll page lists items statements =
    (of_each : List (List (Lined Statement))) × AreEach (IsStated page lists) items of_each × (statements ≡ together of_each)

-- axioms were read with which nothing is wrong; a breach of what follows the main node is then the first
pub record AllStated (page : Page) (items : List Item) (old new : Lists) (statements : List (Lined Statement)) : Type 0 where
  pub right : AreRight old (flat_map (axiom_judged page) items) new
  pub states : StateAll page new items statements
  pub behind :
      (after : List Item) (breach : ShapeBreach) → first_breach new (after_judged page.doc after) ≡ Some breach
      → IsBreachFrom page old 0 items after breach

-- axioms were read
abbrev pub ReadsAxioms : Page → List Item → Lists → Lists → Result Statements (Stop ShapeBreach) → Type 0
ReadsAxioms page items old new result =
    Answers result (λ statements. AllStated page items old new statements.list)
    (λ breach. (after : List Item) → IsBreachFrom page old 0 items after breach)

-- axioms are read one by one: what is read of the rest makes, with what was read, the whole; and the first breach of the rest is that
-- of the whole
pub record LeadsOn (page : Page) (old : Lists) (whole : List Item) (now : Lists) (held : List (Lined Statement)) (rest : List Item) : Type 0 where
  pub right :
      (new : Lists) (of_each : List (List (Lined Statement)))
      → AreRight now (flat_map (axiom_judged page) rest) new → AreEach (IsStated page new) rest of_each
      → AreRight old (flat_map (axiom_judged page) whole) new × StateAll page new whole (held ++ together of_each)
  pub breach :
      (after : List Item) (breach : ShapeBreach) → IsBreachFrom page now (length held) rest after breach
      → IsBreachFrom page old 0 whole after breach

-- the inside of a main node was read, and nothing follows that node
abbrev pub ReadsInside : Page → List Item → List Item → Lists → Lists → Result Statements (Stop ShapeBreach) → Type 0
ReadsInside page inside after old new result =
    Answers result
    (λ statements. AreRight old (inside_judged page inside ++ after_judged page.doc after) new × StateAll page new (axioms page inside) statements.list)
    (IsBreachIn page old inside after)
