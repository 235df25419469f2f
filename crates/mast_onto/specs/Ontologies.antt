-- Ontologies: what a document states, its items within the limit, and its first breach.
use Rattle.std.specs.Prelude.{◌≡◌, ◌⊎◌, ◌+◌, ◌<◌, ◌≤◌, ℕ, Bool, true, false, if◌then◌else◌, List, [], ◌∷◌, ◌++◌, length, Some, None, codes}
use Rattle.std.specs.List.{flat_map}
use Rattle.mast_terms.specs.Vocabularies.{Lists}
use Rattle.mast_tbox.specs.declared.axiom.Lined.{Lined}
use Rattle.mast_tbox.specs.declared.tbox.Ontology.{Ontology}
use Rattle.mast_tbox.specs.Lists.{AreEach}
use Rattle.mast_tree.specs.declared.item.Item.{Item}
use Rattle.mast_tree.specs.declared.shape.ShapeBreach.{ShapeBreach}
use Rattle.mast_tree.specs.declared.shape.ShapeKind.TheVariants.{Items}
use Rattle.mast_tree.specs.Judged.{after_judged, Judging, IsRight, IsInnerBreach}
use Rattle.mast_tree.specs.Judgements.{Judgement, first_breach, AreRight, breach_judged}
use Rattle.mast_tree.specs.MainNode.{Prefixes, IsFrontBreach}
use Rattle.mast_tree.specs.Said.{Said, name, iri, text, tagged, binding, node, line}
use Rattle.mast_tree.specs.Seen.{Document}
use Rattle.mast_tree.specs.Pages.{Page, page_of, says, names}
use Rattle.mast_onto.specs.Axioms.{axiom_judged, IsAxiom}
use Rattle.mast_onto.specs.Lists.{together}
use Rattle.mast_onto.specs.Nodes.{axiom_form}
use Rattle.mast_onto.specs.Numbered.{inclusions_in, negatives_in, functional_in, numbered}
use Rattle.mast_onto.specs.Stated.{stated}
use Rattle.mast_onto.specs.declared.statement.Axiom.{Axiom}
use Rattle.mast_onto.specs.declared.statement.Statement.{Statement}
use Rattle.mast_onto.specs.declared.statements.TheConstants.{MOST_ITEMS}

-- an IRI, in brackets or by its prefix
abbrev pub is_iri : Said → Bool
is_iri (name word at) = true
is_iri (iri word at) = true
is_iri (text chars at) = false
is_iri (tagged at) = false
is_iri (binding at) = false
is_iri (node word at items) = false

-- what is judged of an IRI of the ontology, if one stands at the front: its form and prefix
abbrev pub front_judged : Page → List Item → List Judgement
front_judged page [] = []
front_judged page (item ∷ items) = if is_iri (says page item) then breach_judged (names page item) else []

-- the items behind it
abbrev pub behind_front : Page → List Item → List Item
behind_front page [] = []
behind_front page (item ∷ items) = if is_iri (says page item) then items else item ∷ items

-- what is judged of an optional IRI and an optional second one
abbrev pub iris_judged : Page → List Item → List Judgement
iris_judged page inside = front_judged page inside ++ front_judged page (behind_front page inside)

-- what stands among the axioms of an ontology, behind its IRIs
abbrev pub axioms : Page → List Item → List Item
axioms page inside = behind_front page (behind_front page inside)

-- what is judged inside the main node: the IRIs of the ontology, then each axiom
abbrev pub inside_judged : Page → List Item → List Judgement
inside_judged page inside = iris_judged page inside ++ flat_map (axiom_judged page) (axioms page inside)

-- the same of a document, by its prefixes
abbrev pub ontology_judged : Document → Judging
ontology_judged doc prefixes inside = inside_judged (page_of doc prefixes) inside

-- what an item among the axioms states
pub record IsStated (page : Page) (lists : Lists) (item : Item) (statements : List (Lined Statement)) : Type 0 where
  pub read : Axiom
  pub is : IsAxiom page lists (axiom_form page item) read
  pub states : statements ≡ stated (line (says page item)) read

-- the axioms inside the main node state these items, of each axiom a list, within the limit
abbrev pub HasStatements : Document → Lists → List (List (Lined Statement)) → Prefixes → List Item → Type 0
HasStatements doc lists of_each prefixes inside =
    AreEach (IsStated (page_of doc prefixes) lists) (axioms (page_of doc prefixes) inside) of_each
    × (length (together of_each) ≤ MOST_ITEMS)

-- the document has the ontology, over the names of the vocabulary before it: nothing is wrong with it, and its items are those that its
-- axioms state, in order
pub record HasOntology (doc : Document) (old : Lists) (ontology : Ontology) : Type 0 where
  pub of_each : List (List (Lined Statement))
  pub right : IsRight doc (codes "Ontology") (ontology_judged doc) old ontology.vocab (HasStatements doc ontology.vocab of_each)
  pub inclusions : ontology.tbox.inclusions ≡ numbered 0 (inclusions_in (together of_each))
  pub negatives : ontology.tbox.negatives ≡ negatives_in (together of_each)
  pub functional : ontology.tbox.functional ≡ functional_in (together of_each)

-- the limit of items, at a line
abbrev pub items_at : ℕ → ShapeBreach
items_at line = record { line = line; kind = Items }

-- nothing is wrong with axioms, which state these items within the limit; the names are then these
pub record AreWithin (page : Page) (old : Lists) (items : List Item) (now : Lists) (of_each : List (List (Lined Statement))) : Type 0 where
  pub right : AreRight old (flat_map (axiom_judged page) items) now
  pub states : AreEach (IsStated page now) items of_each
  pub few : length (together of_each) ≤ MOST_ITEMS

-- nothing is wrong with an axiom, and behind these items what it states passes the limit
pub record PassesHere (page : Page) (item : Item) (now : Lists) (held : List (Lined Statement)) (breach : ShapeBreach) : Type 0 where
  pub new : Lists
  pub more : List (Lined Statement)
  pub right : AreRight now (axiom_judged page item) new
  pub states : IsStated page new item more
  pub passes : MOST_ITEMS < length (held ++ more)
  pub is : breach ≡ items_at (line (says page item))

-- the axioms before this one are within the limit, and something is wrong with it, or the limit is passed with it
pub record IsAtAxiom (page : Page) (old : Lists) (items : List Item) (breach : ShapeBreach) : Type 0 where
  pub before : List Item
  pub item : Item
  pub behind : List Item
  pub is : items ≡ before ++ item ∷ behind
  pub now : Lists
  pub of_each : List (List (Lined Statement))
  pub within : AreWithin page old before now of_each
  pub breaks : (first_breach now (axiom_judged page item) ≡ Some breach) ⊎ PassesHere page item now (together of_each) breach

-- all axioms are within the limit, and something follows the main node
pub record IsBehindAll (page : Page) (old : Lists) (items after : List Item) (breach : ShapeBreach) : Type 0 where
  pub now : Lists
  pub of_each : List (List (Lined Statement))
  pub within : AreWithin page old items now of_each
  pub breaks : first_breach now (after_judged page.doc after) ≡ Some breach

-- the first breach of axioms and of what follows the main node
abbrev pub IsBreachAmong : Page → Lists → List Item → List Item → ShapeBreach → Type 0
IsBreachAmong page old items after breach = IsAtAxiom page old items breach ⊎ IsBehindAll page old items after breach

-- the first breach inside the main node or behind it: in the IRIs of the ontology, or else of the axioms and of what follows
abbrev pub IsBreachIn : Page → Lists → List Item → List Item → ShapeBreach → Type 0
IsBreachIn page old inside after breach =
    (first_breach old (iris_judged page inside) ≡ Some breach)
    ⊎ ((first_breach old (iris_judged page inside) ≡ None) × IsBreachAmong page old (axioms page inside) after breach)

-- the first breach of an ontology document, over the names of the vocabulary before it
abbrev pub IsOntologyBreach : Document → Lists → ShapeBreach → Type 0
IsOntologyBreach doc old breach =
    IsFrontBreach doc (codes "Ontology") breach
    ⊎ IsInnerBreach doc (codes "Ontology") (λ prefixes inside after. IsBreachIn (page_of doc prefixes) old inside after breach)

-- two ontologies have the same names and the same axioms
pub record AreSame (a b : Ontology) : Type 0 where
  pub vocab : a.vocab ≡ b.vocab
  pub inclusions : a.tbox.inclusions ≡ b.tbox.inclusions
  pub negatives : a.tbox.negatives ≡ b.tbox.negatives
  pub functional : a.tbox.functional ≡ b.tbox.functional

-- a document has an ontology or a first breach, not both, and only one of it
pub record OntologyLaw (doc : Document) (old : Lists) : Type 0 where
  pub either : ((ontology : Ontology) × HasOntology doc old ontology) ⊎ ((breach : ShapeBreach) × IsOntologyBreach doc old breach)
  pub not_both : (ontology : Ontology) (breach : ShapeBreach) → HasOntology doc old ontology → IsOntologyBreach doc old breach → ⊥
  pub one : (a b : Ontology) → HasOntology doc old a → HasOntology doc old b → AreSame a b
  pub one_breach : (b c : ShapeBreach) → IsOntologyBreach doc old b → IsOntologyBreach doc old c → b ≡ c
