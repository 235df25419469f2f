-- A document and its prefixes as readers of places see them: what each item says, and the IRI that it names.
use Rattle.std.specs.Prelude.{◌≡◌, ℕ, List, Result, Ok}
use Rattle.mast_tree.specs.declared.item.Item.{Item}
use Rattle.mast_tree.specs.declared.shape.ShapeBreach.{ShapeBreach}
use Rattle.mast_tree.specs.MainNode.{Prefixes}
use Rattle.mast_tree.specs.Names.{iri_named}
use Rattle.mast_tree.specs.Said.{Said, node, said}
use Rattle.mast_tree.specs.Seen.{Document}

-- a document and its prefixes
pub record Page : Type 0 where
  pub doc : Document
  pub prefixes : Prefixes

-- the page of these
abbrev pub page_of : Document → Prefixes → Page
page_of doc prefixes = record { doc = doc; prefixes = prefixes }

-- what an item says
abbrev pub says : Page → Item → Said
says page item = said page.doc item

-- the IRI that it names, or its breach
abbrev pub names : Page → Item → Result (List ℕ) ShapeBreach
names page item = iri_named page.doc page.prefixes item

-- the item is a node of this word, and these items stand inside it
abbrev pub IsNodeOf : Page → List ℕ → Item → List Item → Type 0
IsNodeOf page word item items = (at : ℕ) × (says page item ≡ node word at items)

-- the item names this IRI
abbrev pub Expands : Page → Item → List ℕ → Type 0
Expands page item named = names page item ≡ Ok named
