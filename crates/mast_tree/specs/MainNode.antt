-- A document in its parts: its prefixes, what stands inside its main node, and what follows that node.
use Rattle.std.specs.Prelude.{◌≡◌, ℕ, if◌then◌else◌, List, [], ◌∷◌, Option, Some, None}
use Rattle.std.specs.Str.{bytes_eq}
use Rattle.mast_tree.specs.declared.item.Item.{Item}
use Rattle.mast_tree.specs.declared.shape.ShapeBreach.{ShapeBreach}
use Rattle.mast_tree.specs.Prologue.{IsPrologue, IsPrologueBreach}
use Rattle.mast_tree.specs.Said.{Said, node, said}
use Rattle.mast_tree.specs.Seen.{Document}

-- prefixes without their colons, each with what it stands for
abbrev pub Prefixes : Type 0
Prefixes = List (List ℕ × List ℕ)

-- the items inside a node with the word and those after it, or else what is found later
abbrev pub main_here : List ℕ → List Item → Option (List Item × List Item) → Said → Option (List Item × List Item)
main_here word after later (node named at inside) = if bytes_eq named word then Some (inside, after) else later
main_here word after later other = later

-- the items inside the first node with the word, and those after it
abbrev pub main_node : Document → List ℕ → List Item → Option (List Item × List Item)
main_node doc word [] = None
main_node doc word (item ∷ items) = main_here word items (main_node doc word items) (said doc item)

-- the prefixes of a document, the items inside its main node, which has the word, and those after it
pub record HasParts (doc : Document) (word : List ℕ) (prefixes : Prefixes) (inside after : List Item) : Type 0 where
  pub prologue : IsPrologue doc.source doc.tokens word doc.items prefixes
  pub main : main_node doc word doc.items ≡ Some (inside, after)

-- the first breach of its prologue
abbrev pub IsFrontBreach : Document → List ℕ → ShapeBreach → Type 0
IsFrontBreach doc word breach = IsPrologueBreach doc.source doc.tokens word doc.items breach
