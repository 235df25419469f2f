-- What is judged of a whole document: its prologue, what stands inside its main node, and what follows that node.
use Rattle.std.specs.Prelude.{◌≡◌, ◌⊎◌, ℕ, List, [], ◌∷◌, ◌++◌, Some}
use Rattle.mast_terms.specs.Vocabularies.{Lists}
use Rattle.mast_tree.specs.declared.item.Item.{Item}
use Rattle.mast_tree.specs.declared.shape.ShapeBreach.{ShapeBreach}
use Rattle.mast_tree.specs.declared.shape.ShapeKind.TheVariants as shape
use Rattle.mast_tree.specs.Judgements.{Judgement, breaks, first_breach, AreRight}
use Rattle.mast_tree.specs.MainNode.{Prefixes, HasParts, IsFrontBreach}
use Rattle.mast_tree.specs.Said.{said, line}
use Rattle.mast_tree.specs.Seen.{Document}

-- nothing may follow the main node: each item there breaks the form
abbrev pub after_judged : Document → List Item → List Judgement
after_judged doc [] = []
after_judged doc (item ∷ items) = breaks shape.Shape (line (said doc item)) ∷ after_judged doc items

-- what is judged of the inside of a main node, by the prefixes
abbrev pub Judging : Type 0
Judging = Prefixes → List Item → List Judgement

-- nothing is wrong with the document, whose names and constants are then these, and P holds of its prefixes and of the inside of its main node
pub record IsRight (doc : Document) (word : List ℕ) (judged : Judging) (old new : Lists) (P : Prefixes → List Item → Type 0) : Type 0 where
  pub prefixes : Prefixes
  pub inside : List Item
  pub after : List Item
  pub parts : HasParts doc word prefixes inside after
  pub right : AreRight old (judged prefixes inside ++ after_judged doc after) new
  pub gives : P prefixes inside

-- P holds of the prefixes of the document, of the inside of its main node, and of what follows it
pub record IsInnerBreach (doc : Document) (word : List ℕ) (P : Prefixes → List Item → List Item → Type 0) : Type 0 where
  pub prefixes : Prefixes
  pub inside : List Item
  pub after : List Item
  pub parts : HasParts doc word prefixes inside after
  pub first : P prefixes inside after

-- the first breach of what is judged of these three
abbrev pub IsJudgedBreach : Document → Judging → Lists → ShapeBreach → Prefixes → List Item → List Item → Type 0
IsJudgedBreach doc judged old breach prefixes inside after =
    first_breach old (judged prefixes inside ++ after_judged doc after) ≡ Some breach

-- the first breach of the document: that of its prologue, or else that of what is judged behind it
abbrev pub IsFirstBreach : Document → List ℕ → Judging → Lists → ShapeBreach → Type 0
IsFirstBreach doc word judged old breach =
    IsFrontBreach doc word breach ⊎ IsInnerBreach doc word (IsJudgedBreach doc judged old breach)
