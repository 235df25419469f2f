-- The text of a set of lines.
use Rattle.std.specs.Prelude.{◌≡◌, ℕ, List, [], ◌∷◌, ◌++◌, length, codes, Contains}
use Rattle.std.specs.Ordering.{nat_cmp}
use Rattle.std.specs.List.Sorted.{IsStrictlySortedBy}
use Rattle.std.specs.Cmp.Lexicographic.{slice_cmp}

-- the lines in order, each with its line feed
abbrev pub lines_text : List (List ℕ) → List ℕ
lines_text [] = []
lines_text (line ∷ lines) = line ++ (codes "\n" ++ lines_text lines)

-- the text of a set of lines: the members sorted by their bytes, each once
pub record IsTextOf (IsLine : List ℕ → Type 0) (text : List ℕ) : Type 0 where
  pub lines : List (List ℕ)
  pub sorted : IsStrictlySortedBy (slice_cmp nat_cmp) lines
  pub each : (line : List ℕ) → Contains lines line → IsLine line
  pub all : (line : List ℕ) → IsLine line → Contains lines line
  pub is : text ≡ lines_text lines

-- the text of a set of lines, and how many members it has
pub record IsCountedText (IsLine : List ℕ → Type 0) (text : List ℕ) (count : ℕ) : Type 0 where
  pub set : IsTextOf IsLine text
  pub members : count ≡ length set.lines

-- the lines that stand in a list
abbrev pub StandsIn : List (List ℕ) → List ℕ → Type 0
StandsIn lines line = Contains lines line

-- two sets of lines have the same members
pub record AreSame (IsLine IsOther : List ℕ → Type 0) : Type 0 where
  pub to : (line : List ℕ) → IsLine line → IsOther line
  pub from : (line : List ℕ) → IsOther line → IsLine line
