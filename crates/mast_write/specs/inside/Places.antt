-- Lines as places in a buffer, and the words by which they are sorted.
use Rattle.std.specs.Prelude.{◌≡◌, ◌<◌, ◌+◌, ◌*◌, ℕ, zero, suc, List, [], ◌∷◌, ◌++◌, length, drop, map, nat_eq}
use Rattle.std.specs.Cmp.Lexicographic.{pointwise}
use Rattle.std.specs.List.{AllByRecursion, dedup, dedup_from}
use Rattle.mast_write.specs.declared.places.TheConstants.{BYTE_VALUES, WORD_BYTES}
use Rattle.mast_write.specs.LineText.{lines_text}
use denote.Ref.{Bor}

-- a line begins with a front
pub record Begins (front line : List ℕ) : Type 0 where
  pub more : List ℕ
  pub is : line ≡ front ++ more

-- a number and the next k bytes, as one number, where a byte that is not there counts as 0
unfoldable pub word_of : ℕ → ℕ → List ℕ → ℕ
word_of n zero bytes = n
word_of n (suc k) [] = word_of (n * BYTE_VALUES) k []
word_of n (suc k) (b ∷ bs) = word_of (n * BYTE_VALUES + b) k bs

-- a place: a word, and a line behind a reference
abbrev pub Place : Type 0
Place = ℕ × Bor (List ℕ)

-- the line of a place
abbrev pub line_of : Place → List ℕ
line_of place = place.1.now

-- the lines of places
abbrev pub lines_of : List Place → List (List ℕ)
lines_of places = map line_of places

-- its word is that of the eight bytes behind so many
pub record IsPlace (skip : ℕ) (place : Place) : Type 0 where
  pub word : place.0 ≡ word_of 0 WORD_BYTES (drop skip (line_of place))
  pub bytes : AllByRecursion (λ b. b < BYTE_VALUES) (line_of place)

-- the places of lines: their words stand behind a front that all lines have
pub record ArePlaces (lines : List (List ℕ)) (places : List Place) : Type 0 where
  pub front : List ℕ
  pub begin : AllByRecursion (Begins front) lines
  pub are : lines_of places ≡ lines
  pub words : AllByRecursion (IsPlace (length front)) places

-- the lines without those that equal the one before them
abbrev pub kept : List (List ℕ) → List (List ℕ)
kept lines = dedup (pointwise nat_eq) lines

-- a line, and so with those behind it
abbrev pub kept_from : List ℕ → List (List ℕ) → List (List ℕ)
kept_from line lines = dedup_from (pointwise nat_eq) line lines

-- the text of these
abbrev pub kept_text : List ℕ → List (List ℕ) → List ℕ
kept_text line lines = lines_text (kept_from line lines)
