-- Codes of cells, kept as a list for each column, and seen row by row.
use Rattle.std.specs.Prelude.{◌≡◌, ℕ, zero, suc, ◌+◌, ◌<◌, ◌≤◌, List, [], ◌++◌, map, length, take, get_or}

-- what contracts see: the number of columns, and the codes of one row after another
pub record InRows : Type 0 where
  pub width : ℕ
  pub list : List ℕ

-- the codes of a row, one of each column
abbrev pub row_codes : ℕ → List (List ℕ) → List ℕ
row_codes row columns = map (λ column. get_or column row 0) columns

-- the codes of so many rows
abbrev pub rows_codes : ℕ → List (List ℕ) → List ℕ
rows_codes zero columns = []
rows_codes (suc rows) columns = rows_codes rows columns ++ row_codes rows columns

-- how many rows are whole: the column whose turn it is has no code of another row
abbrev pub whole : List (List ℕ) → ℕ → ℕ
whole columns next = length (get_or columns next [])

-- the codes of the whole rows, and then those of the row that is begun
abbrev pub in_rows : List (List ℕ) → ℕ → List ℕ
in_rows columns next = rows_codes (whole columns next) columns ++ row_codes (whole columns next) (take next columns)

-- the columns before the next have a code of the row that is begun, and the others have none
pub record AreColumns (columns : List (List ℕ)) (next : ℕ) : Type 0 where
  pub turn : 0 < length columns → next < length columns
  pub begun : (k : ℕ) → k < next → k < length columns → length (get_or columns k []) ≡ whole columns next + 1
  pub waiting : (k : ℕ) → next ≤ k → k < length columns → length (get_or columns k []) ≡ whole columns next
