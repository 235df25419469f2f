-- The cells of a table, by the codes of their values.
use Rattle.std.specs.Prelude.{◌≡◌, ℕ, zero, suc, ◌+◌, ◌*◌, ◌<◌, ◌≤◌, List, [], ◌∷◌, Option, Some, None, map, length, get_or, take, drop, slice_get}
use Rattle.std.specs.List.{IsDistinct}
use Rattle.indexmap.specs.IndexSet.{insert_key}
use Rattle.mast_terms.specs.declared.value.Value.{Value}
use Rattle.mast_tables.specs.declared.cells.Cells.{Cells}
use Rattle.mast_tables.specs.Limits.{most_cells}
use Rattle.mast_tables.specs.Rows.{Row}
use Rattle.mast_tables.specs.Values.{same, different}

-- the cell with a code: 0 is a missing one, and the others have their value's number and one
abbrev pub decoded : List Value → ℕ → Option Value
decoded values zero = None
decoded values (suc number) = slice_get values number

-- the cells that the codes say, of one row after another
abbrev pub cells_in : Cells → List (Option Value)
cells_in c = map (decoded c.values.keys) c.codes.list

-- how many cells a row has
abbrev pub width_in : Cells → ℕ
width_in c = c.codes.width

-- the cell of a row and a column, both from 0
abbrev pub cell_in : Cells → ℕ → ℕ → Option Value
cell_in c row column = get_or (cells_in c) (row * width_in c + column) None

-- each code is 0 or has a value
abbrev pub CodesWithin : ℕ → List ℕ → Type 0
CodesWithin most [] = Unit {0}
CodesWithin most (code ∷ codes) = (code ≤ most) × CodesWithin most codes

-- the codes have values, which are the cells' different values, in order
pub record AreCodes (values : List Value) (codes : List ℕ) : Type 0 where
  pub within : CodesWithin (length values) codes
  pub values_are : values ≡ different (map (decoded values) codes)
  pub apart : IsDistinct same values
  pub few : length codes ≤ most_cells

-- the same of a table's cells
abbrev pub AreCells : Cells → Type 0
AreCells c = AreCodes c.values.keys c.codes.list

-- the values differ, and one more has a code of 32 bits
pub record HaveRoom (values : List Value) : Type 0 where
  pub apart : IsDistinct same values
  pub few : length values < most_cells

-- the values have a cell's value too, and the code says it
abbrev pub IsCoded : List Value → Option Value → List Value → ℕ → Type 0
IsCoded old None new code = (new ≡ old) × (code ≡ 0)
IsCoded old (Some value) new code = (new ≡ insert_key same old value) × (decoded new code ≡ Some value)

-- so many rows have these cells
pub record IsGrid (count : ℕ) (c : Cells) : Type 0 where
  pub cells : AreCells c
  pub size : length (cells_in c) ≡ count * width_in c

-- so many rows of one width, from their cells one after another
abbrev pub rows_of : ℕ → ℕ → List (Option Value) → List Row
rows_of width zero cells = []
rows_of width (suc count) cells = take width cells ∷ rows_of width count (drop width cells)
