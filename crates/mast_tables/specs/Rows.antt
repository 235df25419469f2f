-- A table as its rows of cells. Rows and columns count from 1.
use Rattle.std.specs.Prelude.{ℕ, ◌-◌, ◌≤◌, List, [], ◌∷◌, ◌++◌, Option, None, length, get_or, option_and_then}
use Rattle.mast_terms.specs.declared.value.Value.{Value}
use Rattle.mast_tables.specs.Values.{number_among}

-- a row of cells, each a value or missing
abbrev pub Row : Type 0
Row = List (Option Value)

-- the cells of rows, one after another
abbrev pub cells_of : List Row → List (Option Value)
cells_of [] = []
cells_of (row ∷ rows) = row ++ cells_of rows

-- the table has this row, and the row this column
pub record IsPlace (rows : List Row) (row column : ℕ) : Type 0 where
  pub row_from : 1 ≤ row
  pub row_to : row ≤ length rows
  pub column_from : 1 ≤ column
  pub column_to : column ≤ length (get_or rows (row - 1) [])

-- the cell of a row and a column
abbrev pub cell_at : List Row → ℕ → ℕ → Option Value
cell_at rows row column = get_or (get_or rows (row - 1) []) (column - 1) None

-- the number of a value: its place among the different values of the table, in the order in which they come first
abbrev pub number_of : List Row → Value → Option ℕ
number_of rows value = number_among (cells_of rows) value

-- the number of a cell's value
abbrev pub number_at : List Row → ℕ → ℕ → Option ℕ
number_at rows row column = option_and_then (number_of rows) (cell_at rows row column)
