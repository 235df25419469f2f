-- What the laws say of table files and of numbers.
use Rattle.std.specs.Prelude.{◌≡◌, ◌↔◌, ◌⊎◌, ℕ, List, Some, None, IsSome, Contains}
use Rattle.mast_terms.specs.declared.value.Value.{Value}
use Rattle.mast_tables.specs.declared.declaration.Column.{Column}
use Rattle.mast_tables.specs.declared.declaration.RowBreach.{RowBreach}
use Rattle.mast_tables.specs.Breach.{HasRows, HasBreach}
use Rattle.mast_tables.specs.Records.{Record}
use Rattle.mast_tables.specs.Rows.{IsPlace, Row, cell_at, cells_of, number_at, number_of}

-- a file has the rows of a table, or a first breach
abbrev pub HasAnswer : List Column → ℕ → List Record → Type 0
HasAnswer columns most records =
    ((rows : List Row) × HasRows columns most records rows)
    ⊎ ((breach : RowBreach) × HasBreach columns most records breach)

-- and not both
abbrev pub HasNotBoth : List Column → ℕ → List Record → Type 0
HasNotBoth columns most records = (rows : List Row) (breach : RowBreach)
    → HasRows columns most records rows → HasBreach columns most records breach → ⊥

-- it has no other rows
abbrev pub HasOneTable : List Column → ℕ → List Record → Type 0
HasOneTable columns most records = (rows other : List Row)
    → HasRows columns most records rows → HasRows columns most records other → rows ≡ other

-- and no other breach
abbrev pub HasOneBreach : List Column → ℕ → List Record → Type 0
HasOneBreach columns most records = (breach other : RowBreach)
    → HasBreach columns most records breach → HasBreach columns most records other → breach ≡ other

-- two cells of these rows have one number exactly where their values are equal
abbrev pub NumbersTell : List Row → Type 0
NumbersTell rows = (row column other next : ℕ) → IsPlace rows row column → IsPlace rows other next
    → (number_at rows row column ≡ number_at rows other next) ↔ (cell_at rows row column ≡ cell_at rows other next)

-- a cell has no number exactly where it is missing
abbrev pub MissingHaveNone : List Row → Type 0
MissingHaveNone rows = (row column : ℕ) → IsPlace rows row column
    → (number_at rows row column ≡ None) ↔ (cell_at rows row column ≡ None)

-- a value has a number exactly where it is that of a cell
abbrev pub CellsHaveNumbers : List Row → Type 0
CellsHaveNumbers rows = (value : Value) → IsSome (number_of rows value) ↔ Contains (cells_of rows) (Some value)
