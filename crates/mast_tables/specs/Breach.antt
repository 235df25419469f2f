-- The rows of a table file, and the file's first breach.
use Rattle.std.specs.Prelude.{◌≡◌, ℕ, ◌+◌, ◌<◌, ◌≤◌, min, ◌⊎◌, List, [], ◌∷◌, map, length, Option, Result}
use Rattle.mast_terms.specs.Answers.{Answers}
use Rattle.mast_terms.specs.declared.memory.Stop.{Stop}
use Rattle.mast_terms.specs.declared.value.Value.{Value}
use Rattle.mast_tables.specs.declared.declaration.Column.{Column}
use Rattle.mast_tables.specs.declared.declaration.RowBreach.{RowBreach}
use Rattle.mast_tables.specs.declared.declaration.RowKind.{RowKind}
use Rattle.mast_tables.specs.declared.declaration.RowKind.TheVariants as kind
use Rattle.mast_tables.specs.Records.{Record}
use Rattle.mast_tables.specs.Rows.{Row}
use Rattle.mast_tables.specs.Typed.{IsCell, IsWrong}

-- the header that a table must have: the names of its columns
abbrev pub header_of : List Column → Record
header_of columns = map (λ column. column.name) columns

-- the columns accept the cells of a record, which are the cells of this row
abbrev pub IsRow : List Column → Record → Row → Type 0
IsRow [] [] [] = Unit {0}
IsRow [] [] (value ∷ row) = ⊥
IsRow [] (cell ∷ fields) row = ⊥
IsRow (column ∷ columns) [] row = ⊥
IsRow (column ∷ columns) (cell ∷ fields) [] = ⊥
IsRow (column ∷ columns) (cell ∷ fields) (value ∷ row) = IsCell column cell value × IsRow columns fields row

-- the records are these rows, one each
abbrev pub AreRows : List Column → List Record → List Row → Type 0
AreRows columns [] [] = Unit {0}
AreRows columns [] (row ∷ rows) = ⊥
AreRows columns (fields ∷ records) [] = ⊥
AreRows columns (fields ∷ records) (row ∷ rows) = IsRow columns fields row × AreRows columns records rows

-- the table has these rows: the first record is its header, and the others, at most so many, are the rows
abbrev pub HasRows : List Column → ℕ → List Record → List Row → Type 0
HasRows columns most [] rows = ⊥
HasRows columns most (header ∷ records) rows =
    (header ≡ header_of columns) × (length records ≤ most) × AreRows columns records rows

-- the first column, counted from this number, at which two headers differ; a column of one of them alone differs
abbrev pub DiffersAt : ℕ → Record → Record → ℕ → Type 0
DiffersAt number [] [] column = ⊥
DiffersAt number [] (cell ∷ cells) column = column ≡ number
DiffersAt number (name ∷ names) [] column = column ≡ number
DiffersAt number (name ∷ names) (cell ∷ cells) column =
    ((cell ≡ name → ⊥) × (column ≡ number)) ⊎ ((cell ≡ name) × DiffersAt (number + 1) names cells column)

-- the first cell, counted from this number, that its column does not accept
abbrev pub IsWrongAt : ℕ → List Column → Record → ℕ → RowKind → Type 0
IsWrongAt number [] fields column wrong = ⊥
IsWrongAt number (first ∷ columns) [] column wrong = ⊥
IsWrongAt number (first ∷ columns) (cell ∷ cells) column wrong =
    ((column ≡ number) × IsWrong first cell wrong)
    ⊎ ((value : Option Value) × IsCell first cell value × IsWrongAt (number + 1) columns cells column wrong)

-- the breach of a record that is not one too many and has the right width: its first wrong cell
abbrev pub CellBreach : List Column → ℕ → ℕ → Record → ℕ → RowKind → Type 0
CellBreach columns most number fields column wrong =
    (number ≤ most) × (length fields ≡ length columns) × IsWrongAt 1 columns fields column wrong

-- the breach of the record with this number, which is a row: too many rows, then a wrong width, then a wrong cell
abbrev pub RecordBreach : List Column → ℕ → ℕ → Record → ℕ → RowKind → Type 0
RecordBreach columns most number fields column kind.Rows = (most < number) × (column ≡ 0)
RecordBreach columns most number fields column kind.Width =
    (number ≤ most) × (length fields ≡ length columns → ⊥) × (column ≡ min (length fields) (length columns) + 1)
RecordBreach columns most number fields column kind.Header = ⊥
RecordBreach columns most number fields column kind.NotUtf8 = CellBreach columns most number fields column kind.NotUtf8
RecordBreach columns most number fields column kind.Missing = CellBreach columns most number fields column kind.Missing
RecordBreach columns most number fields column kind.BadInt = CellBreach columns most number fields column kind.BadInt
RecordBreach columns most number fields column kind.BadDate = CellBreach columns most number fields column kind.BadDate

-- the first breach of records from this number on: each record before it is a row
abbrev pub RowsBreach : List Column → ℕ → ℕ → List Record → RowBreach → Type 0
RowsBreach columns most number [] breach = ⊥
RowsBreach columns most number (fields ∷ records) breach =
    ((breach.number ≡ number) × RecordBreach columns most number fields breach.column breach.kind)
    ⊎ ((row : Row) × (number ≤ most) × IsRow columns fields row × RowsBreach columns most (number + 1) records breach)

-- the first breach of a file
abbrev pub HasBreach : List Column → ℕ → List Record → RowBreach → Type 0
HasBreach columns most [] breach = breach ≡ record { number = 0; column = 1; kind = kind.Header }
HasBreach columns most (header ∷ records) breach =
    ((breach.number ≡ 0) × (breach.kind ≡ kind.Header) × DiffersAt 1 (header_of columns) header breach.column)
    ⊎ ((header ≡ header_of columns) × RowsBreach columns most 1 records breach)

-- the answer on a file: its rows, or its first breach
abbrev pub TellsFile : List Column → ℕ → List Record → Result (List Row) (Stop RowBreach) → Type 0
TellsFile columns most records result = Answers result (HasRows columns most records) (HasBreach columns most records)
