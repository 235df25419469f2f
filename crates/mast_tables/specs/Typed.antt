-- Cells by the kind of their column.
use Rattle.std.specs.Prelude.{◌≡◌, ℕ, true, false, List, [], Option, Some, None, IsUtf8}
use Rattle.mast_terms.specs.declared.value.Kind.{Kind}
use Rattle.mast_terms.specs.declared.value.Kind.TheVariants as kind
use Rattle.mast_terms.specs.declared.value.Value.{Value}
use Rattle.mast_terms.specs.declared.value.Value.TheVariants as v
use Rattle.mast_terms.specs.IntegerCell.{integer_of}
use Rattle.mast_terms.specs.DateCell.{IsDateText}
use Rattle.mast_terms.specs.Printed.{date_text}
use Rattle.mast_tables.specs.declared.declaration.Column.{Column}
use Rattle.mast_tables.specs.declared.declaration.RowKind.{RowKind}
use Rattle.mast_tables.specs.declared.declaration.RowKind.TheVariants as row

-- a cell of this kind has this value
abbrev pub Gives : Kind → List ℕ → Value → Type 0
Gives kind.Text cell (v.Text text) = text ≡ cell
Gives kind.Integer cell (v.Int number) = integer_of cell ≡ Some number
Gives kind.Date cell (v.Date date) = cell ≡ date_text date
Gives kind.Text cell (v.Int number) = ⊥
Gives kind.Text cell (v.Date date) = ⊥
Gives kind.Integer cell (v.Text text) = ⊥
Gives kind.Integer cell (v.Date date) = ⊥
Gives kind.Date cell (v.Text text) = ⊥
Gives kind.Date cell (v.Int number) = ⊥

-- an empty cell of a column that may have missing cells is missing
abbrev pub IsMissing : Column → List ℕ → Type 0
IsMissing column cell = (column.null ≡ true) × (cell ≡ [])

-- the column accepts the cell, which is missing or has this value
abbrev pub IsCell : Column → List ℕ → Option Value → Type 0
IsCell column cell None = IsMissing column cell
IsCell column cell (Some value) = IsUtf8 cell × (IsMissing column cell → ⊥) × Gives column.kind cell value

-- what is wrong with a cell that its column does not accept
abbrev pub IsWrong : Column → List ℕ → RowKind → Type 0
IsWrong column cell row.NotUtf8 = IsUtf8 cell → ⊥
IsWrong column cell row.Missing = (cell ≡ []) × (column.null ≡ false) × (column.kind ≡ kind.Text → ⊥)
IsWrong column cell row.BadInt = IsUtf8 cell × (cell ≡ [] → ⊥) × (column.kind ≡ kind.Integer) × (integer_of cell ≡ None)
IsWrong column cell row.BadDate = IsUtf8 cell × (cell ≡ [] → ⊥) × (column.kind ≡ kind.Date) × (IsDateText cell → ⊥)
IsWrong column cell row.Header = ⊥
IsWrong column cell row.Rows = ⊥
IsWrong column cell row.Width = ⊥
