-- Rows that have a value in each cell.
use Rattle.std.specs.Prelude.{◌≡◌, ◌*◌, ◌≤◌, List, Some, map, length}
use Rattle.std.specs.List.{AllByRecursion, AllZip}
use Rattle.mast_terms.specs.declared.value.Kind.{Kind}
use Rattle.mast_terms.specs.declared.value.Kind.TheVariants as kind
use Rattle.mast_terms.specs.declared.value.Value.{Value}
use Rattle.mast_terms.specs.declared.value.Value.TheVariants as v
use Rattle.mast_tables.specs.declared.declaration.Column.{Column}
use Rattle.mast_tables.specs.Limits.{most_given}
use Rattle.mast_tables.specs.Rows.{Row}

-- the kind of a value
abbrev pub value_kind : Value → Kind
value_kind (v.Int number) = kind.Integer
value_kind (v.Text text) = kind.Text
value_kind (v.Date date) = kind.Date

-- the values have the width and the kinds of the columns
abbrev pub FitsColumns : List Column → List Value → Type 0
FitsColumns columns values = AllZip (λ column value. value_kind value ≡ column.kind) columns values

-- a table may have these rows: it has a column, each row fits the columns, and the cells are not too many
pub record MayHold (columns : List Column) (rows : List (List Value)) : Type 0 where
  pub wide : 1 ≤ length columns
  pub fit : AllByRecursion (FitsColumns columns) rows
  pub few : length rows * length columns ≤ most_given

-- a row of these values, none of which is missing
abbrev pub whole_row : List Value → Row
whole_row values = map (λ value. Some value) values

-- rows of these values
abbrev pub whole_rows : List (List Value) → List Row
whole_rows rows = map whole_row rows
