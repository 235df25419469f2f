-- Choices of rows for a source query, and which of them meet it.
use Rattle.std.specs.Prelude.{◌≡◌, ℕ, suc, ◌-◌, ◌≤◌, Bool, true, false, if◌then◌else◌, List, [], ◌∷◌, length, get_or, Option, Some, None}
use Rattle.std.specs.List.{AllByRecursion, AllZip}
use Rattle.std.specs.Ordering.{is_eq, is_ne, is_lt, is_le, is_gt, is_ge}
use Rattle.std.specs.Str.{bytes_eq}
use Rattle.std.specs.declared.cmp.Ordering.{Ordering}
use Rattle.mast_terms.specs.declared.value.Value.{Value}
use Rattle.mast_terms.specs.Orders.{value_order}
use Rattle.mast_sql.specs.declared.query.Compare.{Compare}
use Rattle.mast_sql.specs.declared.query.Compare.TheVariants.{Equal, Differ, Less, AtMost, More, AtLeast}
use Rattle.mast_sql.specs.declared.query.Comparison.{Comparison}
use Rattle.mast_sql.specs.declared.query.FromEntry.{FromEntry}
use Rattle.mast_sql.specs.declared.query.Operand.{Operand}
use Rattle.mast_sql.specs.declared.query.Operand.TheVariants.{Column, Constant}
use Rattle.mast_sql.specs.declared.query.SourceQuery.{SourceQuery}
use Rattle.mast_tables.specs.declared.declaration.TableDecl.{TableDecl}
use Rattle.mast_tables.specs.Rows.{Row}
use Rattle.mast_mapping.specs.Columns.{Meaning, meaning_of}

-- the number of the table of this name, from 0; where there is none, one that no table has
abbrev pub table_number : List ℕ → List TableDecl → ℕ
table_number name [] = 0
table_number name (table ∷ tables) = if bytes_eq table.name name then 0 else suc (table_number name tables)

-- the rows of the table that an entry names
abbrev pub rows_of : List TableDecl → List (List Row) → FromEntry → List Row
rows_of decls tables entry = get_or tables (table_number entry.table decls) []

-- the number is that of one of these rows
abbrev pub IsRowNumber : List Row → ℕ → Type 0
IsRowNumber rows number = (1 ≤ number) × (number ≤ length rows)

-- a choice: the number of a row for each entry, in order
abbrev pub IsChoice : List TableDecl → List (List Row) → SourceQuery → List ℕ → Type 0
IsChoice decls tables query choice = AllZip (λ entry number. IsRowNumber (rows_of decls tables entry) number) query.from choice

-- the rows that a choice has for these entries, in order
abbrev pub chosen : List TableDecl → List (List Row) → List FromEntry → List ℕ → List Row
chosen decls tables [] choice = []
chosen decls tables (entry ∷ entries) [] = []
chosen decls tables (entry ∷ entries) (number ∷ choice) =
    get_or (rows_of decls tables entry) (number - 1) [] ∷ chosen decls tables entries choice

-- the cell of a column in the chosen rows: none where the column means nothing, or the cell is missing
abbrev pub cell_of : List Row → Option Meaning → Option Value
cell_of rows None = None
cell_of rows (Some column) = get_or (get_or rows column.entry []) column.column None

-- the value of a side of a comparison: none where its cell is missing
abbrev pub operand_value : List TableDecl → List FromEntry → List Row → Operand → Option Value
operand_value decls entries rows (Column alias name) = cell_of rows (meaning_of decls entries alias name)
operand_value decls entries rows (Constant value) = Some value

-- whether a sign is right of two values that are in this order
abbrev pub is_right : Compare → Ordering → Bool
is_right Equal order = is_eq order
is_right Differ order = is_ne order
is_right Less order = is_lt order
is_right AtMost order = is_le order
is_right More order = is_gt order
is_right AtLeast order = is_ge order

-- whether two sides compare so: numbers by size, dates as days are, texts by bytes; never where one is missing
abbrev pub compare : Compare → Option Value → Option Value → Bool
compare sign None right = false
compare sign (Some left) None = false
compare sign (Some left) (Some right) = is_right sign (value_order left right)

-- the comparison is true of the chosen rows
abbrev pub IsTrueOf : List TableDecl → List FromEntry → List Row → Comparison → Type 0
IsTrueOf decls entries rows c = compare c.op (operand_value decls entries rows c.left) (operand_value decls entries rows c.right) ≡ true

-- the choice meets the query: every comparison is true
pub record Meets (decls : List TableDecl) (tables : List (List Row)) (query : SourceQuery) (choice : List ℕ) : Type 0 where
  pub is_choice : IsChoice decls tables query choice
  pub conditions : AllByRecursion (IsTrueOf decls query.from (chosen decls tables query.from choice)) query.conditions
