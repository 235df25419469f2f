-- Rows of a table file fit its declaration.
use Rattle.std.proofs.Common.{◌≡◌, ◌≤◌, ℕ, suc, List, [], ◌∷◌, Option, Some, None, length, ap, refl, arith}
use Rattle.std.specs.List.{AllByRecursion, AllZip}
use Rattle.mast_canon.specs.Fitting.{IsCellOf, IsRowOf}
use Rattle.mast_tables.specs.declared.declaration.Column.{Column}
use Rattle.mast_tables.specs.declared.declaration.TableDecl.{TableDecl}
use Rattle.mast_tables.specs.Breach.{IsRow, AreRows, HasRows}
use Rattle.mast_tables.specs.Records.{Record}
use Rattle.mast_tables.specs.Rows.{Row}
use Rattle.mast_tables.specs.Typed.{Gives, IsCell}
use Rattle.mast_tables.specs.Whole.{value_kind}
use Rattle.mast_terms.specs.declared.value.Kind.{Kind}
use Rattle.mast_terms.specs.declared.value.Kind.TheVariants as kind
use Rattle.mast_terms.specs.declared.value.Value.{Value}
use Rattle.mast_terms.specs.declared.value.Value.TheVariants as v

text_given : (cell : List ℕ) (value : Value) → Gives kind.Text cell value → value_kind value ≡ kind.Text
text_given cell (v.Text text) h = refl
text_given cell (v.Int number) h = absurd h
text_given cell (v.Date date) h = absurd h

integer_given : (cell : List ℕ) (value : Value) → Gives kind.Integer cell value → value_kind value ≡ kind.Integer
integer_given cell (v.Text text) h = absurd h
integer_given cell (v.Int number) h = refl
integer_given cell (v.Date date) h = absurd h

date_given : (cell : List ℕ) (value : Value) → Gives kind.Date cell value → value_kind value ≡ kind.Date
date_given cell (v.Text text) h = absurd h
date_given cell (v.Int number) h = absurd h
date_given cell (v.Date date) h = refl

given_kind : (k : Kind) (cell : List ℕ) (value : Value) → Gives k cell value → value_kind value ≡ k
given_kind kind.Text cell value h = text_given cell value h
given_kind kind.Integer cell value h = integer_given cell value h
given_kind kind.Date cell value h = date_given cell value h

cell_fits : (column : Column) (cell : List ℕ) (value : Option Value) → IsCell column cell value → IsCellOf column value
cell_fits column cell None h = h.0
cell_fits column cell (Some value) h = given_kind column.kind cell value h.2

row_fits : (columns : List Column) (fields : Record) (row : Row) → IsRow columns fields row → AllZip IsCellOf columns row
row_fits [] [] [] h = tt
row_fits [] [] (value ∷ row) h = absurd h
row_fits [] (cell ∷ fields) row h = absurd h
row_fits (column ∷ columns) [] row h = absurd h
row_fits (column ∷ columns) (cell ∷ fields) [] h = absurd h
row_fits (column ∷ columns) (cell ∷ fields) (value ∷ row) h = (cell_fits column cell value h.0, row_fits columns fields row h.1)

rows_fit : (columns : List Column) (records : List Record) (rows : List Row) → AreRows columns records rows → AllByRecursion (AllZip IsCellOf columns) rows
rows_fit columns [] [] h = tt
rows_fit columns [] (row ∷ rows) h = absurd h
rows_fit columns (fields ∷ records) [] h = absurd h
rows_fit columns (fields ∷ records) (row ∷ rows) h = (row_fits columns fields row h.0, rows_fit columns records rows h.1)

-- the rows of a table file have the columns of its declaration
pub table_fits : (table : TableDecl) (most : ℕ) (records : List Record) (rows : List Row) → HasRows table.columns most records rows → AllByRecursion (IsRowOf table) rows
table_fits table most [] rows h = absurd h
table_fits table most (header ∷ records) rows h = rows_fit table.columns records rows h.2

as_many : (columns : List Column) (records : List Record) (rows : List Row) → AreRows columns records rows → length rows ≡ length records
as_many columns [] [] h = refl
as_many columns [] (row ∷ rows) h = absurd h
as_many columns (fields ∷ records) [] h = absurd h
as_many columns (fields ∷ records) (row ∷ rows) h = ap suc (as_many columns records rows h.1)

-- a table has no more rows than it may have
pub rows_few : (table : TableDecl) (most : ℕ) (records : List Record) (rows : List Row) → HasRows table.columns most records rows → length rows ≤ most
rows_few table most [] rows h = absurd h
rows_few table most (header ∷ records) rows h =
    let same = as_many table.columns records rows h.2 in
    let few = h.1 in
    omega (same, few, arith)
