-- What has rows has no breach.
use Rattle.std.proofs.Common.{◌≡◌, inl, inr, ℕ, ◌+◌, ◌<◌, ◌≤◌, List, [], ◌∷◌, length, refl, sym, subst, ◌∙◌, true≢false, arith, IsUtf8}
use Rattle.std.specs.Prelude.{Option, Some, None}
use Rattle.std.proofs.lemmas.Str.{IsUtf8-nil}
use Rattle.mast_terms.specs.declared.value.Kind.{Kind}
use Rattle.mast_terms.specs.declared.value.Kind.TheVariants as kind
use Rattle.mast_terms.specs.declared.value.Value.{Value}
use Rattle.mast_terms.specs.declared.value.Value.TheVariants as v
use Rattle.mast_terms.specs.IntegerCell.{integer_of}
use Rattle.mast_terms.specs.DateCell.{IsDateText}
use Rattle.mast_tables.specs.declared.declaration.Column.{Column}
use Rattle.mast_tables.specs.declared.declaration.RowBreach.{RowBreach}
use Rattle.mast_tables.specs.declared.declaration.RowKind.{RowKind}
use Rattle.mast_tables.specs.declared.declaration.RowKind.TheVariants as row
use Rattle.mast_tables.specs.Breach.{HasBreach, HasRows, AreRows, DiffersAt, IsRow, IsWrongAt, RecordBreach, RowsBreach, header_of}
use Rattle.mast_tables.specs.Records.{Record}
use Rattle.mast_tables.specs.Rows.{Row}
use Rattle.mast_tables.specs.Typed.{Gives, IsCell, IsWrong}

-- an empty cell gives no number and no date
gives_empty : (k : Kind) (cell : List ℕ) (value : Value) → cell ≡ [] → (k ≡ kind.Text → ⊥) → Gives k cell value → ⊥
gives_empty kind.Text cell value e other g = other refl
gives_empty kind.Integer cell (v.Int n) e other g =
    let none : integer_of [] ≡ Some n = subst (λ (x : List ℕ). integer_of x ≡ Some n) e g in absurd (cc)
gives_empty kind.Integer cell (v.Text t) e other g = g
gives_empty kind.Integer cell (v.Date d) e other g = g
gives_empty kind.Date cell (v.Date d) e other g = absurd (cc)
gives_empty kind.Date cell (v.Text t) e other g = g
gives_empty kind.Date cell (v.Int n) e other g = g

gives_no_integer : (k : Kind) (cell : List ℕ) (value : Value) → k ≡ kind.Integer → integer_of cell ≡ None → Gives k cell value → ⊥
gives_no_integer kind.Text cell value e none g = absurd (cc)
gives_no_integer kind.Date cell value e none g = absurd (cc)
gives_no_integer kind.Integer cell (v.Int n) e none g = absurd (cc)
gives_no_integer kind.Integer cell (v.Text t) e none g = g
gives_no_integer kind.Integer cell (v.Date d) e none g = g

gives_no_date : (k : Kind) (cell : List ℕ) (value : Value) → k ≡ kind.Date → (IsDateText cell → ⊥) → Gives k cell value → ⊥
gives_no_date kind.Text cell value e none g = absurd (cc)
gives_no_date kind.Integer cell value e none g = absurd (cc)
gives_no_date kind.Date cell (v.Date d) e none g = none (d, g)
gives_no_date kind.Date cell (v.Text t) e none g = g
gives_no_date kind.Date cell (v.Int n) e none g = g

-- a cell that its column accepts is not wrong
pub cell_fits : (column : Column) (cell : List ℕ) (value : Option Value) (wrong : RowKind) → IsCell column cell value → IsWrong column cell wrong → ⊥
cell_fits column cell None row.NotUtf8 c w = w (subst IsUtf8 (sym c.1) IsUtf8-nil)
cell_fits column cell None row.Missing c w = true≢false (sym c.0 ∙ w.1)
cell_fits column cell None row.BadInt c w = w.1 c.1
cell_fits column cell None row.BadDate c w = w.1 c.1
cell_fits column cell None row.Header c w = w
cell_fits column cell None row.Rows c w = w
cell_fits column cell None row.Width c w = w
cell_fits column cell (Some value) row.NotUtf8 c w = w c.0
cell_fits column cell (Some value) row.Missing c w = gives_empty column.kind cell value w.0 w.2 c.2
cell_fits column cell (Some value) row.BadInt c w = gives_no_integer column.kind cell value w.2 w.3 c.2
cell_fits column cell (Some value) row.BadDate c w = gives_no_date column.kind cell value w.2 w.3 c.2
cell_fits column cell (Some value) row.Header c w = w
cell_fits column cell (Some value) row.Rows c w = w
cell_fits column cell (Some value) row.Width c w = w

row_fits : (from : ℕ) (columns : List Column) (fields : Record) (cells : Row) (column : ℕ) (wrong : RowKind) → IsRow columns fields cells → IsWrongAt from columns fields column wrong → ⊥
row_fits from [] fields cells column wrong r w = w
row_fits from (first ∷ columns) [] cells column wrong r w = w
row_fits from (first ∷ columns) (cell ∷ fields) [] column wrong r w = r
row_fits from (first ∷ columns) (cell ∷ fields) (value ∷ cells) column wrong r (inl w) = cell_fits first cell value wrong r.0 w.1
row_fits from (first ∷ columns) (cell ∷ fields) (value ∷ cells) column wrong r (inr w) = row_fits (from + 1) columns fields cells column wrong r.1 w.2

fields_long : (columns : List Column) (fields : Record) (cells : Row) → IsRow columns fields cells → length fields ≡ length columns
fields_long [] [] cells r = refl
fields_long [] (cell ∷ fields) cells r = absurd r
fields_long (first ∷ columns) [] cells r = absurd r
fields_long (first ∷ columns) (cell ∷ fields) [] r = absurd r
fields_long (first ∷ columns) (cell ∷ fields) (value ∷ cells) r = let rest : length fields ≡ length columns = fields_long columns fields cells r.1 in omega arith

-- a record that is a row has no breach
pub record_fits : (columns : List Column) (most number : ℕ) (fields : Record) (cells : Row) (column : ℕ) (wrong : RowKind) → number ≤ most → IsRow columns fields cells → RecordBreach columns most number fields column wrong → ⊥
record_fits columns most number fields cells column row.Rows le r b = let past : most < number = b.0 in absurd (omega arith)
record_fits columns most number fields cells column row.Width le r b = b.1 (fields_long columns fields cells r)
record_fits columns most number fields cells column row.Header le r b = b
record_fits columns most number fields cells column row.NotUtf8 le r b = row_fits 1 columns fields cells column row.NotUtf8 r b.2
record_fits columns most number fields cells column row.Missing le r b = row_fits 1 columns fields cells column row.Missing r b.2
record_fits columns most number fields cells column row.BadInt le r b = row_fits 1 columns fields cells column row.BadInt r b.2
record_fits columns most number fields cells column row.BadDate le r b = row_fits 1 columns fields cells column row.BadDate r b.2

rows_fit : (columns : List Column) (most number : ℕ) (records : List Record) (rows : List Row) (breach : RowBreach) → number + length records ≤ most + 1 → AreRows columns records rows → RowsBreach columns most number records breach → ⊥
rows_fit columns most number [] rows breach le r b = b
rows_fit columns most number (fields ∷ records) [] breach le r b = r
rows_fit columns most number (fields ∷ records) (cells ∷ rows) breach le r (inl b) = record_fits columns most number fields cells breach.column breach.kind (omega arith) r.0 b.1
rows_fit columns most number (fields ∷ records) (cells ∷ rows) breach le r (inr b) = rows_fit columns most (number + 1) records rows breach (omega arith) r.1 b.3

-- equal headers differ at no column
pub names_same : (from : ℕ) (names : Record) (column : ℕ) → DiffersAt from names names column → ⊥
names_same from [] column d = d
names_same from (name ∷ names) column (inl d) = d.0 refl
names_same from (name ∷ names) column (inr d) = names_same (from + 1) names column d.1

-- a file that has rows has no breach
pub file_fits : (columns : List Column) (most : ℕ) (records : List Record) (rows : List Row) (breach : RowBreach) → HasRows columns most records rows → HasBreach columns most records breach → ⊥
file_fits columns most [] rows breach r b = r
file_fits columns most (header ∷ records) rows breach r (inl b) = names_same 1 (header_of columns) breach.column (subst (λ (k : Record). DiffersAt 1 (header_of columns) k breach.column) r.0 b.2)
file_fits columns most (header ∷ records) rows breach r (inr b) = rows_fit columns most 1 records rows breach (omega (arith, r.1)) r.2 b.1
