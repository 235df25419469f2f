-- Each file has rows or a breach.
use Rattle.std.proofs.Common.{◌≡◌, ◌⊎◌, inl, inr, ℕ, ℤ, ◌+◌, ◌-◌, ◌*◌, ◌<◌, ◌≤◌, leb, eqb, Bool, true, false, List, [], ◌∷◌, length, get_or, refl, sym, ◌∙◌, true≢false, arith, IsUtf8}
use Rattle.std.specs.Prelude.{Option, Some, None, min}
use Rattle.std.specs.Str.{bytes_eq, is_utf8}
use Rattle.std.proofs.lemmas.Bool.Decides.{leb_tells, eqb_tells, not_from_Decides}
use Rattle.std.proofs.lemmas.Slice.Eq.{bytes_eq-Decides}
use Rattle.std.proofs.lemmas.Str.{IsUtf8-nil, IsUtf8-from_is_utf8, is_utf8-from_IsUtf8}
use Rattle.mast_terms.specs.Calendar.{IsDay, days_of}
use Rattle.mast_terms.specs.declared.date.Date.{Date}
use Rattle.mast_terms.specs.declared.value.Kind.{Kind}
use Rattle.mast_terms.specs.declared.value.Kind.TheVariants as kind
use Rattle.mast_terms.specs.declared.value.Value.{Value}
use Rattle.mast_terms.specs.declared.value.Value.TheVariants as v
use Rattle.mast_terms.specs.IntegerCell.{integer_of}
use Rattle.mast_terms.specs.DateCell.{IsDateText}
use Rattle.mast_terms.specs.Printed.{date_text}
use Rattle.mast_tables.specs.declared.declaration.Column.{Column}
use Rattle.mast_tables.specs.declared.declaration.RowBreach.{RowBreach}
use Rattle.mast_tables.specs.declared.declaration.RowKind.{RowKind}
use Rattle.mast_tables.specs.declared.declaration.RowKind.TheVariants as row
use Rattle.mast_tables.specs.Breach.{HasBreach, HasRows, AreRows, DiffersAt, IsRow, IsWrongAt, RecordBreach, RowsBreach, header_of}
use Rattle.mast_tables.specs.Records.{Record}
use Rattle.mast_tables.specs.Rows.{Row}
use Rattle.mast_tables.specs.Typed.{IsCell, IsWrong}
use Rattle.mast_tables.proofs.ReadingLemmas.{cell_breach}

-- ---- dates

-- each of these holds or does not: an order of numbers, a day of the calendar, a date's text
le_any : (a b : ℕ) → (a ≤ b) ⊎ (a ≤ b → ⊥)
le_any a b = by (leb_tells a b)
  where
    by : ((leb a b ≡ true) × (a ≤ b)) ⊎ ((leb a b ≡ false) × (b < a)) → (a ≤ b) ⊎ (a ≤ b → ⊥)
    by (inl h) = inl h.1
    by (inr h) = inr (λ le. omega (arith, h.1))

day_any : (y m d : ℕ) → IsDay y m d ⊎ (IsDay y m d → ⊥)
day_any y m d = by (le_any 1 y) (le_any y 9999) (le_any 1 m) (le_any m 12) (le_any 1 d) (le_any d (days_of y m))
  where
    by : (1 ≤ y) ⊎ (1 ≤ y → ⊥) → (y ≤ 9999) ⊎ (y ≤ 9999 → ⊥) → (1 ≤ m) ⊎ (1 ≤ m → ⊥) → (m ≤ 12) ⊎ (m ≤ 12 → ⊥) → (1 ≤ d) ⊎ (1 ≤ d → ⊥) → (d ≤ days_of y m) ⊎ (d ≤ days_of y m → ⊥) → IsDay y m d ⊎ (IsDay y m d → ⊥)
    by (inr n) b c e f g = inr (λ h. n h.year_from)
    by (inl a) (inr n) c e f g = inr (λ h. n h.year_to)
    by (inl a) (inl b) (inr n) e f g = inr (λ h. n h.month_from)
    by (inl a) (inl b) (inl c) (inr n) f g = inr (λ h. n h.month_to)
    by (inl a) (inl b) (inl c) (inl e) (inr n) g = inr (λ h. n h.day_from)
    by (inl a) (inl b) (inl c) (inl e) (inl f) (inr n) = inr (λ h. n h.day_to)
    by (inl a) (inl b) (inl c) (inl e) (inl f) (inl g) = inl (record { year_from = a; year_to = b; month_from = c; month_to = e; day_from = f; day_to = g })

-- the number that two digits show
pair_at : List ℕ → ℕ → ℕ
pair_at bytes i = 10 * (get_or bytes i 0 - 48) + (get_or bytes (i + 1) 0 - 48)

-- the year in front of a date's text
year_in : List ℕ → ℕ
year_in bytes = 100 * pair_at bytes 0 + pair_at bytes 2

-- a date's text shows its year, month and day
year_shown : (d : Date) → year_in (date_text d) ≡ d.year
unfolding year_in pair_at
year_shown d = omega arith

month_shown : (d : Date) → pair_at (date_text d) 5 ≡ d.month
unfolding pair_at
month_shown d = omega arith

day_shown : (d : Date) → pair_at (date_text d) 8 ≡ d.day
unfolding pair_at
day_shown d = omega arith

date_any : (bytes : List ℕ) → IsDateText bytes ⊎ (IsDateText bytes → ⊥)
date_any bytes = by (day_any (year_in bytes) (pair_at bytes 5) (pair_at bytes 8))
  where
    shown : IsDateText bytes → IsDay (year_in bytes) (pair_at bytes 5) (pair_at bytes 8)
    shown t = rw t.1 (rw (year_shown t.0, month_shown t.0, day_shown t.0) t.0.valid)

    same : (a : Date) → a.year ≡ year_in bytes → a.month ≡ pair_at bytes 5 → a.day ≡ pair_at bytes 8 → IsDateText bytes → date_text a ≡ bytes
    same a y m d t =
        let year : a.year ≡ t.0.year = y ∙ rw t.1 (year_shown t.0) in
        let month : a.month ≡ t.0.month = m ∙ rw t.1 (month_shown t.0) in
        let day : a.day ≡ t.0.day = d ∙ rw t.1 (day_shown t.0) in
        rw (year, month, day) (sym t.1)

    with : (a : Date) → a.year ≡ year_in bytes → a.month ≡ pair_at bytes 5 → a.day ≡ pair_at bytes 8 → (b : Bool) → bytes_eq (date_text a) bytes ≡ b → IsDateText bytes ⊎ (IsDateText bytes → ⊥)
    with a y m d true e = inl (a, sym ((bytes_eq-Decides (date_text a) bytes).0 e))
    with a y m d false e = inr (λ t. not_from_Decides (bytes_eq (date_text a) bytes) (bytes_eq-Decides (date_text a) bytes) e (same a y m d t))

    by : IsDay (year_in bytes) (pair_at bytes 5) (pair_at bytes 8) ⊎ (IsDay (year_in bytes) (pair_at bytes 5) (pair_at bytes 8) → ⊥) → IsDateText bytes ⊎ (IsDateText bytes → ⊥)
    by (inr n) = inr (λ t. n (shown t))
    by (inl w) =
        let a : Date = record { year = year_in bytes; month = pair_at bytes 5; day = pair_at bytes 8; valid = w } in
        with a refl refl refl (bytes_eq (date_text a) bytes) refl

-- ---- cells and records

-- a cell has a value or is missing, or something is wrong with it
abbrev Judged : Column → List ℕ → Type 0
Judged column cell = ((value : Option Value) × IsCell column cell value) ⊎ ((wrong : RowKind) × IsWrong column cell wrong)

-- the same of an empty cell, and of one with bytes
empty_any : (column : Column) (null : Bool) (k : Kind) → column.null ≡ null → column.kind ≡ k → Judged column []
empty_any column true k n e = inl (None, (n, refl))
empty_any column false kind.Text n e = inl (Some (v.Text []), (IsUtf8-nil, (λ m. true≢false (sym m.0 ∙ n)), rw e refl))
empty_any column false kind.Integer n e = inr (row.Missing, (refl, n, λ t. let x : kind.Integer ≡ kind.Text = sym e ∙ t in absurd (cc)))
empty_any column false kind.Date n e = inr (row.Missing, (refl, n, λ t. let x : kind.Date ≡ kind.Text = sym e ∙ t in absurd (cc)))

not_empty : (b : ℕ) (bs : List ℕ) → b ∷ bs ≡ [] → ⊥
not_empty b bs e = absurd (cc)

some_any : (column : Column) (b : ℕ) (bs : List ℕ) (k : Kind) → IsUtf8 (b ∷ bs) → column.kind ≡ k → Judged column (b ∷ bs)
some_any column b bs kind.Text u e = inl (Some (v.Text (b ∷ bs)), (u, (λ m. not_empty b bs m.1), rw e refl))
some_any column b bs kind.Integer u e = by (integer_of (b ∷ bs)) refl
  where
    by : (o : Option ℤ) → integer_of (b ∷ bs) ≡ o → Judged column (b ∷ bs)
    by (Some n) q = inl (Some (v.Int n), (u, (λ m. not_empty b bs m.1), rw e q))
    by None q = inr (row.BadInt, (u, not_empty b bs, e, q))
some_any column b bs kind.Date u e = by (date_any (b ∷ bs))
  where
    by : IsDateText (b ∷ bs) ⊎ (IsDateText (b ∷ bs) → ⊥) → Judged column (b ∷ bs)
    by (inl t) = inl (Some (v.Date t.0), (u, (λ m. not_empty b bs m.1), rw e t.1))
    by (inr n) = inr (row.BadDate, (u, not_empty b bs, e, n))

cell_any : (column : Column) (cell : List ℕ) → Judged column cell
cell_any column [] = empty_any column column.null column.kind refl refl
cell_any column (b ∷ bs) = by (is_utf8 (b ∷ bs)) refl
  where
    by : (t : Bool) → is_utf8 (b ∷ bs) ≡ t → Judged column (b ∷ bs)
    by true e = some_any column b bs column.kind (IsUtf8-from_is_utf8 (b ∷ bs) e) refl
    by false e = inr (row.NotUtf8, λ u. true≢false (sym (is_utf8-from_IsUtf8 (b ∷ bs) u) ∙ e))

-- so with the cells of a record of the right width
abbrev CellsJudged : ℕ → List Column → Record → Type 0
CellsJudged from columns fields = ((cells : Row) × IsRow columns fields cells) ⊎ ((column : ℕ) × (wrong : RowKind) × IsWrongAt from columns fields column wrong)

cells_any : (from : ℕ) (columns : List Column) (fields : Record) → length fields ≡ length columns → CellsJudged from columns fields
cells_any from [] [] e = inl ([], tt)
cells_any from [] (cell ∷ fields) e = absurd (omega arith)
cells_any from (first ∷ columns) [] e = absurd (omega arith)
cells_any from (first ∷ columns) (cell ∷ fields) e = by (cell_any first cell) (cells_any (from + 1) columns fields (omega arith))
  where
    by : Judged first cell → CellsJudged (from + 1) columns fields → CellsJudged from (first ∷ columns) (cell ∷ fields)
    by (inr w) rest = inr (from, w.0, inl (refl, w.1))
    by (inl c) (inl r) = inl (c.0 ∷ r.0, (c.1, r.1))
    by (inl c) (inr w) = inr (w.0, w.1, inr (c.0, c.1, w.2))

-- a record is a row, or a breach
abbrev RecordJudged : List Column → ℕ → ℕ → Record → Type 0
RecordJudged columns most number fields = ((cells : Row) × (number ≤ most) × IsRow columns fields cells) ⊎ ((column : ℕ) × (wrong : RowKind) × RecordBreach columns most number fields column wrong)

record_any : (columns : List Column) (most number : ℕ) (fields : Record) → RecordJudged columns most number fields
record_any columns most number fields = by (leb_tells number most) (eqb_tells (length fields) (length columns))
  where
    wide : number ≤ most → length fields ≡ length columns → CellsJudged 1 columns fields → RecordJudged columns most number fields
    wide le w (inl r) = inl (r.0, le, r.1)
    wide le w (inr f) = inr (f.0, f.1, cell_breach columns most number fields f.0 f.1 le w f.2)

    by : ((leb number most ≡ true) × (number ≤ most)) ⊎ ((leb number most ≡ false) × (most < number)) → ((eqb (length fields) (length columns) ≡ true) × (length fields ≡ length columns)) ⊎ ((eqb (length fields) (length columns) ≡ false) × (length fields ≡ length columns → ⊥)) → RecordJudged columns most number fields
    by (inr past) w = inr (0, row.Rows, (past.1, refl))
    by (inl le) (inr w) = inr (min (length fields) (length columns) + 1, row.Width, (le.1, w.1, refl))
    by (inl le) (inl w) = wide le.1 w.1 (cells_any 1 columns fields w.1)

-- ---- files

-- records from this number on are rows, or have a first breach
abbrev RowsJudged : List Column → ℕ → ℕ → List Record → Type 0
RowsJudged columns most number records = ((rows : List Row) × (number + length records ≤ most + 1) × AreRows columns records rows) ⊎ ((breach : RowBreach) × RowsBreach columns most number records breach)

rows_any : (columns : List Column) (most number : ℕ) (records : List Record) → number ≤ most + 1 → RowsJudged columns most number records
rows_any columns most number [] le = inl ([], omega arith, tt)
rows_any columns most number (fields ∷ records) le = by (λ few. rows_any columns most (number + 1) records (omega (arith, few))) (record_any columns most number fields)
  where
    with : (cells : Row) → number ≤ most → IsRow columns fields cells → RowsJudged columns most (number + 1) records → RowsJudged columns most number (fields ∷ records)
    with cells few is (inl r) = inl (cells ∷ r.0, omega (arith, r.1), (is, r.2))
    with cells few is (inr f) = inr (f.0, inr (cells, few, is, f.1))

    by : (number ≤ most → RowsJudged columns most (number + 1) records) → RecordJudged columns most number fields → RowsJudged columns most number (fields ∷ records)
    by rest (inr f) = inr (record { number = number; column = f.0; kind = f.1 }, inl (refl, f.2))
    by rest (inl r) = with r.0 r.1 r.2 (rest r.1)

-- a header is the names, or differs from them
header_any : (from : ℕ) (names cells : Record) → (cells ≡ names) ⊎ ((column : ℕ) × DiffersAt from names cells column)
header_any from [] [] = inl refl
header_any from [] (cell ∷ cells) = inr (from, refl)
header_any from (name ∷ names) [] = inr (from, refl)
header_any from (name ∷ names) (cell ∷ cells) = by (bytes_eq cell name) refl (header_any (from + 1) names cells)
  where
    by : (b : Bool) → bytes_eq cell name ≡ b → (cells ≡ names) ⊎ ((column : ℕ) × DiffersAt (from + 1) names cells column) → (cell ∷ cells ≡ name ∷ names) ⊎ ((column : ℕ) × DiffersAt from (name ∷ names) (cell ∷ cells) column)
    by false e rest = inr (from, inl (not_from_Decides (bytes_eq cell name) (bytes_eq-Decides cell name) e, refl))
    by true e (inl s) = let is : cell ≡ name = (bytes_eq-Decides cell name).0 e in inl cc
    by true e (inr d) = inr (d.0, inr ((bytes_eq-Decides cell name).0 e, d.1))

-- a file has rows or a breach
pub file_any : (columns : List Column) (most : ℕ) (records : List Record) → ((rows : List Row) × HasRows columns most records rows) ⊎ ((breach : RowBreach) × HasBreach columns most records breach)
file_any columns most [] = inr (record { number = 0; column = 1; kind = row.Header }, refl)
file_any columns most (header ∷ records) = by (header_any 1 (header_of columns) header) (rows_any columns most 1 records (omega arith))
  where
    by : (header ≡ header_of columns) ⊎ ((column : ℕ) × DiffersAt 1 (header_of columns) header column) → RowsJudged columns most 1 records → ((rows : List Row) × HasRows columns most (header ∷ records) rows) ⊎ ((breach : RowBreach) × HasBreach columns most (header ∷ records) breach)
    by (inr d) rest = inr (record { number = 0; column = d.0; kind = row.Header }, inl (refl, refl, d.1))
    by (inl e) (inl r) = inl (r.0, (e, omega (arith, r.1), r.2))
    by (inl e) (inr f) = inr (f.0, inr (e, f.1))
