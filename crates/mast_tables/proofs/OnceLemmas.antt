-- A file has one list of rows, or one breach.
use Rattle.std.proofs.Common.{◌≡◌, ◌⊎◌, inl, inr, ℕ, ℤ, ◌+◌, ◌<◌, ◌≤◌, Bool, true, false, List, [], ◌∷◌, length, refl, ap, sym, subst, ◌∙◌, arith, IsUtf8}
use Rattle.std.specs.Prelude.{Option, Some, None, min}
use Rattle.std.specs.Str.{is_utf8}
use Rattle.std.proofs.lemmas.Bool.{false_from_ne_true}
use Rattle.std.proofs.lemmas.Str.{IsUtf8-nil, IsUtf8-from_is_utf8, is_utf8-from_IsUtf8}
use Rattle.mast_terms.proofs.TermTextLemmas.{term_text_injective}
use Rattle.mast_terms.specs.declared.date.Date.{Date}
use Rattle.mast_terms.specs.declared.term.Term.TheVariants as t
use Rattle.mast_terms.specs.declared.value.Kind.{Kind}
use Rattle.mast_terms.specs.declared.value.Kind.TheVariants as kind
use Rattle.mast_terms.specs.declared.value.Value.{Value}
use Rattle.mast_terms.specs.declared.value.Value.TheVariants as v
use Rattle.mast_terms.specs.IntegerCell.{integer_of}
use Rattle.mast_terms.specs.Printed.{date_text}
use Rattle.mast_tables.specs.declared.declaration.Column.{Column}
use Rattle.mast_tables.specs.declared.declaration.RowBreach.{RowBreach}
use Rattle.mast_tables.specs.declared.declaration.RowKind.{RowKind}
use Rattle.mast_tables.specs.declared.declaration.RowKind.TheVariants as row
use Rattle.mast_tables.specs.Breach.{HasBreach, HasRows, AreRows, DiffersAt, IsRow, IsWrongAt, RecordBreach, RowsBreach, header_of}
use Rattle.mast_tables.specs.Records.{Record}
use Rattle.mast_tables.specs.Rows.{Row}
use Rattle.mast_tables.specs.Typed.{Gives, IsCell, IsWrong}
use Rattle.mast_tables.proofs.BreachLemmas.{cell_fits, names_same, record_fits}

-- ---- rows

-- two dates with one text are one
date_once : (a b : Date) → date_text a ≡ date_text b → a ≡ b
date_once a b e =
    let one : t.Value (v.Date a) ≡ t.Value (v.Date b) = term_text_injective (t.Value (v.Date a)) (t.Value (v.Date b)) e in cc

-- the value of a cell of each kind
text_value : (cell : List ℕ) (value : Value) → Gives kind.Text cell value → value ≡ v.Text cell
text_value cell (v.Text text) g = ap (λ (k : List ℕ). v.Text k) g
text_value cell (v.Int n) g = absurd g
text_value cell (v.Date d) g = absurd g

integer_value : (cell : List ℕ) (value : Value) → Gives kind.Integer cell value → (n : ℤ) × (value ≡ v.Int n) × (integer_of cell ≡ Some n)
integer_value cell (v.Int n) g = (n, refl, g)
integer_value cell (v.Text text) g = absurd g
integer_value cell (v.Date d) g = absurd g

date_value : (cell : List ℕ) (value : Value) → Gives kind.Date cell value → (d : Date) × (value ≡ v.Date d) × (cell ≡ date_text d)
date_value cell (v.Date d) g = (d, refl, g)
date_value cell (v.Text text) g = absurd g
date_value cell (v.Int n) g = absurd g

-- so a cell has one value, a record one row, and records one list of rows
value_once : (k : Kind) (cell : List ℕ) (a b : Value) → Gives k cell a → Gives k cell b → a ≡ b
value_once kind.Text cell a b g h = text_value cell a g ∙ sym (text_value cell b h)
value_once kind.Integer cell a b g h =
    let x = integer_value cell a g in
    let y = integer_value cell b h in
    let some : Some x.0 ≡ Some y.0 = sym x.2 ∙ y.2 in
    let one : x.0 ≡ y.0 = cc in
    x.1 ∙ ap (λ (n : ℤ). v.Int n) one ∙ sym y.1
value_once kind.Date cell a b g h =
    let x = date_value cell a g in
    let y = date_value cell b h in
    x.1 ∙ ap (λ (d : Date). v.Date d) (date_once x.0 y.0 (sym x.2 ∙ y.2)) ∙ sym y.1

cell_once : (column : Column) (cell : List ℕ) (a b : Option Value) → IsCell column cell a → IsCell column cell b → a ≡ b
cell_once column cell None None g h = refl
cell_once column cell None (Some b) g h = absurd (h.1 g)
cell_once column cell (Some a) None g h = absurd (g.1 h)
cell_once column cell (Some a) (Some b) g h = ap (λ (k : Value). Some k) (value_once column.kind cell a b g.2 h.2)

row_once : (columns : List Column) (fields : Record) (a b : Row) → IsRow columns fields a → IsRow columns fields b → a ≡ b
row_once [] [] [] [] g h = refl
row_once [] [] [] (y ∷ ys) g h = absurd h
row_once [] [] (x ∷ xs) b g h = absurd g
row_once [] (cell ∷ fields) a b g h = absurd g
row_once (first ∷ columns) [] a b g h = absurd g
row_once (first ∷ columns) (cell ∷ fields) [] b g h = absurd g
row_once (first ∷ columns) (cell ∷ fields) (x ∷ xs) [] g h = absurd h
row_once (first ∷ columns) (cell ∷ fields) (x ∷ xs) (y ∷ ys) g h =
    let one : x ≡ y = cell_once first cell x y g.0 h.0 in
    let rest : xs ≡ ys = row_once columns fields xs ys g.1 h.1 in cc

rows_once : (columns : List Column) (records : List Record) (a b : List Row) → AreRows columns records a → AreRows columns records b → a ≡ b
rows_once columns [] [] [] g h = refl
rows_once columns [] [] (y ∷ ys) g h = absurd h
rows_once columns [] (x ∷ xs) b g h = absurd g
rows_once columns (fields ∷ records) [] b g h = absurd g
rows_once columns (fields ∷ records) (x ∷ xs) [] g h = absurd h
rows_once columns (fields ∷ records) (x ∷ xs) (y ∷ ys) g h =
    let one : x ≡ y = row_once columns fields x y g.0 h.0 in
    let rest : xs ≡ ys = rows_once columns records xs ys g.1 h.1 in cc

-- a file has one list of rows
pub file_rows_once : (columns : List Column) (most : ℕ) (records : List Record) (a b : List Row) → HasRows columns most records a → HasRows columns most records b → a ≡ b
file_rows_once columns most [] a b g h = absurd g
file_rows_once columns most (header ∷ records) a b g h = rows_once columns records a b g.2 h.2

-- ---- the breach

-- what is wrong with a cell, if anything is
filled_fault : Kind → RowKind
filled_fault kind.Text = row.BadDate
filled_fault kind.Integer = row.BadInt
filled_fault kind.Date = row.BadDate

text_fault : Kind → List ℕ → RowKind
text_fault k [] = row.Missing
text_fault k (b ∷ bs) = filled_fault k

fault : Kind → List ℕ → Bool → RowKind
fault k cell true = text_fault k cell
fault k cell false = row.NotUtf8

-- what is wrong with a cell is this fault
filled_is : (k kind : Kind) (cell : List ℕ) → (cell ≡ [] → ⊥) → k ≡ kind → filled_fault kind ≡ text_fault k cell
unfolding text_fault
filled_is k kind [] some e = absurd (some refl)
filled_is k kind (b ∷ bs) some e = ap filled_fault (sym e)

good_is : (k : Kind) (cell : List ℕ) → IsUtf8 cell → text_fault k cell ≡ fault k cell (is_utf8 cell)
unfolding fault
good_is k cell u = rw (is_utf8-from_IsUtf8 cell u) refl

bad_is : (k : Kind) (cell : List ℕ) → (IsUtf8 cell → ⊥) → row.NotUtf8 ≡ fault k cell (is_utf8 cell)
unfolding fault
bad_is k cell n = rw (false_from_ne_true (is_utf8 cell) (λ e. n (IsUtf8-from_is_utf8 cell e))) refl

fault_is : (column : Column) (cell : List ℕ) (wrong : RowKind) → IsWrong column cell wrong → wrong ≡ fault column.kind cell (is_utf8 cell)
unfolding filled_fault text_fault
fault_is column cell row.NotUtf8 w = bad_is column.kind cell w
fault_is column cell row.Missing w = rw w.0 (good_is column.kind [] IsUtf8-nil)
fault_is column cell row.BadInt w = filled_is column.kind kind.Integer cell w.1 w.2 ∙ good_is column.kind cell w.0
fault_is column cell row.BadDate w = filled_is column.kind kind.Date cell w.1 w.2 ∙ good_is column.kind cell w.0
fault_is column cell row.Header w = absurd w
fault_is column cell row.Rows w = absurd w
fault_is column cell row.Width w = absurd w

-- one cell of a record is the first wrong one
wrong_once : (from : ℕ) (columns : List Column) (fields : Record) (c d : ℕ) (a b : RowKind) → IsWrongAt from columns fields c a → IsWrongAt from columns fields d b → (c ≡ d) × (a ≡ b)
wrong_once from [] fields c d a b g h = absurd g
wrong_once from (first ∷ columns) [] c d a b g h = absurd g
wrong_once from (first ∷ columns) (cell ∷ fields) c d a b (inl g) (inl h) = (g.0 ∙ sym h.0, fault_is first cell a g.1 ∙ sym (fault_is first cell b h.1))
wrong_once from (first ∷ columns) (cell ∷ fields) c d a b (inl g) (inr h) = absurd (cell_fits first cell h.0 a h.1 g.1)
wrong_once from (first ∷ columns) (cell ∷ fields) c d a b (inr g) (inl h) = absurd (cell_fits first cell g.0 b g.1 h.1)
wrong_once from (first ∷ columns) (cell ∷ fields) c d a b (inr g) (inr h) = wrong_once (from + 1) columns fields c d a b g.2 h.2

-- a record's breach, by what breaks: the number of rows, the width, a cell
abbrev Breaks : List Column → ℕ → ℕ → Record → ℕ → RowKind → Type 0
Breaks columns most number fields column wrong =
    ((most < number) × (column ≡ 0) × (wrong ≡ row.Rows))
    ⊎ (((number ≤ most) × (length fields ≡ length columns → ⊥) × (column ≡ min (length fields) (length columns) + 1) × (wrong ≡ row.Width))
    ⊎ ((number ≤ most) × (length fields ≡ length columns) × IsWrongAt 1 columns fields column wrong))

breaks : (columns : List Column) (most number : ℕ) (fields : Record) (column : ℕ) (wrong : RowKind) → RecordBreach columns most number fields column wrong → Breaks columns most number fields column wrong
breaks columns most number fields column row.Rows b = inl (b.0, b.1, refl)
breaks columns most number fields column row.Width b = inr (inl (b.0, b.1, b.2, refl))
breaks columns most number fields column row.Header b = absurd b
breaks columns most number fields column row.NotUtf8 b = inr (inr b)
breaks columns most number fields column row.Missing b = inr (inr b)
breaks columns most number fields column row.BadInt b = inr (inr b)
breaks columns most number fields column row.BadDate b = inr (inr b)

-- a record has one breach
broken_once : (columns : List Column) (most number : ℕ) (fields : Record) (c d : ℕ) (a b : RowKind) → Breaks columns most number fields c a → Breaks columns most number fields d b → (c ≡ d) × (a ≡ b)
broken_once columns most number fields c d a b (inl g) (inl h) = (g.1 ∙ sym h.1, g.2 ∙ sym h.2)
broken_once columns most number fields c d a b (inl g) (inr (inl h)) = absurd (omega (arith, g.0, h.0))
broken_once columns most number fields c d a b (inl g) (inr (inr h)) = absurd (omega (arith, g.0, h.0))
broken_once columns most number fields c d a b (inr (inl g)) (inl h) = absurd (omega (arith, g.0, h.0))
broken_once columns most number fields c d a b (inr (inr g)) (inl h) = absurd (omega (arith, g.0, h.0))
broken_once columns most number fields c d a b (inr (inl g)) (inr (inl h)) = (g.2 ∙ sym h.2, g.3 ∙ sym h.3)
broken_once columns most number fields c d a b (inr (inl g)) (inr (inr h)) = absurd (g.1 h.1)
broken_once columns most number fields c d a b (inr (inr g)) (inr (inl h)) = absurd (h.1 g.1)
broken_once columns most number fields c d a b (inr (inr g)) (inr (inr h)) = wrong_once 1 columns fields c d a b g.2 h.2

-- a breach is its number, its column and its kind
breach_is : (a b : RowBreach) → a.number ≡ b.number → (a.column ≡ b.column) × (a.kind ≡ b.kind) → a ≡ b
breach_is a b n s = λ i. record { number = n i; column = s.0 i; kind = s.1 i }

-- records have one first breach
rows_breach_once : (columns : List Column) (most number : ℕ) (records : List Record) (a b : RowBreach) → RowsBreach columns most number records a → RowsBreach columns most number records b → a ≡ b
rows_breach_once columns most number [] a b g h = absurd g
rows_breach_once columns most number (fields ∷ records) a b (inl g) (inl h) =
    breach_is a b (g.0 ∙ sym h.0) (broken_once columns most number fields a.column b.column a.kind b.kind (breaks columns most number fields a.column a.kind g.1) (breaks columns most number fields b.column b.kind h.1))
rows_breach_once columns most number (fields ∷ records) a b (inl g) (inr h) = absurd (record_fits columns most number fields h.0 a.column a.kind h.1 h.2 g.1)
rows_breach_once columns most number (fields ∷ records) a b (inr g) (inl h) = absurd (record_fits columns most number fields g.0 b.column b.kind g.1 g.2 h.1)
rows_breach_once columns most number (fields ∷ records) a b (inr g) (inr h) = rows_breach_once columns most (number + 1) records a b g.3 h.3

-- a header differs first at one column, and at none where it is the names
differs_once : (from : ℕ) (names cells : Record) (c d : ℕ) → DiffersAt from names cells c → DiffersAt from names cells d → c ≡ d
differs_once from [] [] c d g h = absurd g
differs_once from [] (cell ∷ cells) c d g h = g ∙ sym h
differs_once from (name ∷ names) [] c d g h = g ∙ sym h
differs_once from (name ∷ names) (cell ∷ cells) c d (inl g) (inl h) = g.1 ∙ sym h.1
differs_once from (name ∷ names) (cell ∷ cells) c d (inl g) (inr h) = absurd (g.0 h.0)
differs_once from (name ∷ names) (cell ∷ cells) c d (inr g) (inl h) = absurd (h.0 g.0)
differs_once from (name ∷ names) (cell ∷ cells) c d (inr g) (inr h) = differs_once (from + 1) names cells c d g.1 h.1

no_differing : (columns : List Column) (header : Record) (column : ℕ) → header ≡ header_of columns → DiffersAt 1 (header_of columns) header column → ⊥
no_differing columns header column e d = names_same 1 (header_of columns) column (subst (λ (k : Record). DiffersAt 1 (header_of columns) k column) e d)

-- a file has one breach
pub file_breach_once : (columns : List Column) (most : ℕ) (records : List Record) (a b : RowBreach) → HasBreach columns most records a → HasBreach columns most records b → a ≡ b
file_breach_once columns most [] a b g h = g ∙ sym h
file_breach_once columns most (header ∷ records) a b (inl g) (inl h) =
    breach_is a b (g.0 ∙ sym h.0) (differs_once 1 (header_of columns) header a.column b.column g.2 h.2, g.1 ∙ sym h.1)
file_breach_once columns most (header ∷ records) a b (inl g) (inr h) = absurd (no_differing columns header a.column h.0 g.2)
file_breach_once columns most (header ∷ records) a b (inr g) (inl h) = absurd (no_differing columns header b.column g.0 h.2)
file_breach_once columns most (header ∷ records) a b (inr g) (inr h) = rows_breach_once columns most 1 records a b g.1 h.1
