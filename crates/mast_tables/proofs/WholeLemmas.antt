-- Rows without a missing cell, one after another.
use Rattle.std.proofs.Common.{◌≡◌, ℕ, zero, suc, ◌+◌, ◌*◌, ◌<◌, ◌≤◌, List, [], ◌∷◌, ◌++◌, length, get_or, take, drop, refl, sym, ap, subst, ◌∙◌, arith}
use Rattle.std.specs.Prelude.{Some}
use Rattle.std.specs.List.{AllByRecursion}
use Rattle.std.proofs.Math.Nat.{suc-mul, zero-mul, mul-le-mul_right}
use Rattle.std.proofs.lemmas.List.{append_assoc, append-nil, map-append, take_more, take_all, take-append-le, drop-append-le, drop_all, length-map, length-append, length-take}
use Rattle.std.proofs.lemmas.Slice.Zip.{AllZip-long}
use Rattle.mast_terms.specs.declared.value.Value.{Value}
use Rattle.mast_tables.specs.declared.cells.Cells.{Cells}
use Rattle.mast_tables.specs.declared.declaration.Column.{Column}
use Rattle.mast_tables.specs.inside.Cells.{AreCells, cells_in, width_in, rows_of}
use Rattle.mast_tables.specs.inside.Reading.{Adds}
use Rattle.mast_tables.specs.Rows.{Row, cells_of}
use Rattle.mast_tables.specs.Limits.{most_cells}
use Rattle.mast_tables.specs.Whole.{FitsColumns, MayHold, value_kind, whole_row, whole_rows}

-- so many rows of one width are put in
pub record Filled (columns : List Column) (rows : List (List Value)) (c : Cells) : Type 0 where
  pub cells : AreCells c
  pub wide : width_in c ≡ length columns
  pub filled : cells_in c ≡ cells_of (whole_rows rows)

-- a row behind the others
cells_push : (rows : List Row) (row : Row) → cells_of (rows ++ row ∷ []) ≡ cells_of rows ++ row
cells_push [] row = append-nil row
cells_push (first ∷ rows) row = ap (λ (k : Row). first ++ k) (cells_push rows row) ∙ sym (append_assoc first (cells_of rows) row)

-- one row more
pub filled_more : (columns : List Column) (rows : List (List Value)) (i : ℕ) (row : List Value) (mid new : Cells) → i < length rows → row ≡ get_or rows i row → Filled columns (take i rows) mid → Adds mid new (whole_row row) → Filled columns (take (i + 1) rows) new
filled_more columns rows i row mid new lt is h adds =
    let next : take (i + 1) rows ≡ take i rows ++ row ∷ [] = take_more rows i row lt ∙ ap (λ (x : List Value). take i rows ++ x ∷ []) (sym is) in
    let whole : whole_rows (take (i + 1) rows) ≡ whole_rows (take i rows) ++ whole_row row ∷ [] = ap whole_rows next ∙ map-append whole_row (take i rows) (row ∷ []) in
    record {
      cells = adds.cells;
      wide = adds.wide ∙ h.wide;
      filled = adds.added ∙ ap (λ (k : Row). k ++ whole_row row) h.filled ∙ sym (cells_push (whole_rows (take i rows)) (whole_row row)) ∙ ap cells_of (sym whole);
    }

-- all rows are put in
pub filled_all : (columns : List Column) (rows : List (List Value)) (i : ℕ) (c : Cells) → length rows ≤ i → Filled columns (take i rows) c → Filled columns rows c
filled_all columns rows i c le h = subst (λ (k : List (List Value)). Filled columns k c) (take_all i rows le) h

-- each row has the width of the columns
row_long : (columns : List Column) (row : List Value) → FitsColumns columns row → length (whole_row row) ≡ length columns
row_long columns row h = length-map row (λ (x : Value). Some x) ∙ AllZip-long (λ (column : Column) (value : Value). value_kind value ≡ column.kind) columns row h

-- so the cells are as many as rows and columns say
filled_long : (columns : List Column) (rows : List (List Value)) → AllByRecursion (FitsColumns columns) rows → length (cells_of (whole_rows rows)) ≡ length rows * length columns
filled_long columns [] h = sym (zero-mul (length columns))
filled_long columns (row ∷ rows) h =
    let rest : length (cells_of (whole_rows rows)) ≡ length rows * length columns = filled_long columns rows h.1 in
    omega (arith, length-append (whole_row row) (cells_of (whole_rows rows)), row_long columns row h.0, rest, suc-mul (length rows) (length columns))

-- and the rows that the cells make are the given ones
filled_rows : (columns : List Column) (rows : List (List Value)) → AllByRecursion (FitsColumns columns) rows → rows_of (length columns) (length rows) (cells_of (whole_rows rows)) ≡ whole_rows rows
filled_rows columns [] h = refl
filled_rows columns (row ∷ rows) h =
    let long : length (whole_row row) ≡ length columns = row_long columns row h.0 in
    let front : take (length columns) (whole_row row ++ cells_of (whole_rows rows)) ≡ whole_row row = take-append-le (length columns) (whole_row row) (cells_of (whole_rows rows)) (omega (arith, long)) ∙ take_all (length columns) (whole_row row) (omega (arith, long)) in
    let back : drop (length columns) (whole_row row ++ cells_of (whole_rows rows)) ≡ cells_of (whole_rows rows) = drop-append-le (length columns) (whole_row row) (cells_of (whole_rows rows)) (omega (arith, long)) ∙ ap (λ (k : Row). k ++ cells_of (whole_rows rows)) (drop_all (length columns) (whole_row row) (omega (arith, long))) in
    ap (λ (k : Row). k ∷ rows_of (length columns) (length rows) (drop (length columns) (whole_row row ++ cells_of (whole_rows rows)))) front
    ∙ ap (λ (k : Row). whole_row row ∷ rows_of (length columns) (length rows) k) back
    ∙ ap (λ (k : List Row). whole_row row ∷ k) (filled_rows columns rows h.1)

module _ (columns : List Column) (rows : List (List Value)) (c : Cells) (may : MayHold columns rows) (h : Filled columns rows c) where
  pub filled_size : length (cells_in c) ≡ length rows * width_in c
  filled_size = ap length h.filled ∙ filled_long columns rows may.fit ∙ ap (λ (w : ℕ). length rows * w) (sym h.wide)

  pub filled_view : rows_of (width_in c) (length rows) (cells_in c) ≡ whole_rows rows
  filled_view = rw (h.wide, h.filled) (filled_rows columns rows may.fit)

-- one more row has room
pub filled_room : (columns : List Column) (rows : List (List Value)) (i : ℕ) (row : List Value) (c : Cells) → MayHold columns rows → i < length rows → row ≡ get_or rows i row
    → Filled columns (take i rows) c → length (cells_in c) + length row ≤ most_cells
filled_room columns rows i row c may lt is h =
    let next : take (i + 1) rows ≡ take i rows ++ row ∷ [] = take_more rows i row lt ∙ ap (λ (x : List Value). take i rows ++ x ∷ []) (sym is) in
    let fit : AllByRecursion (FitsColumns columns) (take (i + 1) rows) = fit_front (i + 1) rows may.fit in
    let some : length (cells_of (whole_rows (take (i + 1) rows))) ≡ length (take (i + 1) rows) * length columns = filled_long columns (take (i + 1) rows) fit in
    let less : length (take (i + 1) rows) * length columns ≤ length rows * length columns = mul-le-mul_right (length columns) (omega (arith, length-take (i + 1) rows)) in
    let whole : cells_of (whole_rows (take (i + 1) rows)) ≡ cells_in c ++ whole_row row =
    ap (λ (k : List (List Value)). cells_of (whole_rows k)) next ∙ ap cells_of (map-append whole_row (take i rows) (row ∷ [])) ∙ cells_push (whole_rows (take i rows)) (whole_row row) ∙ ap (λ (k : Row). k ++ whole_row row) (sym h.filled) in
    omega (arith, ap length whole, length-append (cells_in c) (whole_row row), length-map row (λ (x : Value). Some x), some, less, may.few)
  where
    fit_front : (n : ℕ) (all : List (List Value)) → AllByRecursion (FitsColumns columns) all → AllByRecursion (FitsColumns columns) (take n all)
    fit_front zero all f = tt
    fit_front (suc n) [] f = tt
    fit_front (suc n) (first ∷ rest) f = (f.0, fit_front n rest f.1)
