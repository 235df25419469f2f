-- Rows of one width, and their cells one after another.
use Rattle.std.proofs.Common.{◌≡◌, ℕ, zero, suc, ◌+◌, ◌-◌, ◌*◌, ◌<◌, ◌≤◌, List, [], ◌∷◌, ◌++◌, length, get_or, take, drop, refl, sym, ap, subst, ◌∙◌, add-one, arith}
use Rattle.std.specs.Prelude.{Option, None, option_and_then}
use Rattle.std.proofs.lemmas.List.{drop-drop, take-append-drop, get_or-take, get_or-drop, length-take, length-drop, nil_from_length, take_all, take-append-le, drop-append-le}
use Rattle.std.proofs.Math.Nat.{suc-mul, zero-mul, mul-le-mul_right}
use Rattle.mast_terms.specs.declared.value.Value.{Value}
use Rattle.mast_tables.specs.Rows.{Row, cells_of, IsPlace, cell_at, number_at}
use Rattle.mast_tables.specs.inside.Cells.{rows_of}
use Rattle.mast_tables.specs.Values.{number_among}

pub length_rows : (w n : ℕ) (cells : List (Option Value)) → length (rows_of w n cells) ≡ n
length_rows w zero cells = refl
length_rows w (suc n) cells = let rest : length (rows_of w n (drop w cells)) ≡ n = length_rows w n (drop w cells) in omega arith

-- the cells of the rows that cells make are these cells
pub cells_back : (w n : ℕ) (cells : List (Option Value)) → length cells ≡ n * w → cells_of (rows_of w n cells) ≡ cells
cells_back w zero cells h = sym (nil_from_length cells (h ∙ zero-mul w))
cells_back w (suc n) cells h =
    let size : length (drop w cells) ≡ n * w = omega (arith, length-drop w cells, h, suc-mul n w) in
    ap (λ (k : List (Option Value)). take w cells ++ k) (cells_back w n (drop w cells) size) ∙ take-append-drop w cells

row_at : (w n : ℕ) (cells : List (Option Value)) (i : ℕ) → i < n → get_or (rows_of w n cells) i [] ≡ take w (drop (i * w) cells)
row_at w zero cells i lt = absurd (omega arith)
row_at w (suc n) cells zero lt = ap (λ (k : ℕ). take w (drop k cells)) (sym (zero-mul w))
row_at w (suc n) cells (suc i) lt =
    row_at w n (drop w cells) i (omega arith) ∙ ap (take w) (drop-drop (i * w) w cells) ∙ ap (λ (k : ℕ). take w (drop k cells)) (omega (arith, suc-mul i w))

column_within : (w n : ℕ) (cells : List (Option Value)) (row column : ℕ) → IsPlace (rows_of w n cells) row column → column ≤ w
column_within w n cells row column p =
    let lt : row - 1 < n = omega (arith, p.row_from, p.row_to, length_rows w n cells) in
    omega (arith, p.column_to, ap length (row_at w n cells (row - 1) lt), length-take w (drop ((row - 1) * w) cells))

-- a place of the rows is in a whole row of the cells
row_within : (w n : ℕ) (cells : List (Option Value)) (row column : ℕ) → length cells ≡ n * w → IsPlace (rows_of w n cells) row column → (row - 1 + 1) * w ≤ length cells
row_within w n cells row column size p =
    let le : row - 1 + 1 ≤ n = omega (arith, p.row_from, p.row_to, length_rows w n cells) in
    omega (arith, size, mul-le-mul_right w le)

-- and the cell is the one there
pub cell_there : (w n : ℕ) (cells : List (Option Value)) (row column : ℕ) → IsPlace (rows_of w n cells) row column → get_or cells ((row - 1) * w + (column - 1)) None ≡ cell_at (rows_of w n cells) row column
cell_there w n cells row column p =
    let lt : row - 1 < n = omega (arith, p.row_from, p.row_to, length_rows w n cells) in
    let le : column - 1 < w = omega (arith, p.column_from, column_within w n cells row column p) in
    sym (ap (λ (k : Row). get_or k (column - 1) None) (row_at w n cells (row - 1) lt) ∙ get_or-take w (drop ((row - 1) * w) cells) (column - 1) None le ∙ get_or-drop ((row - 1) * w) cells (column - 1) None)

-- The same of a table, whose rows are those that its cells make.
module _ (w n : ℕ) (cells : List (Option Value)) (rows : List Row) (size : length cells ≡ n * w) (view : rows_of w n cells ≡ rows) where
  pub view_rows : n ≡ length rows
  view_rows = sym (length_rows w n cells) ∙ ap length view

  pub view_cells : cells_of rows ≡ cells
  view_cells = ap cells_of (sym view) ∙ cells_back w n cells size

  module _ (row column : ℕ) (p : IsPlace rows row column) where
    own : IsPlace (rows_of w n cells) row column
    own = subst (λ (k : List Row). IsPlace k row column) (sym view) p

    pub view_row : (row - 1 + 1) * w ≤ length cells
    view_row = row_within w n cells row column size own

    pub view_column : column - 1 < w
    view_column = omega (arith, own.column_from, column_within w n cells row column own)

    pub view_cell : get_or cells ((row - 1) * w + (column - 1)) None ≡ cell_at rows row column
    view_cell = cell_there w n cells row column own ∙ ap (λ (k : List Row). cell_at k row column) view

    pub view_number : option_and_then (number_among cells) (get_or cells ((row - 1) * w + (column - 1)) None) ≡ number_at rows row column
    view_number = ap (option_and_then (number_among cells)) view_cell ∙ ap (λ (k : List (Option Value)). option_and_then (number_among k) (cell_at rows row column)) (sym view_cells)

-- one more row
pub rows_push : (w n : ℕ) (cells row : List (Option Value)) → length cells ≡ n * w → length row ≡ w → rows_of w (n + 1) (cells ++ row) ≡ rows_of w n cells ++ row ∷ []
rows_push w n cells row size long = ap (λ (k : ℕ). rows_of w k (cells ++ row)) (add-one n) ∙ by n cells size
  where
    last : (n : ℕ) (cells : List (Option Value)) → cells ≡ [] → rows_of w (suc zero) (cells ++ row) ≡ row ∷ []
    last n cells e = rw (e, take_all w row (omega (arith, long))) refl

    by : (n : ℕ) (cells : List (Option Value)) → length cells ≡ n * w → rows_of w (suc n) (cells ++ row) ≡ rows_of w n cells ++ row ∷ []
    by zero cells h = last zero cells (nil_from_length cells (h ∙ zero-mul w))
    by (suc n) cells h =
        let le : w ≤ length cells = omega (arith, h, suc-mul n w) in
        let size : length (drop w cells) ≡ n * w = omega (arith, length-drop w cells, h, suc-mul n w) in
        let head : take w (cells ++ row) ≡ take w cells = take-append-le w cells row le in
        let tail : drop w (cells ++ row) ≡ drop w cells ++ row = drop-append-le w cells row le in
        let rest : rows_of w (suc n) (drop w cells ++ row) ≡ rows_of w n (drop w cells) ++ row ∷ [] = by n (drop w cells) size in
        ap (λ (k : Row). k ∷ rows_of w (suc n) (drop w (cells ++ row))) head ∙ ap (λ (k : List (Option Value)). take w cells ∷ rows_of w (suc n) k) tail ∙ ap (λ (k : List Row). take w cells ∷ k) rest
