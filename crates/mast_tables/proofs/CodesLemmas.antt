-- Columns of codes, seen row by row.
use Rattle.std.proofs.Common.{◌≡◌, ◌⊎◌, inl, inr, ℕ, zero, suc, ◌+◌, ◌*◌, ◌<◌, ◌≤◌, leb, eqb, true, false, List, [], ◌∷◌, ◌++◌, map, length, get_or, take, set, refl, ap, sym, ◌∙◌, subst, append_assoc, append-nil, add-one, arith}
use Rattle.std.proofs.Math.Nat.{suc-mul, zero-mul, mul_comm, lt_of_mul-lt-mul_right}
use Rattle.std.proofs.Math.Seq.{map-set_same, get_or-append_seam}
use Rattle.std.proofs.lemmas.Bool.Decides.{leb_tells, eqb_tells}
use Rattle.std.proofs.lemmas.List.{map-append, map-set, get_or-map, get_or_append_left, get_or-append-add, get_or-set_same, get_or-set_other, length-append, length-map, length-set, length-take, length_push, take_all, take_more_set}
use Rattle.std.proofs.lemmas.Nat.{mul-add-lt}
use Rattle.std.specs.List.{AllByRecursion, AllZip}
use Rattle.mast_tables.specs.inside.Codes.{InRows, row_codes, rows_codes, whole, in_rows, AreColumns}

-- ---- reading

length_rows : (n : ℕ) (columns : List (List ℕ)) → length (rows_codes n columns) ≡ n * length columns
length_rows zero columns = sym (zero-mul (length columns))
length_rows (suc n) columns =
    let rest : length (rows_codes n columns) ≡ n * length columns = length_rows n columns in
    let one : length (row_codes n columns) ≡ length columns = length-map columns (λ (c : List ℕ). get_or c n 0) in
    length-append (rows_codes n columns) (row_codes n columns) ∙ omega (arith, rest, one, suc-mul n (length columns))

-- a code of a whole row
rows_at : (n : ℕ) (columns : List (List ℕ)) (row k : ℕ) → row < n → k < length columns → get_or (rows_codes n columns) (row * length columns + k) 0 ≡ get_or (get_or columns k []) row 0
rows_at zero columns row k lt le = absurd (omega arith)
rows_at (suc n) columns row k lt le = by (eqb_tells row n) (λ r. rows_at n columns row k r le)
  where
    w : ℕ
    w = length columns

    by : ((eqb row n ≡ true) × (row ≡ n)) ⊎ ((eqb row n ≡ false) × (row ≡ n → ⊥)) → (row < n → get_or (rows_codes n columns) (row * length columns + k) 0 ≡ get_or (get_or columns k []) row 0) → get_or (rows_codes (suc n) columns) (row * length columns + k) 0 ≡ get_or (get_or columns k []) row 0
    by (inl e) rest =
        let at : row * length columns + k ≡ length (rows_codes n columns) + k = rw (e.1, length_rows n columns) refl in
        ap (λ (i : ℕ). get_or (rows_codes n columns ++ row_codes n columns) i 0) at ∙ get_or-append-add (rows_codes n columns) (row_codes n columns) k 0
        ∙ get_or-map (λ (c : List ℕ). get_or c n 0) columns k [] 0 le ∙ ap (λ (i : ℕ). get_or (get_or columns k []) i 0) (sym e.1)
    by (inr e) rest =
        let before : row < n = omega (arith, e.1) in
        let inside : row * length columns + k < length (rows_codes n columns) = omega (arith, length_rows n columns, mul-add-lt row (length columns) k n before le, mul_comm n (length columns)) in
        get_or_append_left (rows_codes n columns) (row_codes n columns) 0 (row * length columns + k) inside ∙ rest before

length_in : (columns : List (List ℕ)) (next : ℕ) → next < length columns → length (in_rows columns next) ≡ whole columns next * length columns + next
length_in columns next lt =
    let rows : length (rows_codes (whole columns next) columns) ≡ whole columns next * length columns = length_rows (whole columns next) columns in
    let begun : length (row_codes (whole columns next) (take next columns)) ≡ length (take next columns) = length-map (take next columns) (λ (c : List ℕ). get_or c (whole columns next) 0) in
    let long : length (take next columns) ≡ next = omega (arith, length-take next columns) in
    length-append (rows_codes (whole columns next) columns) (row_codes (whole columns next) (take next columns)) ∙ omega (arith, rows, begun, long)

module _ (columns : List (List ℕ)) (next row k : ℕ) (h : AreColumns columns next) (inside : (row + 1) * length columns ≤ length (in_rows columns next)) (le : k < length columns) where
  is_whole : row < whole columns next
  is_whole =
      let turn : next < length columns = h.turn (omega arith) in
      let bound : (row + 1) * length columns < (whole columns next + 1) * length columns = omega (arith, length_in columns next turn, suc-mul (whole columns next) (length columns), inside) in
      omega (arith, lt_of_mul-lt-mul_right (length columns) bound)

  -- the column has a code there
  pub code_within : row < length (get_or columns k [])
  code_within = by (leb_tells next k)
    where
      by : ((leb next k ≡ true) × (next ≤ k)) ⊎ ((leb next k ≡ false) × (k < next)) → row < length (get_or columns k [])
      by (inl e) = omega (arith, is_whole, h.waiting k e.1 le)
      by (inr e) = omega (arith, is_whole, h.begun k e.1 le)

  -- and it is the one of the row
  pub code_there : get_or (get_or columns k []) row 0 ≡ get_or (in_rows columns next) (row * length columns + k) 0
  code_there =
      let lt : row * length columns + k < length (rows_codes (whole columns next) columns) = omega (arith, length_rows (whole columns next) columns, mul-add-lt row (length columns) k (whole columns next) is_whole le, mul_comm (whole columns next) (length columns)) in
      sym (get_or_append_left (rows_codes (whole columns next) columns) (row_codes (whole columns next) (take next columns)) 0 (row * length columns + k) lt ∙ rows_at (whole columns next) columns row k is_whole le)

-- ---- pushing

-- a code behind a column leaves the rows before
row_kept : (r : ℕ) (columns : List (List ℕ)) (i m : ℕ) → r < length (get_or columns i []) → row_codes r (set columns i (get_or columns i [] ++ m ∷ [])) ≡ row_codes r columns
row_kept r columns i m lt = map-set_same (λ (c : List ℕ). get_or c r 0) columns i (get_or columns i [] ++ m ∷ []) [] (get_or_append_left (get_or columns i []) (m ∷ []) 0 r lt)

rows_kept : (n : ℕ) (columns : List (List ℕ)) (i m : ℕ) → n ≤ length (get_or columns i []) → rows_codes n (set columns i (get_or columns i [] ++ m ∷ [])) ≡ rows_codes n columns
rows_kept zero columns i m le = refl
rows_kept (suc n) columns i m le =
    let rest : rows_codes n (set columns i (get_or columns i [] ++ m ∷ [])) ≡ rows_codes n columns = rows_kept n columns i m (omega arith) in
    let one : row_codes n (set columns i (get_or columns i [] ++ m ∷ [])) ≡ row_codes n columns = row_kept n columns i m (omega arith) in cc

module _ (columns : List (List ℕ)) (next m : ℕ) (h : AreColumns columns next) (lt : next < length columns) where
  abbrev column : List ℕ
  column = get_or columns next []

  abbrev pushed : List (List ℕ)
  pushed = set columns next (column ++ m ∷ [])

  long_here : (k : ℕ) → k ≡ next → length (get_or pushed k []) ≡ whole columns next + 1
  long_here k e =
      let there : get_or pushed k [] ≡ column ++ m ∷ [] = rw e (get_or-set_same columns next (column ++ m ∷ []) [] lt) in
      ap length there ∙ length_push column m

  long_other : (k : ℕ) → (k ≡ next → ⊥) → length (get_or pushed k []) ≡ length (get_or columns k [])
  long_other k e = ap length (get_or-set_other columns next k (column ++ m ∷ []) [] e)

  -- the rows, and the row that is begun with one code more
  more : rows_codes (whole columns next) pushed ++ row_codes (whole columns next) (take (next + 1) pushed) ≡ in_rows columns next ++ m ∷ []
  more =
      let rows : rows_codes (whole columns next) pushed ≡ rows_codes (whole columns next) columns = rows_kept (whole columns next) columns next m (omega arith) in
      let front : take (next + 1) pushed ≡ take next columns ++ (column ++ m ∷ []) ∷ [] = take_more_set columns next (column ++ m ∷ []) lt in
      let last : get_or (column ++ m ∷ []) (whole columns next) 0 ≡ m = get_or-append_seam column m [] 0 in
      let begun : row_codes (whole columns next) (take next columns ++ (column ++ m ∷ []) ∷ []) ≡ row_codes (whole columns next) (take next columns) ++ m ∷ [] =
      map-append (λ (c : List ℕ). get_or c (whole columns next) 0) (take next columns) ((column ++ m ∷ []) ∷ []) ∙ ap (λ (x : ℕ). row_codes (whole columns next) (take next columns) ++ x ∷ []) last in
      let whole_rows = rows_codes (whole columns next) columns in
      let begun_row = row_codes (whole columns next) (take next columns) in
      rw (rows, front, begun) (sym (append_assoc whole_rows begun_row (m ∷ [])))

  -- the next column has its turn
  next_whole : next + 1 < length columns → whole pushed (next + 1) ≡ whole columns next
  next_whole le = long_other (next + 1) (λ e. omega (arith, e)) ∙ h.waiting (next + 1) (omega arith) le

  pub push_view : next + 1 < length columns → in_rows pushed (next + 1) ≡ in_rows columns next ++ m ∷ []
  push_view le = rw (next_whole le) more

  pub push_columns : next + 1 < length columns → AreColumns pushed (next + 1)
  push_columns le = record {
    turn = λ some. omega (arith, length-set columns next (column ++ m ∷ []));
    begun = λ k before inside. rw (next_whole le) (started k before (omega (arith, length-set columns next (column ++ m ∷ []), inside)));
    waiting = λ k after inside. rw (next_whole le) (long_other k (λ e. omega (arith, e, after)) ∙ h.waiting k (omega arith) (omega (arith, length-set columns next (column ++ m ∷ []), inside)));
  }
    where
      started : (k : ℕ) → k < next + 1 → k < length columns → length (get_or pushed k []) ≡ whole columns next + 1
      started k before inside = by (eqb_tells k next)
        where
          by : ((eqb k next ≡ true) × (k ≡ next)) ⊎ ((eqb k next ≡ false) × (k ≡ next → ⊥)) → length (get_or pushed k []) ≡ whole columns next + 1
          by (inl e) = long_here k e.1
          by (inr e) = long_other k e.1 ∙ h.begun k (omega (arith, e.1)) inside

  -- the last column ends the row, and the first has its turn
  all_long : next + 1 ≡ length columns → (k : ℕ) → k < length columns → length (get_or pushed k []) ≡ whole columns next + 1
  all_long last k inside = by (eqb_tells k next)
    where
      by : ((eqb k next ≡ true) × (k ≡ next)) ⊎ ((eqb k next ≡ false) × (k ≡ next → ⊥)) → length (get_or pushed k []) ≡ whole columns next + 1
      by (inl e) = long_here k e.1
      by (inr e) = long_other k e.1 ∙ h.begun k (omega (arith, e.1)) inside

  pub end_view : next + 1 ≡ length columns → in_rows pushed 0 ≡ in_rows columns next ++ m ∷ []
  end_view last =
      let up : whole pushed 0 ≡ suc (whole columns next) = all_long last 0 (omega arith) ∙ add-one (whole columns next) in
      let same : take (next + 1) pushed ≡ pushed = take_all (next + 1) pushed (omega (arith, length-set columns next (column ++ m ∷ []))) in
      let row : rows_codes (whole columns next) pushed ++ row_codes (whole columns next) pushed ≡ in_rows columns next ++ m ∷ [] = subst (λ (cs : List (List ℕ)). rows_codes (whole columns next) pushed ++ row_codes (whole columns next) cs ≡ in_rows columns next ++ m ∷ []) same more in
      append-nil (rows_codes (whole pushed 0) pushed) ∙ ap (λ (n : ℕ). rows_codes n pushed) up ∙ row

  pub end_columns : next + 1 ≡ length columns → AreColumns pushed 0
  end_columns last = record {
    turn = λ some. some;
    begun = λ k before inside. absurd (omega (arith, before));
    waiting = λ k after inside. all_long last k (omega (arith, length-set columns next (column ++ m ∷ []), inside)) ∙ sym (all_long last 0 (omega arith));
  }

-- ---- columns that are held in something

module _ {V : Type 0} (items : V → List ℕ) (cs : List V) (k : ℕ) (v : V) (lt : k < length cs) (is : v ≡ get_or cs k v) where
  pub column_at : get_or (map items cs) k [] ≡ items v
  column_at = get_or-map items cs k v [] lt ∙ ap items (sym is)

  pub pushed_at : (w : V) (m : ℕ) → items w ≡ items v ++ m ∷ [] → map items (set cs k w) ≡ set (map items cs) k (get_or (map items cs) k [] ++ m ∷ [])
  pushed_at w m e = map-set items cs k w ∙ ap (λ (x : List ℕ). set (map items cs) k x) (e ∙ ap (λ (x : List ℕ). x ++ m ∷ []) (sym column_at))

  pub same_at : (w : V) → items w ≡ items v → map items (set cs k w) ≡ map items cs
  same_at w e = map-set_same items cs k w v (e ∙ ap items is)

-- ---- no code yet

module _ {V : Type 0} (items : V → List ℕ) where
  empty_at : (cs : List V) (k : ℕ) → AllByRecursion (λ (c : V). items c ≡ []) cs → get_or (map items cs) k [] ≡ []
  empty_at [] k h = refl
  empty_at (c ∷ cs) zero h = h.0
  empty_at (c ∷ cs) (suc k) h = empty_at cs k h.1

  module _ (cs : List V) (h : AllByRecursion (λ (c : V). items c ≡ []) cs) where
    none_whole : whole (map items cs) 0 ≡ 0
    none_whole = ap length (empty_at cs 0 h)

    pub none_view : in_rows (map items cs) 0 ≡ []
    none_view = rw none_whole refl

    pub none_columns : AreColumns (map items cs) 0
    none_columns = record {
      turn = λ some. some;
      begun = λ k before inside. absurd (omega (arith, before));
      waiting = λ k after inside. ap length (empty_at cs k h) ∙ sym none_whole;
    }

-- ---- copies of columns

-- columns whose codes are those of others, place by place
pub copied_columns : {V : Type 0} (items : V → List ℕ) (C : V → V → Type 0) → ((v w : V) → C v w → items w ≡ items v) → (cs ds : List V) → AllZip C cs ds → map items ds ≡ map items cs
copied_columns items C says [] [] h = refl
copied_columns items C says [] (d ∷ ds) h = absurd h
copied_columns items C says (c ∷ cs) [] h = absurd h
copied_columns items C says (c ∷ cs) (d ∷ ds) h =
    let first : items d ≡ items c = says c d h.0 in
    let rest : map items ds ≡ map items cs = copied_columns items C says cs ds h.1 in cc

-- such columns are seen as one
pub copied_view : {V : Type 0} (items : V → List ℕ) (cs ds : List V) (next : ℕ) (seen : InRows) → map items ds ≡ map items cs → record { width = length cs; list = in_rows (map items cs) next } ≡ seen → record { width = length ds; list = in_rows (map items ds) next } ≡ seen
copied_view items cs ds next seen e is =
    let wide : length ds ≡ length cs = sym (length-map ds items) ∙ ap length e ∙ length-map cs items in
    rw (wide, e) is
