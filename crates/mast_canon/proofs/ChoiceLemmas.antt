-- The cells of a choice: in which row and column of which table each stands, and what it may hold.
use Rattle.std.proofs.Common.{◌≡◌, ℕ, zero, suc, ◌+◌, ◌-◌, ◌<◌, Bool, true, false, if◌then◌else◌, List, [], ◌∷◌, length, get_or, inl, refl, ap, subst, sym, ◌∙◌, arith}
use Rattle.std.specs.List.{AllByRecursion, AllZip}
use Rattle.std.specs.Option.{option_to_list}
use Rattle.std.specs.Prelude.{Option, Some, None, slice_get}
use Rattle.std.specs.Str.{bytes_eq}
use Rattle.mast_cq.specs.Queries.{In}
use Rattle.mast_cq.proofs.ListLemmas.{each_in}
use Rattle.mast_mapping.specs.Columns.{Meaning, table_named, column_named, column_of_table, is_alias, meanings, only, meaning_of}
use Rattle.mast_sql.specs.declared.query.FromEntry.{FromEntry}
use Rattle.mast_sql.specs.declared.query.SourceQuery.{SourceQuery}
use Rattle.mast_tables.specs.declared.declaration.Column.{Column}
use Rattle.mast_tables.specs.declared.declaration.TableDecl.{TableDecl}
use Rattle.mast_tables.specs.Rows.{Row, IsPlace, cell_at}
use Rattle.mast_canon.specs.Choices.{table_number, rows_of, IsRowNumber, IsChoice, chosen, cell_of}
use Rattle.mast_canon.specs.Fitting.{IsCellOf, IsRowOf, Fits}
use Rattle.mast_canon.proofs.OverLemmas.{each_append}
use Rattle.mast_canon.proofs.SupportLemmas.{each_weaker}

-- what holds at each place of two lists holds at one
pub zip_at : {A B : Type 0} (R : A → B → Type 0) (xs : List A) (ys : List B) (i : ℕ) (x : A) (d : B) → AllZip R xs ys → slice_get xs i ≡ Some x → R x (get_or ys i d)
zip_at R [] ys i x d h e = absurd (cc)
zip_at R (a ∷ xs) [] i x d h e = absurd h
zip_at {A} R (a ∷ xs) (b ∷ ys) zero x d h e = let s : a ≡ x = cc in subst (λ (k : A). R k b) s h.0
zip_at R (a ∷ xs) (b ∷ ys) (suc i) x d h e = zip_at R xs ys i x d h.1 e

-- two such lists are equally long
pub zip_length : {A B : Type 0} (R : A → B → Type 0) (xs : List A) (ys : List B) → AllZip R xs ys → length xs ≡ length ys
zip_length R [] [] h = refl
zip_length R [] (y ∷ ys) h = absurd h
zip_length R (x ∷ xs) [] h = absurd h
zip_length R (x ∷ xs) (y ∷ ys) h = ap suc (zip_length R xs ys h.1)

-- what holds of each element holds at a place
pub each_at : {A : Type 0} (P : A → Type 0) (xs : List A) (i : ℕ) (d : A) → AllByRecursion P xs → i < length xs → P (get_or xs i d)
each_at P [] i d h l = absurd (omega (arith, l))
each_at P (x ∷ xs) zero d h l = h.0
each_at P (x ∷ xs) (suc i) d h l = each_at P xs i d h.1 (omega (arith, l))

-- an element stands at a place of its list
pub place_within : {A : Type 0} (xs : List A) (i : ℕ) (x : A) → slice_get xs i ≡ Some x → i < length xs
place_within [] i x e = absurd (cc)
place_within (a ∷ xs) zero x e = omega arith
place_within (a ∷ xs) (suc i) x e = let l : i < length xs = place_within xs i x e in omega (arith, l)

table_step : (is : Bool) (d : TableDecl) (rest : Option TableDecl) (n : ℕ) (decls : List TableDecl) (table : TableDecl) → (rest ≡ Some table → slice_get decls n ≡ Some table) → (if is then Some d else rest) ≡ Some table → slice_get (d ∷ decls) (if is then 0 else suc n) ≡ Some table
table_step true d rest n decls table k e = e
table_step false d rest n decls table k e = k e

-- the table of a name stands at its number
pub table_at : (name : List ℕ) (decls : List TableDecl) (table : TableDecl) → table_named name decls ≡ Some table → slice_get decls (table_number name decls) ≡ Some table
table_at name [] table e = absurd (cc)
table_at name (d ∷ decls) table e = table_step (bytes_eq d.name name) d (table_named name decls) (table_number name decls) decls table (table_at name decls table) e

-- a column of these, which are numbered from here on
abbrev IsColumnAt : ℕ → ℕ → List Column → Meaning → Type 0
IsColumnAt entry number columns m = (k : ℕ) × (c : Column) × (m.column ≡ number + k) × (slice_get columns k ≡ Some c) × (m.kind ≡ c.kind) × (m.entry ≡ entry)

column_step : (is : Bool) (entry number : ℕ) (c : Column) (columns : List Column) (rest : Option Meaning) (m : Meaning) → (rest ≡ Some m → IsColumnAt entry (number + 1) columns m)
    → (if is then Some (record { entry = entry; column = number; kind = c.kind }) else rest) ≡ Some m → IsColumnAt entry number (c ∷ columns) m
column_step true entry number c columns rest m k e =
    let made : Meaning = record { entry = entry; column = number; kind = c.kind } in
    let s : made ≡ m = cc in
    let at : number ≡ m.column = ap (λ (x : Meaning). x.column) s in
    (zero, c, omega (arith, at), refl, sym (ap (λ (x : Meaning). x.kind) s), sym (ap (λ (x : Meaning). x.entry) s))
column_step false entry number c columns rest m k e = let r = k e in (suc r.0, r.1, omega (arith, r.2), r.3, r.4, r.5)

column_is_at : (name : List ℕ) (entry number : ℕ) (columns : List Column) (m : Meaning) → column_named name entry number columns ≡ Some m → IsColumnAt entry number columns m
column_is_at name entry number [] m e = absurd (cc)
column_is_at name entry number (c ∷ columns) m e = column_step (bytes_eq c.name name) entry number c columns (column_named name entry (number + 1) columns) m (column_is_at name entry (number + 1) columns m) e

module _ (decls : List TableDecl) where
  -- what a meaning is of: an entry at this place, its table, and the column there
  pub record IsOfEntry (entries : List FromEntry) (place : ℕ) (m : Meaning) : Type 0 where
    pub entry : FromEntry
    pub stands : slice_get entries place ≡ Some entry
    pub table : TableDecl
    pub named : table_named entry.table decls ≡ Some table
    pub column : Column
    pub at : slice_get table.columns m.column ≡ Some column
    pub kind : m.kind ≡ column.kind

  abbrev IsFrom : ℕ → List FromEntry → Meaning → Type 0
  IsFrom number entries m = (k : ℕ) × (m.entry ≡ number + k) × IsOfEntry entries k m

  first_of : (name : List ℕ) (number : ℕ) (e : FromEntry) (entries : List FromEntry) (o : Option TableDecl) → table_named e.table decls ≡ o → (m : Meaning) → column_of_table name number o ≡ Some m → IsFrom number (e ∷ entries) m
  first_of name number e entries None named m h = absurd (cc)
  first_of name number e entries (Some table) named m h =
      let c = column_is_at name number 0 table.columns m h in
      let at : c.0 ≡ m.column = omega (arith, c.2) in
      (zero, omega (arith, c.5), record { entry = e; stands = refl; table = table; named = named; column = c.1; at = subst (λ (k : ℕ). slice_get table.columns k ≡ Some c.1) at c.3; kind = c.4 })

  later : (number : ℕ) (e : FromEntry) (entries : List FromEntry) (m : Meaning) → IsFrom (number + 1) entries m → IsFrom number (e ∷ entries) m
  later number e entries m f =
      let o = f.2 in
      (suc f.0, omega (arith, f.1), record { entry = o.entry; stands = o.stands; table = o.table; named = o.named; column = o.column; at = o.at; kind = o.kind })

  each_option : (P : Meaning → Type 0) (o : Option Meaning) → ((m : Meaning) → o ≡ Some m → P m) → AllByRecursion P (option_to_list o)
  each_option P None k = tt
  each_option P (Some m) k = (k m refl, tt)

  each_if : (P : Meaning → Type 0) (b : Bool) (ms : List Meaning) → AllByRecursion P ms → AllByRecursion P (if b then ms else [])
  each_if P true ms h = h
  each_if P false ms h = tt

  each_meaning : (alias : Option (List ℕ)) (name : List ℕ) (number : ℕ) (entries : List FromEntry) → AllByRecursion (IsFrom number entries) (meanings decls alias name number entries)
  each_meaning alias name number [] = tt
  each_meaning alias name number (e ∷ entries) =
      let o : Option Meaning = column_of_table name number (table_named e.table decls) in
      each_append (IsFrom number (e ∷ entries)) (if is_alias alias e.alias then option_to_list o else []) (meanings decls alias name (number + 1) entries)
      (each_if (IsFrom number (e ∷ entries)) (is_alias alias e.alias) (option_to_list o) (each_option (IsFrom number (e ∷ entries)) o (first_of name number e entries (table_named e.table decls) refl)))
      (each_weaker (IsFrom (number + 1) entries) (IsFrom number (e ∷ entries)) (later number e entries) (meanings decls alias name (number + 1) entries) (each_meaning alias name (number + 1) entries))

  only_in : (ms : List Meaning) (m : Meaning) → only ms ≡ Some m → In m ms
  only_in [] m e = absurd (cc)
  only_in (x ∷ []) m e = let s : m ≡ x = cc in inl s
  only_in (x ∷ (y ∷ ms)) m e = absurd (cc)

  -- a column's meaning is a column of an entry's table
  pub meaning_is_of : (entries : List FromEntry) (alias : Option (List ℕ)) (name : List ℕ) (m : Meaning) → meaning_of decls entries alias name ≡ Some m → IsOfEntry entries m.entry m
  meaning_is_of entries alias name m e =
      let f = each_in (IsFrom 0 entries) m (meanings decls alias name 0 entries) (each_meaning alias name 0 entries) (only_in (meanings decls alias name 0 entries) m e) in
      let at : f.0 ≡ m.entry = omega (arith, f.1) in
      subst (λ (k : ℕ). IsOfEntry entries k m) at f.2

  module _ (tables : List (List Row)) where
    -- the row that a choice has for an entry is that of its number in the entry's table
    pub chosen_at : (entries : List FromEntry) (choice : List ℕ) (i : ℕ) (entry : FromEntry) → AllZip (λ e number. IsRowNumber (rows_of decls tables e) number) entries choice
        → slice_get entries i ≡ Some entry → get_or (chosen decls tables entries choice) i [] ≡ get_or (rows_of decls tables entry) (get_or choice i 0 - 1) []
    chosen_at [] choice i entry h e = absurd (cc)
    chosen_at (x ∷ entries) [] i entry h e = absurd h
    chosen_at (x ∷ entries) (n ∷ choice) zero entry h e = let s : x ≡ entry = cc in ap (λ (k : FromEntry). get_or (rows_of decls tables k) (n - 1) []) s
    chosen_at (x ∷ entries) (n ∷ choice) (suc i) entry h e = chosen_at entries choice i entry h.1 e

    module _ (query : SourceQuery) (choice : List ℕ) (is : IsChoice decls tables query choice) (m : Meaning) (o : IsOfEntry query.from m.entry m) where
      -- the number of the chosen row is that of a row of the entry's table
      pub number_is : IsRowNumber (rows_of decls tables o.entry) (get_or choice m.entry 0)
      number_is = zip_at (λ e number. IsRowNumber (rows_of decls tables e) number) query.from choice m.entry o.entry 0 is o.stands

      -- the cell of a meaning is that of the chosen row and the column
      pub cell_is : cell_of (chosen decls tables query.from choice) (Some m) ≡ cell_at (rows_of decls tables o.entry) (get_or choice m.entry 0) (m.column + 1)
      cell_is =
          let row : get_or (chosen decls tables query.from choice) m.entry [] ≡ get_or (rows_of decls tables o.entry) (get_or choice m.entry 0 - 1) [] = chosen_at query.from choice m.entry o.entry is o.stands in
          let column : m.column ≡ (m.column + 1) - 1 = omega arith in
          ap (λ (r : Row). get_or r m.column None) row ∙ ap (λ (k : ℕ). get_or (get_or (rows_of decls tables o.entry) (get_or choice m.entry 0 - 1) []) k None) column

      module _ (fits : Fits decls tables) where
        rows_fit : AllByRecursion (IsRowOf o.table) (rows_of decls tables o.entry)
        rows_fit = zip_at (λ decl rows. AllByRecursion (IsRowOf decl) rows) decls tables (table_number o.entry.table decls) o.table [] fits (table_at o.entry.table decls o.table o.named)

        row_fits : IsRowOf o.table (get_or (rows_of decls tables o.entry) (get_or choice m.entry 0 - 1) [])
        row_fits =
            let n = number_is in
            each_at (IsRowOf o.table) (rows_of decls tables o.entry) (get_or choice m.entry 0 - 1) [] rows_fit (omega (arith, n.0, n.1))

        -- where the tables fit, the row and the column are a place of the table
        pub cell_place : IsPlace (rows_of decls tables o.entry) (get_or choice m.entry 0) (m.column + 1)
        cell_place =
            let n = number_is in
            let long : length o.table.columns ≡ length (get_or (rows_of decls tables o.entry) (get_or choice m.entry 0 - 1) []) = zip_length IsCellOf o.table.columns (get_or (rows_of decls tables o.entry) (get_or choice m.entry 0 - 1) []) row_fits in
            let within : m.column < length o.table.columns = place_within o.table.columns m.column o.column o.at in
            record { row_from = n.0; row_to = n.1; column_from = omega arith; column_to = omega (arith, long, within) }

        -- and the cell is one of the column: of its kind, or missing where it may be
        pub cell_fits : IsCellOf o.column (cell_of (chosen decls tables query.from choice) (Some m))
        cell_fits =
            let row : get_or (chosen decls tables query.from choice) m.entry [] ≡ get_or (rows_of decls tables o.entry) (get_or choice m.entry 0 - 1) [] = chosen_at query.from choice m.entry o.entry is o.stands in
            subst (λ (r : Row). IsCellOf o.column (get_or r m.column None)) (sym row)
            (zip_at IsCellOf o.table.columns (get_or (rows_of decls tables o.entry) (get_or choice m.entry 0 - 1) []) m.column o.column None row_fits o.at)
