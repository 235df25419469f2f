-- A source query over tables, and what it is made into.
use Rattle.std.proofs.Common.{◌≡◌, ℕ, zero, suc, ◌+◌, ◌-◌, ◌<◌, ◌≤◌, Bool, true, false, if◌then◌else◌, List, [], ◌∷◌, ◌++◌, length, get_or, map, take, inl, inr, refl, sym, ap, subst, ◌∙◌, arith}
use Rattle.std.specs.Prelude.{Option, Some, None, ◌||◌, nat_eq}
use Rattle.std.specs.List.{AllByRecursion, AllZip}
use Rattle.std.specs.Option.{option_to_list}
use Rattle.std.specs.Str.{bytes_eq}
use Rattle.std.proofs.lemmas.Bool.{and_parts, and_from, ne_eqb}
use Rattle.std.proofs.lemmas.List.{take_more}
use Rattle.std.proofs.lemmas.Option.{none-some, same_Some}
use Rattle.mast_terms.specs.declared.value.Kind.{Kind}
use Rattle.mast_terms.specs.declared.value.Value.{Value}
use Rattle.mast_cq.specs.Queries.{In}
use Rattle.mast_cq.proofs.ListLemmas.{in_append}
use Rattle.mast_sql.specs.declared.query.Compare.{Compare}
use Rattle.mast_sql.specs.declared.query.Comparison.{Comparison}
use Rattle.mast_sql.specs.declared.query.FromEntry.{FromEntry}
use Rattle.mast_sql.specs.declared.query.Operand.{Operand}
use Rattle.mast_sql.specs.declared.query.Operand.TheVariants as operand
use Rattle.mast_sql.specs.declared.query.SourceQuery.{SourceQuery}
use Rattle.mast_tables.specs.declared.declaration.Column.{Column}
use Rattle.mast_tables.specs.declared.declaration.TableDecl.{TableDecl}
use Rattle.mast_tables.specs.Rows.{Row}
use Rattle.mast_mapping.specs.Columns.{Meaning, table_named, column_named, column_of_table, is_alias, meanings, only, meaning_of}
use Rattle.mast_canon.specs.declared.rows.RowId.{RowId}
use Rattle.mast_canon.specs.Choices.{table_number, rows_of, IsRowNumber, chosen, cell_of, operand_value, compare, IsTrueOf}
use Rattle.mast_canon.specs.Facts.{chosen_rows}
use Rattle.mast_join.specs.Chosen.{IsWithin, IsMet}
use Rattle.mast_join.specs.declared.comparisons.Side.{Side}
use Rattle.mast_join.specs.declared.comparisons.Side.TheVariants as side
use Rattle.mast_join.specs.declared.comparisons.Test.{Test}
use Rattle.mast_join.specs.inside.Partial.{side_value, is_open, passes, pass_all, MayHave}
use Rattle.mast_join.specs.inside.Plans.{IsPlaced, IsConstant, IsSide, IsTest, AreTests, sources_of}

-- the numbers of the tables of entries
abbrev pub places_of : List TableDecl → List FromEntry → List ℕ
places_of decls entries = map (λ entry. table_number entry.table decls) entries

-- the tables of entries
abbrev pub tables_of : List TableDecl → List (List Row) → List FromEntry → List (List Row)
tables_of decls tables entries = sources_of tables (places_of decls entries)

-- a choice with a row that each entry may have
pub record IsFull (sources : List (List Row)) (places : List ℕ) (given : Option (List RowId)) (choice : List ℕ) : Type 0 where
  pub long : length choice ≡ length sources
  pub rows : (entry : ℕ) → entry < length sources → MayHave sources places given entry (get_or choice entry 0)

-- the row of a number in a table
abbrev row_id : ℕ → ℕ → RowId
row_id place number = record { table = place; number = number }

-- what a column with this number means
abbrev meaning_at : ℕ → ℕ → Kind → Meaning
meaning_at entry number kind = record { entry = entry; column = number; kind = kind }

module _ (decls : List TableDecl) (tables : List (List Row)) where
  full_choice : (given : Option (List RowId)) (entries : List FromEntry) (choice : List ℕ) → IsFull (tables_of decls tables entries) (places_of decls entries) given choice → AllZip (λ entry number. IsRowNumber (rows_of decls tables entry) number) entries choice
  full_choice given [] [] f = tt
  full_choice given [] (n ∷ ns) f = absurd (omega (arith, f.long))
  full_choice given (e ∷ es) [] f = absurd (omega (arith, f.long))
  full_choice given (e ∷ es) (n ∷ ns) f = (
    (f.rows 0 (omega arith)).is_row,
    full_choice given es ns (record { long = omega (arith, f.long); rows = λ k lt. let r = f.rows (suc k) (omega (arith, lt)) in record { is_row = r.is_row; among = r.among } }),
  )

  full_within : (given : List RowId) (entries : List FromEntry) (choice : List ℕ) → IsFull (tables_of decls tables entries) (places_of decls entries) (Some given) choice → AllByRecursion (λ row. In row given) (chosen_rows decls entries choice)
  full_within given [] choice f = tt
  full_within given (e ∷ es) [] f = tt
  full_within given (e ∷ es) (n ∷ ns) f = (
    (f.rows 0 (omega arith)).among,
    full_within given es ns (record { long = omega (arith, f.long); rows = λ k lt. let r = f.rows (suc k) (omega (arith, lt)) in record { is_row = r.is_row; among = r.among } }),
  )

  is_within : (given : Option (List RowId)) (entries : List FromEntry) (choice : List ℕ) → IsFull (tables_of decls tables entries) (places_of decls entries) given choice → IsWithin decls entries given choice
  is_within None entries choice f = tt
  is_within (Some given) entries choice f = full_within given entries choice f

  choice_long : (entries : List FromEntry) (choice : List ℕ) → AllZip (λ entry number. IsRowNumber (rows_of decls tables entry) number) entries choice → length choice ≡ length (tables_of decls tables entries)
  choice_long [] [] z = refl
  choice_long [] (n ∷ ns) z = absurd z
  choice_long (e ∷ es) [] z = absurd z
  choice_long (e ∷ es) (n ∷ ns) z = ap suc (choice_long es ns z.1)

  choice_rows : (entries : List FromEntry) (choice : List ℕ) → AllZip (λ entry number. IsRowNumber (rows_of decls tables entry) number) entries choice → (k : ℕ) → k < length (tables_of decls tables entries) → IsRowNumber (get_or (tables_of decls tables entries) k []) (get_or choice k 0)
  choice_rows [] choice z k lt = absurd (omega arith)
  choice_rows (e ∷ es) [] z k lt = absurd z
  choice_rows (e ∷ es) (n ∷ ns) z zero lt = z.0
  choice_rows (e ∷ es) (n ∷ ns) z (suc k) lt = choice_rows es ns z.1 k (omega arith)

  choice_among : (given : List RowId) (entries : List FromEntry) (choice : List ℕ) → AllZip (λ entry number. IsRowNumber (rows_of decls tables entry) number) entries choice → AllByRecursion (λ row. In row given) (chosen_rows decls entries choice) → (k : ℕ) → k < length (tables_of decls tables entries) → In (row_id (get_or (places_of decls entries) k 0) (get_or choice k 0)) given
  choice_among given [] choice z a k lt = absurd (omega arith)
  choice_among given (e ∷ es) [] z a k lt = absurd z
  choice_among given (e ∷ es) (n ∷ ns) z a zero lt = a.0
  choice_among given (e ∷ es) (n ∷ ns) z a (suc k) lt = choice_among given es ns z.1 a.1 k (omega arith)

  -- a choice of rows is full
  is_full : (given : Option (List RowId)) (entries : List FromEntry) (choice : List ℕ) → AllZip (λ entry number. IsRowNumber (rows_of decls tables entry) number) entries choice → IsWithin decls entries given choice → IsFull (tables_of decls tables entries) (places_of decls entries) given choice
  is_full None entries choice z w = record { long = choice_long entries choice z; rows = λ k lt. record { is_row = choice_rows entries choice z k lt; among = tt } }
  is_full (Some given) entries choice z w = record { long = choice_long entries choice z; rows = λ k lt. record { is_row = choice_rows entries choice z k lt; among = choice_among given entries choice z w k lt } }

  -- the row that is chosen for an entry
  chosen_at : (entries : List FromEntry) (choice : List ℕ) (k : ℕ) → k < length entries → length choice ≡ length entries → get_or (chosen decls tables entries choice) k [] ≡ get_or (get_or (tables_of decls tables entries) k []) (get_or choice k 0 - 1) []
  chosen_at [] choice k lt long = absurd (omega arith)
  chosen_at (e ∷ es) [] k lt long = absurd (omega arith)
  chosen_at (e ∷ es) (n ∷ ns) zero lt long = refl
  chosen_at (e ∷ es) (n ∷ ns) (suc k) lt long = chosen_at es ns k (omega arith) (omega arith)

  pub length-tables_of : (entries : List FromEntry) → length (tables_of decls tables entries) ≡ length entries
  length-tables_of [] = refl
  length-tables_of (e ∷ es) = ap suc (length-tables_of es)

-- what a column of an entry means is within the entry's table
pub record IsWithinTable (decls : List TableDecl) (entry : FromEntry) (column : ℕ) : Type 0 where
  pub decl : TableDecl
  pub named : table_named entry.table decls ≡ Some decl
  pub within : column < length decl.columns

-- the meaning is of one of these entries, which are numbered from here on
pub record IsMeaningOver (decls : List TableDecl) (number : ℕ) (entries : List FromEntry) (m : Meaning) : Type 0 where
  pub place : ℕ
  pub is : m.entry ≡ number + place
  pub there : place < length entries
  pub within : (d : FromEntry) → IsWithinTable decls (get_or entries place d) m.column

column_case : (b : Bool) (name : List ℕ) (entry number : ℕ) (c : Column) (m : Meaning) (o : Option Meaning) (size : ℕ) → (o ≡ Some m → (m.entry ≡ entry) × (m.column < number + 1 + size)) → (if b then Some (meaning_at entry number c.kind) else o) ≡ Some m → (m.entry ≡ entry) × (m.column < number + suc size)
column_case true name entry number c m o size rec e =
    let same : meaning_at entry number c.kind ≡ m = same_Some (meaning_at entry number c.kind) m e in
    (sym (ap (λ (k : Meaning). k.entry) same), let col : number ≡ m.column = ap (λ (k : Meaning). k.column) same in omega arith)
column_case false name entry number c m o size rec e = let r = rec e in let lt : m.column < number + 1 + size = r.1 in (r.0, omega arith)

column_within : (name : List ℕ) (entry number : ℕ) (columns : List Column) (m : Meaning) → column_named name entry number columns ≡ Some m → (m.entry ≡ entry) × (m.column < number + length columns)
column_within name entry number [] m e = absurd (none-some m e)
column_within name entry number (c ∷ cs) m e = column_case (bytes_eq c.name name) name entry number c m (column_named name entry (number + 1) cs) (length cs) (column_within name entry (number + 1) cs m) e

of_table : (decls : List TableDecl) (name : List ℕ) (number : ℕ) (entry : FromEntry) (o : Option TableDecl) (m : Meaning) → table_named entry.table decls ≡ o → column_of_table name number o ≡ Some m → (m.entry ≡ number) × IsWithinTable decls entry m.column
of_table decls name number entry None m t e = absurd (none-some m e)
of_table decls name number entry (Some decl) m t e =
    let r = column_within name number 0 decl.columns m e in
    let lt : m.column < 0 + length decl.columns = r.1 in
    (r.0, record { decl = decl; named = t; within = omega arith })

in_option : (o : Option Meaning) (m : Meaning) → In m (option_to_list o) → o ≡ Some m
in_option None m i = absurd i
in_option (Some n) m (inl e) = ap (λ (k : Meaning). Some k) (sym e)
in_option (Some n) m (inr i) = absurd i

in_where : (b : Bool) (o : Option Meaning) (m : Meaning) → In m (if b then option_to_list o else []) → o ≡ Some m
in_where true o m i = in_option o m i
in_where false o m i = absurd i

in_meanings : (decls : List TableDecl) (alias : Option (List ℕ)) (name : List ℕ) (number : ℕ) (entries : List FromEntry) (m : Meaning) → In m (meanings decls alias name number entries) → IsMeaningOver decls number entries m
in_meanings decls alias name number [] m i = absurd i
in_meanings decls alias name number (e ∷ es) m i = elim (in_append m (if is_alias alias e.alias then option_to_list (column_of_table name number (table_named e.table decls)) else []) (meanings decls alias name (number + 1) es) i) [
  | inl a ↦
      let r = of_table decls name number e (table_named e.table decls) m refl (in_where (is_alias alias e.alias) (column_of_table name number (table_named e.table decls)) m a) in
      let at : m.entry ≡ number = r.0 in
      record { place = 0; is = omega arith; there = omega arith; within = λ d. r.1 }
  | inr b ↦
      let r = in_meanings decls alias name (number + 1) es m b in
      let at : m.entry ≡ number + 1 + r.place = r.is in
      let lt : r.place < length es = r.there in
      record { place = suc r.place; is = omega arith; there = omega arith; within = r.within }
]

only_in : (ms : List Meaning) (m : Meaning) → only ms ≡ Some m → In m ms
only_in [] m e = absurd (none-some m e)
only_in (n ∷ []) m e = inl (sym (same_Some n m e))
only_in (n ∷ (o ∷ ms)) m e = absurd (none-some m e)

-- what a column means is of one of the entries
pub meaning_over : (decls : List TableDecl) (entries : List FromEntry) (alias : Option (List ℕ)) (name : List ℕ) (m : Meaning) → meaning_of decls entries alias name ≡ Some m → IsMeaningOver decls 0 entries m
meaning_over decls entries alias name m e = in_meanings decls alias name 0 entries m (only_in (meanings decls alias name 0 entries) m e)

module _ (decls : List TableDecl) (tables : List (List Row)) (given : Option (List RowId)) (entries : List FromEntry) (choice : List ℕ) (f : IsFull (tables_of decls tables entries) (places_of decls entries) given choice) where
  -- the side has its row, and the value of what it stands for
  abbrev Agrees : Operand → Side → Type 0
  Agrees o s = (is_open choice s ≡ false) × (side_value (tables_of decls tables entries) choice s ≡ operand_value decls entries (chosen decls tables entries choice) o)

  is_chosen : (k : ℕ) → k < length entries → nat_eq (get_or choice k 0) 0 ≡ false
  is_chosen k lt =
      let r = (f.rows k (omega (arith, lt, length-tables_of decls tables entries))).is_row in
      ne_eqb (get_or choice k 0) 0 (λ z. let one : 1 ≤ get_or choice k 0 = r.0 in absurd (omega arith))

  placed : (alias : Option (List ℕ)) (name : List ℕ) (o : Option Meaning) (s : Side) → meaning_of decls entries alias name ≡ o → IsPlaced o s → Agrees (operand.Column alias name) s
  placed alias name None s e p =
      subst (λ (k : Side). Agrees (operand.Column alias name) k) (sym p) (refl, ap (cell_of (chosen decls tables entries choice)) (sym e))
  placed alias name (Some m) s e p =
      let over = meaning_over decls entries alias name m e in
      let at : m.entry ≡ 0 + over.place = over.is in
      let lt : over.place < length entries = over.there in
      let there : m.entry < length entries = omega arith in
      let long : length choice ≡ length entries = f.long ∙ length-tables_of decls tables entries in
      subst (λ (k : Side). Agrees (operand.Column alias name) k) (sym p) (
        is_chosen m.entry there,
        ap (λ (r : Row). get_or r m.column None) (sym (chosen_at decls tables entries choice m.entry there long)) ∙ ap (cell_of (chosen decls tables entries choice)) (sym e),
      )

  constant : (value : Value) (s : Side) → IsConstant value s → Agrees (operand.Constant value) s
  constant value (side.Cell entry column) p = absurd p
  constant value (side.Constant held) p = (refl, ap (λ (k : Value). Some k) p)
  constant value side.Nothing p = absurd p

  agrees : (o : Operand) (s : Side) → IsSide decls entries o s → Agrees o s
  agrees (operand.Column alias name) s p = placed alias name (meaning_of decls entries alias name) s refl p
  agrees (operand.Constant value) s p = constant value s p

  judged : (op cop : Compare) (lo ro : Bool) (lv rv lw rw' : Option Value) → lo ≡ false → ro ≡ false → lv ≡ lw → rv ≡ rw' → op ≡ cop → (lo || (ro || compare op lv rv)) ≡ compare cop lw rw'
  judged op cop lo ro lv rv lw rw' a b x y e = rw (a, b, x, y, e) refl

  -- a comparison passes exactly where it is true
  test_is : (c : Comparison) (t : Test) → IsTest decls entries c t → passes (tables_of decls tables entries) choice t ≡ compare c.op (operand_value decls entries (chosen decls tables entries choice) c.left) (operand_value decls entries (chosen decls tables entries choice) c.right)
  test_is c t i =
      let l = agrees c.left t.left i.left in
      let r = agrees c.right t.right i.right in
      judged t.op c.op (is_open choice t.left) (is_open choice t.right) (side_value (tables_of decls tables entries) choice t.left) (side_value (tables_of decls tables entries) choice t.right)
      (operand_value decls entries (chosen decls tables entries choice) c.left) (operand_value decls entries (chosen decls tables entries choice) c.right) l.0 r.0 l.1 r.1 i.op

  -- so do all
  tests_true : (cs : List Comparison) (ts : List Test) → AreTests decls entries cs ts → pass_all (tables_of decls tables entries) choice ts ≡ true → AllByRecursion (IsTrueOf decls entries (chosen decls tables entries choice)) cs
  tests_true [] [] z p = tt
  tests_true [] (t ∷ ts) z p = absurd z
  tests_true (c ∷ cs) [] z p = absurd z
  tests_true (c ∷ cs) (t ∷ ts) z p =
      let q = and_parts (passes (tables_of decls tables entries) choice t) (pass_all (tables_of decls tables entries) choice ts) p in
      (sym (test_is c t z.0) ∙ q.0, tests_true cs ts z.1 q.1)

  true_tests : (cs : List Comparison) (ts : List Test) → AreTests decls entries cs ts → AllByRecursion (IsTrueOf decls entries (chosen decls tables entries choice)) cs → pass_all (tables_of decls tables entries) choice ts ≡ true
  true_tests [] [] z p = refl
  true_tests [] (t ∷ ts) z p = absurd z
  true_tests (c ∷ cs) [] z p = absurd z
  true_tests (c ∷ cs) (t ∷ ts) z p = and_from (passes (tables_of decls tables entries) choice t) (pass_all (tables_of decls tables entries) choice ts) (test_is c t z.0 ∙ p.0) (true_tests cs ts z.1 p.1)

-- a full choice of which no comparison is false is one that meets the query
pub full_met : (decls : List TableDecl) (tables : List (List Row)) (query : SourceQuery) (given : Option (List RowId)) (tests : List Test) (choice : List ℕ) → AreTests decls query.from query.conditions tests → IsFull (tables_of decls tables query.from) (places_of decls query.from) given choice → pass_all (tables_of decls tables query.from) choice tests ≡ true → IsMet decls tables query given choice
full_met decls tables query given tests choice z f p = record {
  meets = record { is_choice = full_choice decls tables given query.from choice f; conditions = tests_true decls tables given query.from choice f query.conditions tests z p };
  within = is_within decls tables given query.from choice f;
}

-- and the other way
pub met_full : (decls : List TableDecl) (tables : List (List Row)) (query : SourceQuery) (given : Option (List RowId)) (choice : List ℕ) → IsMet decls tables query given choice → IsFull (tables_of decls tables query.from) (places_of decls query.from) given choice
met_full decls tables query given choice m = is_full decls tables given query.from choice m.meets.is_choice m.within

-- of which no comparison is false
pub met_passes : (decls : List TableDecl) (tables : List (List Row)) (query : SourceQuery) (given : Option (List RowId)) (tests : List Test) (choice : List ℕ) → AreTests decls query.from query.conditions tests → IsMet decls tables query given choice → pass_all (tables_of decls tables query.from) choice tests ≡ true
met_passes decls tables query given tests choice z m = true_tests decls tables given query.from choice (met_full decls tables query given choice m) query.conditions tests z m.meets.conditions

zip_push : (decls : List TableDecl) (entries : List FromEntry) (cs : List Comparison) (ts : List Test) (c : Comparison) (t : Test) → AreTests decls entries cs ts → IsTest decls entries c t → AreTests decls entries (cs ++ c ∷ []) (ts ++ t ∷ [])
zip_push decls entries [] [] c t z i = (i, tt)
zip_push decls entries [] (u ∷ ts) c t z i = absurd z
zip_push decls entries (d ∷ cs) [] c t z i = absurd z
zip_push decls entries (d ∷ cs) (u ∷ ts) c t z i = (z.0, zip_push decls entries cs ts c t z.1 i)

-- one comparison more
pub tests_more : (decls : List TableDecl) (entries : List FromEntry) (cs : List Comparison) (i : ℕ) (c : Comparison) (ts : List Test) (t : Test) → i < length cs → c ≡ get_or cs i c → AreTests decls entries (take i cs) ts → IsTest decls entries c t → AreTests decls entries (take (i + 1) cs) (ts ++ t ∷ [])
tests_more decls entries cs i c ts t lt e z k =
    let more : take (i + 1) cs ≡ take i cs ++ c ∷ [] = take_more cs i c lt ∙ ap (λ (x : Comparison). take i cs ++ x ∷ []) (sym e) in
    subst (λ (x : List Comparison). AreTests decls entries x (ts ++ t ∷ [])) (sym more) (zip_push decls entries (take i cs) ts c t z k)
