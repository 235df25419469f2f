-- Tables that fit their declarations have the cells that a source query over these means.
use Rattle.std.proofs.Common.{◌≡◌, ℕ, zero, suc, ◌+◌, ◌-◌, ◌^◌, ◌<◌, ◌≤◌, Bool, true, false, ltb, if◌then◌else◌, List, [], ◌∷◌, length, get_or, inl, inr, refl, sym, ap, subst, ◌∙◌, arith}
use Rattle.std.specs.Prelude.{Option, Some, None}
use Rattle.std.specs.List.{AllByRecursion, AllZip}
use Rattle.std.specs.Str.{bytes_eq}
use Rattle.std.proofs.lemmas.Bool.{and_parts, and_cases, ltb-true, ltb-false, false≢true}
use Rattle.std.proofs.lemmas.List.{get_or_past}
use Rattle.std.proofs.lemmas.Option.{none-some, same_Some}
use Rattle.mast_terms.specs.declared.value.Value.{Value}
use Rattle.mast_sql.specs.declared.query.Comparison.{Comparison}
use Rattle.mast_sql.specs.declared.query.FromEntry.{FromEntry}
use Rattle.mast_sql.specs.declared.query.Operand.{Operand}
use Rattle.mast_sql.specs.declared.query.Operand.TheVariants as operand
use Rattle.mast_tables.specs.declared.declaration.Column.{Column}
use Rattle.mast_tables.specs.declared.declaration.TableDecl.{TableDecl}
use Rattle.mast_tables.specs.Rows.{Row}
use Rattle.mast_mapping.specs.Columns.{Meaning, table_named, meaning_of}
use Rattle.mast_canon.specs.Choices.{table_number, rows_of, IsRowNumber}
use Rattle.mast_canon.specs.Fitting.{Fits, IsCellOf, IsRowOf}
use Rattle.mast_join.specs.Chosen.{AreFew}
use Rattle.mast_join.specs.declared.comparisons.Side.{Side}
use Rattle.mast_join.specs.declared.comparisons.Side.TheVariants as side
use Rattle.mast_join.specs.declared.comparisons.Test.{Test}
use Rattle.mast_join.specs.inside.Partial.{IsCellOver, IsSideOver, IsTestOver}
use Rattle.mast_join.specs.inside.Plans.{IsPlaced, IsConstant, IsSide, AreTests, are_below}
use Rattle.mast_join.proofs.PlanLemmas.{places_of, tables_of, length-tables_of, IsMeaningOver, meaning_over}

named_case : (b : Bool) (t : TableDecl) (ts : List TableDecl) (n : ℕ) (o : Option TableDecl) (d : TableDecl) → (o ≡ Some d → (n < length ts) × ((x : TableDecl) → get_or ts n x ≡ d)) → (if b then Some t else o) ≡ Some d
    → ((if b then 0 else suc n) < suc (length ts)) × ((x : TableDecl) → get_or (t ∷ ts) (if b then 0 else suc n) x ≡ d)
named_case true t ts n o d rec e = (omega arith, λ x. same_Some t d e)
named_case false t ts n o d rec e = let r = rec e in let lt : n < length ts = r.0 in (omega arith, λ x. r.1 x)

-- the number of a declared table is that of its declaration
named_at : (name : List ℕ) (decls : List TableDecl) (d : TableDecl) → table_named name decls ≡ Some d → (table_number name decls < length decls) × ((x : TableDecl) → get_or decls (table_number name decls) x ≡ d)
named_at name [] d e = absurd (none-some d e)
named_at name (t ∷ ts) d e = named_case (bytes_eq t.name name) t ts (table_number name ts) (table_named name ts) d (named_at name ts d) e

fit_at : (decls : List TableDecl) (tables : List (List Row)) (k : ℕ) → Fits decls tables → k < length decls → (x : TableDecl) → AllByRecursion (IsRowOf (get_or decls k x)) (get_or tables k [])
fit_at [] tables k f lt x = absurd (omega arith)
fit_at (d ∷ ds) [] k f lt x = absurd f
fit_at (d ∷ ds) (t ∷ ts) zero f lt x = f.0
fit_at (d ∷ ds) (t ∷ ts) (suc k) f lt x = fit_at ds ts k f.1 (omega arith) x

pub fit_long : (decls : List TableDecl) (tables : List (List Row)) → Fits decls tables → length decls ≡ length tables
fit_long [] [] f = refl
fit_long [] (t ∷ ts) f = absurd f
fit_long (d ∷ ds) [] f = absurd f
fit_long (d ∷ ds) (t ∷ ts) f = ap suc (fit_long ds ts f.1)

few_at : (decls : List TableDecl) (k : ℕ) → AreFew decls → k < length decls → (x : TableDecl) → length (get_or decls k x).columns < 2 ^ 32 - 1
few_at [] k f lt x = absurd (omega arith)
few_at (d ∷ ds) zero f lt x = f.0
few_at (d ∷ ds) (suc k) f lt x = few_at ds k f.1 (omega arith) x

row_long : (columns : List Column) (row : Row) → AllZip IsCellOf columns row → length columns ≡ length row
row_long [] [] z = refl
row_long [] (v ∷ vs) z = absurd z
row_long (c ∷ cs) [] z = absurd z
row_long (c ∷ cs) (v ∷ vs) z = ap suc (row_long cs vs z.1)

rows_long : (decl : TableDecl) (rows : List Row) (r : ℕ) → AllByRecursion (IsRowOf decl) rows → r < length rows → length decl.columns ≡ length (get_or rows r [])
rows_long decl [] r a lt = absurd (omega arith)
rows_long decl (row ∷ rows) zero a lt = row_long decl.columns row a.0
rows_long decl (row ∷ rows) (suc r) a lt = rows_long decl rows r a.1 (omega arith)

tables_at : (decls : List TableDecl) (tables : List (List Row)) (entries : List FromEntry) (k : ℕ) (d : FromEntry) → k < length entries → get_or (tables_of decls tables entries) k [] ≡ get_or tables (table_number (get_or entries k d).table decls) []
tables_at decls tables [] k d lt = absurd (omega arith)
tables_at decls tables (e ∷ es) zero d lt = refl
tables_at decls tables (e ∷ es) (suc k) d lt = tables_at decls tables es k d (omega arith)

no_entry : FromEntry
no_entry = record { table = []; alias = [] }

module _ (decls : List TableDecl) (tables : List (List Row)) (fits : Fits decls tables) (few : AreFew decls) (entries : List FromEntry) where
  in_table : (rows : List Row) (n : ℕ) (decl : TableDecl) (m : ℕ) → rows ≡ get_or tables n [] → n < length decls → ((x : TableDecl) → get_or decls n x ≡ decl) → m < length decl.columns → (m + 1 < 2 ^ 32) × ((r : ℕ) → r < length rows → m < length (get_or rows r []))
  in_table rows n decl m e lt is within =
      let small : length decl.columns < 2 ^ 32 - 1 = subst (λ (d : TableDecl). length d.columns < 2 ^ 32 - 1) (is decl) (few_at decls n few lt decl) in
      let fit : AllByRecursion (IsRowOf decl) rows = subst (λ (k : List Row). AllByRecursion (IsRowOf decl) k) (sym e) (subst (λ (d : TableDecl). AllByRecursion (IsRowOf d) (get_or tables n [])) (is decl) (fit_at decls tables n fits lt decl)) in
      (omega arith, λ r rlt. let size : length decl.columns ≡ length (get_or rows r []) = rows_long decl rows r fit rlt in omega arith)

  -- the cells that a column means are there
  cell_over : (m : Meaning) → IsMeaningOver decls 0 entries m → IsCellOver (tables_of decls tables entries) m.entry m.column
  cell_over m o =
      let at : m.entry ≡ 0 + o.place = o.is in
      let lt : o.place < length entries = o.there in
      let same : m.entry ≡ o.place = omega arith in
      let w = o.within no_entry in
      let n = named_at (get_or entries o.place no_entry).table decls w.decl w.named in
      let rows : get_or (tables_of decls tables entries) m.entry [] ≡ get_or tables (table_number (get_or entries o.place no_entry).table decls) [] = ap (λ (k : ℕ). get_or (tables_of decls tables entries) k []) same ∙ tables_at decls tables entries o.place no_entry lt in
      let t = in_table (get_or (tables_of decls tables entries) m.entry []) (table_number (get_or entries o.place no_entry).table decls) w.decl m.column rows n.0 n.1 w.within in
      record { entry_there = omega (arith, lt, same, length-tables_of decls tables entries); column_few = t.0; column_there = t.1 }

  placed_over : (alias : Option (List ℕ)) (name : List ℕ) (o : Option Meaning) (s : Side) → meaning_of decls entries alias name ≡ o → IsPlaced o s → IsSideOver (tables_of decls tables entries) s
  placed_over alias name None s e p = subst (λ (k : Side). IsSideOver (tables_of decls tables entries) k) (sym p) tt
  placed_over alias name (Some m) s e p = subst (λ (k : Side). IsSideOver (tables_of decls tables entries) k) (sym p) (cell_over m (meaning_over decls entries alias name m e))

  constant_over : (value : Value) (s : Side) → IsConstant value s → IsSideOver (tables_of decls tables entries) s
  constant_over value (side.Cell entry column) p = absurd p
  constant_over value (side.Constant held) p = tt
  constant_over value side.Nothing p = absurd p

  side_over : (o : Operand) (s : Side) → IsSide decls entries o s → IsSideOver (tables_of decls tables entries) s
  side_over (operand.Column alias name) s p = placed_over alias name (meaning_of decls entries alias name) s refl p
  side_over (operand.Constant value) s p = constant_over value s p

  -- so are those of all comparisons
  pub tests_over : (cs : List Comparison) (ts : List Test) → AreTests decls entries cs ts → AllByRecursion (IsTestOver (tables_of decls tables entries)) ts
  tests_over [] [] z = tt
  tests_over [] (t ∷ ts) z = absurd z
  tests_over (c ∷ cs) [] z = absurd z
  tests_over (c ∷ cs) (t ∷ ts) z = (record { left = side_over c.left t.left z.0.left; right = side_over c.right t.right z.0.right }, tests_over cs ts z.1)

-- where each number is below, each place is
pub all_below : (count : ℕ) (places : List ℕ) → are_below count places ≡ true → AllByRecursion (λ place. place < count) places
all_below count [] e = tt
all_below count (p ∷ ps) e =
    let h = and_parts (ltb p count) (are_below count ps) e in
    (ltb-true p count h.0, all_below count ps h.1)

no_row : (tables : List (List Row)) (place number : ℕ) → length tables ≤ place → IsRowNumber (get_or tables place []) number → ⊥
no_row tables place number le r =
    let none : get_or tables place [] ≡ [] = get_or_past tables place [] le in
    let a : 1 ≤ number = r.0 in
    let b : number ≤ length (get_or tables place []) = r.1 in
    let c : length (get_or tables place []) ≡ 0 = ap length none in
    absurd (omega arith)

-- and where one is not, no choice is there
pub none_there : (decls : List TableDecl) (tables : List (List Row)) (entries : List FromEntry) (choice : List ℕ) → are_below (length tables) (places_of decls entries) ≡ false → AllZip (λ entry number. IsRowNumber (rows_of decls tables entry) number) entries choice → ⊥
none_there decls tables [] choice e z = false≢true (sym e)
none_there decls tables (entry ∷ entries) [] e z = z
none_there decls tables (entry ∷ entries) (n ∷ ns) e z = elim (and_cases (ltb (table_number entry.table decls) (length tables)) (are_below (length tables) (places_of decls entries)) e) [
  | inl h ↦ no_row tables (table_number entry.table decls) n (ltb-false (table_number entry.table decls) (length tables) h) z.0
  | inr h ↦ none_there decls tables entries ns h z.1
]
