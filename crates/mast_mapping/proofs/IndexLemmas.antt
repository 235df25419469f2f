-- Indices by name.
use Rattle.std.proofs.Common.{◌≡◌, inl, inr, ℕ, Bool, true, false, ◌||◌, List, ◌∷◌, [], ◌++◌, map, refl, ap, sym, ◌∙◌}
use Rattle.std.specs.Prelude.{Option, Some, None, is_some, if◌then◌else◌, string_bytes}
use Rattle.std.specs.Option.{option_map}
use Rattle.std.specs.Str.{bytes_eq}
use Rattle.std.specs.Map.{lookup}
use Rattle.std.specs.String.{string_eq}
use Rattle.std.specs.Cmp.Lexicographic.{nat_list_eq_equiv}
use Rattle.std.specs.declared.string.String.{String}
use Rattle.indexmap.specs.IndexMap.{insert_entry}
use Rattle.std.proofs.lemmas.Bool.{cases_Bool}
use Rattle.mast_terms.specs.declared.value.Kind.{Kind}
use Rattle.mast_terms.specs.Vocabularies.{stands}
use Rattle.mast_tables.specs.declared.declaration.Column.{Column}
use Rattle.mast_tables.specs.declared.declaration.TableDecl.{TableDecl}
use Rattle.mast_mapping.specs.Columns.{table_named}
use Rattle.mast_mapping.specs.OverTables.{column_names, table_names}
use Rattle.mast_mapping.specs.inside.Indices.{shown, value_named, kind_in_kinds, column_kinds, table_kinds}
use Rattle.mast_mapping.specs.inside.Kinds.{kind_named, kind_of_table}

-- what a map finds is the value of the name
pub find_shown : {Z V : Type 0} (q : List ℕ) (es : List (String Z × V)) → lookup (λ k. bytes_eq q (string_bytes k)) es ≡ value_named q (shown es)
find_shown q [] = refl
find_shown q (e ∷ es) = elim (cases_Bool (bytes_eq q (string_bytes e.0))) [
  | inl h ↦ rw h refl
  | inr h ↦ rw h (find_shown q es)
]

-- a new entry of a map stands at the end
pub put_shown : {Z V : Type 0} (k : String Z) (v : V) (es : List (String Z × V)) → value_named (string_bytes k) (shown es) ≡ None → shown (insert_entry string_eq es k v) ≡ shown es ++ (string_bytes k, v) ∷ []
put_shown k v [] h = refl
put_shown {Z} {V} k v (e ∷ es) h = elim (cases_Bool (bytes_eq (string_bytes k) (string_bytes e.0))) [
  | inl g ↦ absurd (let f : ◌≡◌ {A = Option V} (Some e.1) None = rw g at h in cc)
  | inr g ↦ rw g (ap (λ x. (string_bytes e.0, e.1) ∷ x) (put_shown k v es (rw g at h)))
]

-- names are compared either way
same_either : (a b : List ℕ) → bytes_eq a b ≡ bytes_eq b a
same_either a b = nat_list_eq_equiv.symm a b

-- the kind of a column is that of its name
pub kind_of_column : (name : List ℕ) (columns : List Column) → value_named name (column_kinds columns) ≡ kind_named name columns
kind_of_column name [] = refl
kind_of_column name (c ∷ cs) =
    ap (λ b. if b then Some c.kind else value_named name (column_kinds cs)) (same_either name c.name)
    ∙ ap (λ k. if bytes_eq c.name name then Some c.kind else k) (kind_of_column name cs)

-- the kinds of the columns of a name's table
pub kinds_of_table : (name : List ℕ) (tables : List TableDecl) → value_named name (table_kinds tables) ≡ option_map (λ (x : TableDecl). column_kinds x.columns) (table_named name tables)
kinds_of_table name [] = refl
kinds_of_table name (t ∷ ts) =
    ap (λ b. if b then Some (column_kinds t.columns) else value_named name (table_kinds ts)) (same_either name t.name)
    ∙ by (bytes_eq t.name name) (kinds_of_table name ts)
  where
    by : (b : Bool) → value_named name (table_kinds ts) ≡ option_map (λ (x : TableDecl). column_kinds x.columns) (table_named name ts)
        → (if b then Some (column_kinds t.columns) else value_named name (table_kinds ts)) ≡ option_map (λ (x : TableDecl). column_kinds x.columns) (if b then Some t else table_named name ts)
    by true ih = refl
    by false ih = ih

-- what is found of a table, and then of a column
pub kind_found : (column : List ℕ) (table : Option TableDecl) (found : Option (List (List ℕ × Kind))) → found ≡ option_map (λ (x : TableDecl). column_kinds x.columns) table → kind_in_kinds column found ≡ kind_of_table column table
kind_found column None found e = ap (λ o. kind_in_kinds column o) e
kind_found column (Some t) found e = ap (λ o. kind_in_kinds column o) e ∙ kind_of_column column t.columns

-- a name stands among names where it has a value
pub stands_valued : {V : Type 0} (name : List ℕ) (es : List (List ℕ × V)) → stands name (map (λ (x : List ℕ × V). x.0) es) ≡ is_some (value_named name es)
stands_valued name [] = refl
stands_valued {V} name (e ∷ es) = by (bytes_eq name e.0) (stands_valued name es)
  where
    by : (b : Bool) → stands name (map (λ (x : List ℕ × V). x.0) es) ≡ is_some (value_named name es)
        → (b || stands name (map (λ (x : List ℕ × V). x.0) es)) ≡ is_some (if b then Some e.1 else value_named name es)
    by true ih = refl
    by false ih = ih

-- the names of columns with their kinds are the names of the columns
pub names_of_kinds : (columns : List Column) → map (λ (x : List ℕ × Kind). x.0) (column_kinds columns) ≡ column_names columns
names_of_kinds [] = refl
names_of_kinds (c ∷ cs) = ap (λ l. c.name ∷ l) (names_of_kinds cs)

-- the same of tables
pub names_of_tables : (tables : List TableDecl) → map (λ (x : List ℕ × List (List ℕ × Kind)). x.0) (table_kinds tables) ≡ table_names tables
names_of_tables [] = refl
names_of_tables (t ∷ ts) = ap (λ l. t.name ∷ l) (names_of_tables ts)

-- a column's name stands among those of columns where it has a kind
pub stands_column : (name : List ℕ) (columns : List Column) → is_some (value_named name (column_kinds columns)) ≡ stands name (column_names columns)
stands_column name columns = sym (stands_valued name (column_kinds columns)) ∙ ap (λ l. stands name l) (names_of_kinds columns)

-- the same of a table
pub stands_table : (name : List ℕ) (tables : List TableDecl) → is_some (value_named name (table_kinds tables)) ≡ stands name (table_names tables)
stands_table name tables = sym (stands_valued name (table_kinds tables)) ∙ ap (λ l. stands name l) (names_of_tables tables)

-- a table stands where one of its name is found
pub stands_named : (name : List ℕ) (tables : List TableDecl) → stands name (table_names tables) ≡ is_some (table_named name tables)
stands_named name tables = sym (stands_table name tables) ∙ ap is_some (kinds_of_table name tables) ∙ some_map (table_named name tables)
  where
    some_map : (o : Option TableDecl) → is_some (option_map (λ (x : TableDecl). column_kinds x.columns) o) ≡ is_some o
    some_map None = refl
    some_map (Some t) = refl

-- a name that does not stand has no value
pub not_valued : {V : Type 0} (o : Option V) → is_some o ≡ false → o ≡ None
not_valued None e = refl
not_valued (Some v) e = absurd (cc)
