-- Look-ups by name, and what columns, tables and outputs mean by them.
use Rattle.std.proofs.Common.{◌≡◌, inl, inr, ℕ, ◌+◌, ◌<◌, Bool, true, false, List, [], ◌∷◌, get_or, drop, length, refl, ap, sym, ◌∙◌}
use Rattle.std.specs.Prelude.{Option, Some, None, if◌then◌else◌, string_bytes}
use Rattle.std.specs.Option.{option_map}
use Rattle.std.specs.Str.{bytes_eq}
use Rattle.std.specs.Map.{lookup}
use Rattle.std.specs.String.{string_eq}
use Rattle.std.specs.declared.string.String.{String}
use Rattle.std.specs.Cmp.Lexicographic.{nat_list_eq_equiv}
use Rattle.std.proofs.lemmas.Bool.{cases_Bool}
use Rattle.std.proofs.lemmas.List.{drop_more}
use Rattle.indexmap.specs.IndexMap.{insert_entry}
use Rattle.mast_terms.proofs.OrderLemmas.{text_equality_test}
use Rattle.mast_sql.specs.declared.query.FromEntry.{FromEntry}
use Rattle.mast_sql.specs.declared.query.SelectItem.{SelectItem}
use Rattle.mast_tables.specs.declared.declaration.Column.{Column}
use Rattle.mast_tables.specs.declared.declaration.TableDecl.{TableDecl}
use Rattle.mast_mapping.specs.Columns.{Meaning, table_named, column_named, column_of_table, item_named, meaning_of, meaning_of_item}
use Rattle.mast_unfold.specs.declared.by_name.ByName.{ByName}
use Rattle.mast_unfold.specs.declared.columns.Numbered.{Numbered}
use Rattle.mast_unfold.specs.declared.columns.Place.{Place}
use Rattle.mast_unfold.specs.inside.Lookups.{named, renamed, numbered, AreColumns, column_of, column_by, noted_place, place_of, meant}

-- names are compared either way
same_either : (a b : List ℕ) → bytes_eq a b ≡ bytes_eq b a
same_either a b = nat_list_eq_equiv.symm a b

put_there : {V : Type 0} (a b : Bool) (v w : V) (rest : Option V) → a ≡ b → (if b then Some v else rest) ≡ (if a then Some v else (if b then Some w else rest))
put_there true b v w rest e = ap (λ k. if k then Some v else rest) (sym e)
put_there {V} false b v w rest e = let f : b ≡ false = sym e in rw f refl

put_later : {V : Type 0} (a b : Bool) (v w : V) (rest later : Option V) → (a ≡ true → b ≡ true → ⊥) → later ≡ (if a then Some v else rest) → (if b then Some w else later) ≡ (if a then Some v else (if b then Some w else rest))
put_later true true v w rest later apart e = absurd (apart refl refl)
put_later true false v w rest later apart e = e
put_later false true v w rest later apart e = refl
put_later false false v w rest later apart e = e

-- what a map has of a name after an entry was put
pub lookup_put : {Z V : Type 0} (k : String Z) (v : V) (es : List (String Z × V)) (q : List ℕ)
    → lookup (λ s. bytes_eq q (string_bytes s)) (insert_entry string_eq es k v) ≡ (if bytes_eq q (string_bytes k) then Some v else lookup (λ s. bytes_eq q (string_bytes s)) es)
lookup_put k v [] q = refl
lookup_put {Z} {V} k v (e ∷ es) q = elim (cases_Bool (bytes_eq (string_bytes k) (string_bytes e.0))) [
  | inl g ↦ rw g (put_there (bytes_eq q (string_bytes k)) (bytes_eq q (string_bytes e.0)) v e.1 (lookup (λ s. bytes_eq q (string_bytes s)) es)
      (ap (bytes_eq q) ((text_equality_test (string_bytes k) (string_bytes e.0)).0 g)))
  | inr g ↦ rw g (put_later (bytes_eq q (string_bytes k)) (bytes_eq q (string_bytes e.0)) v e.1 (lookup (λ s. bytes_eq q (string_bytes s)) es) (lookup (λ s. bytes_eq q (string_bytes s)) (insert_entry string_eq es k v))
      (λ a b. apart g a b) (lookup_put k v es q))
]
  where
    apart : bytes_eq (string_bytes k) (string_bytes e.0) ≡ false → bytes_eq q (string_bytes k) ≡ true → bytes_eq q (string_bytes e.0) ≡ true → ⊥
    apart g a b =
        let same : string_bytes k ≡ string_bytes e.0 = sym ((text_equality_test q (string_bytes k)).0 a) ∙ (text_equality_test q (string_bytes e.0)).0 b in
        let yes : bytes_eq (string_bytes k) (string_bytes e.0) ≡ true = (text_equality_test (string_bytes k) (string_bytes e.0)).1 same in
        cc

-- the list from a place on begins with what stands there
front : {X Y : Type 0} (F : List X → Y) (xs : List X) (i : ℕ) (x : X) → i < length xs → x ≡ get_or xs i x → F (x ∷ drop (i + 1) xs) ≡ F (drop i xs)
front {X} F xs i x lt is = ap F (ap (λ y. y ∷ drop (i + 1) xs) is ∙ sym (drop_more xs i x lt))

column_step : (entry i : ℕ) (name : List ℕ) (c : Column) (rest : List Column) (old : Option Numbered) (b d : Bool) → b ≡ d → option_map (numbered entry) old ≡ column_named name entry (i + 1) rest
    → option_map (numbered entry) (if b then Some (record { number = i; kind = c.kind }) else old) ≡ (if d then Some (record { entry = entry; column = i; kind = c.kind }) else column_named name entry (i + 1) rest)
column_step entry i name c rest old b true e f = rw e refl
column_step entry i name c rest old b false e f = rw e f

-- the columns from one on, where that one was put before the others
pub columns_step : (columns : List Column) (i : ℕ) (c : Column) (old new : ByName Numbered) → i < length columns → c ≡ get_or columns i c
    → ((name : List ℕ) (entry : ℕ) → option_map (numbered entry) (named old name) ≡ column_named name entry (i + 1) (drop (i + 1) columns))
    → ((name : List ℕ) → named new name ≡ renamed old c.name (record { number = i; kind = c.kind }) name)
    → (name : List ℕ) (entry : ℕ) → option_map (numbered entry) (named new name) ≡ column_named name entry i (drop i columns)
columns_step columns i c old new lt is before put name entry =
    ap (option_map (numbered entry)) (put name)
    ∙ column_step entry i name c (drop (i + 1) columns) (named old name) (bytes_eq name c.name) (bytes_eq c.name name) (same_either name c.name) (before name entry)
    ∙ front (column_named name entry i) columns i c lt is

table_step : (entry : ℕ) (name : List ℕ) (d : TableDecl) (columns : ByName Numbered) (old : Option (ByName Numbered)) (rest : Option TableDecl) (b c : Bool) → b ≡ c
    → option_map (numbered entry) (named columns name) ≡ column_named name entry 0 d.columns
    → column_of entry name old ≡ column_of_table name entry rest
    → column_of entry name (if b then Some columns else old) ≡ column_of_table name entry (if c then Some d else rest)
table_step entry name d columns old rest b true e f g = rw e f
table_step entry name d columns old rest b false e f g = rw e g

-- the tables from one on, where that one was put before the others
pub tables_step : (decls : List TableDecl) (i : ℕ) (d : TableDecl) (columns : ByName Numbered) (old new : ByName (ByName Numbered)) → i < length decls → d ≡ get_or decls i d
    → AreColumns d.columns columns
    → ((table name : List ℕ) (entry : ℕ) → column_by old table name entry ≡ column_of_table name entry (table_named table (drop (i + 1) decls)))
    → ((name : List ℕ) → named new name ≡ renamed old d.name columns name)
    → (table name : List ℕ) (entry : ℕ) → column_by new table name entry ≡ column_of_table name entry (table_named table (drop i decls))
tables_step decls i d columns old new lt is are before put table name entry =
    ap (column_of entry name) (put table)
    ∙ table_step entry name d columns (named old table) (table_named table (drop (i + 1) decls)) (bytes_eq table d.name) (bytes_eq d.name table) (same_either table d.name) (are name entry) (before table name entry)
    ∙ front (λ (ds : List TableDecl). column_of_table name entry (table_named table ds)) decls i d lt is

-- the place of what is meant is known
pub place_meant : (p : Option Place) (m : Option Meaning) → option_map meant p ≡ m → p ≡ option_map place_of m
place_meant None m e = ap (option_map place_of) e
place_meant (Some p) m e = ap (option_map place_of) e

output_step : (decls : List TableDecl) (from : List FromEntry) (item : SelectItem) (place : Option Place) (old : Option (Option Place)) (rest : Option SelectItem) (b c : Bool) → b ≡ c
    → option_map meant place ≡ meaning_of decls from item.alias item.column
    → noted_place old ≡ option_map place_of (meaning_of_item decls from rest)
    → noted_place (if b then Some place else old) ≡ option_map place_of (meaning_of_item decls from (if c then Some item else rest))
output_step decls from item place old rest b true e f g = rw e (place_meant place (meaning_of decls from item.alias item.column) f)
output_step decls from item place old rest b false e f g = rw e g

-- the outputs from one on, where that one was put before the others
pub outputs_step : (decls : List TableDecl) (from : List FromEntry) (items : List SelectItem) (i : ℕ) (item : SelectItem) (place : Option Place) (old new : ByName (Option Place)) → i < length items → item ≡ get_or items i item
    → option_map meant place ≡ meaning_of decls from item.alias item.column
    → ((name : List ℕ) → noted_place (named old name) ≡ option_map place_of (meaning_of_item decls from (item_named name (drop (i + 1) items))))
    → ((name : List ℕ) → named new name ≡ renamed old item.output place name)
    → (name : List ℕ) → noted_place (named new name) ≡ option_map place_of (meaning_of_item decls from (item_named name (drop i items)))
outputs_step decls from items i item place old new lt is means before put name =
    ap noted_place (put name)
    ∙ output_step decls from item place (named old name) (item_named name (drop (i + 1) items)) (bytes_eq name item.output) (bytes_eq item.output name) (same_either name item.output) means (before name)
    ∙ front (λ (es : List SelectItem). option_map place_of (meaning_of_item decls from (item_named name es))) items i item lt is
