-- The kinds of the columns of a name are those of what the name means.
use Rattle.std.proofs.Common.{◌≡◌, ℕ, ◌+◌, Bool, true, false, if◌then◌else◌, List, [], ◌∷◌, ◌++◌, map, refl, ap, ◌∙◌}
use Rattle.std.specs.Prelude.{Option, Some, None}
use Rattle.std.specs.Option.{option_map, option_to_list}
use Rattle.std.specs.Str.{bytes_eq}
use Rattle.mast_terms.specs.declared.value.Kind.{Kind}
use Rattle.mast_sql.specs.declared.query.FromEntry.{FromEntry}
use Rattle.mast_tables.specs.declared.declaration.Column.{Column}
use Rattle.mast_tables.specs.declared.declaration.TableDecl.{TableDecl}
use Rattle.mast_mapping.specs.Columns.{Meaning, table_named, column_named, column_of_table, is_alias, meanings, only, meaning_of}
use Rattle.mast_mapping.specs.inside.Kinds.{kind_named, kind_of_table, kinds}

kind_chosen : (is : Bool) (m : Meaning) (o : Option Meaning) (k : Option Kind) → option_map (λ (m : Meaning). m.kind) o ≡ k → option_map (λ (m : Meaning). m.kind) (if is then Some m else o) ≡ (if is then Some m.kind else k)
kind_chosen true m o k h = refl
kind_chosen false m o k h = h

of_columns : (name : List ℕ) (entry number : ℕ) (columns : List Column) → option_map (λ (m : Meaning). m.kind) (column_named name entry number columns) ≡ kind_named name columns
of_columns name entry number [] = refl
of_columns name entry number (c ∷ cs) = kind_chosen (bytes_eq c.name name) (record { entry = entry; column = number; kind = c.kind }) (column_named name entry (number + 1) cs) (kind_named name cs) (of_columns name entry (number + 1) cs)

of_table : (name : List ℕ) (entry : ℕ) (table : Option TableDecl) → option_map (λ (m : Meaning). m.kind) (column_of_table name entry table) ≡ kind_of_table name table
of_table name entry None = refl
of_table name entry (Some table) = of_columns name entry 0 table.columns

put_first : (o : Option Meaning) (k : Option Kind) (ms : List Meaning) (ks : List Kind) → option_map (λ (m : Meaning). m.kind) o ≡ k → map (λ (m : Meaning). m.kind) ms ≡ ks → map (λ (m : Meaning). m.kind) (option_to_list o ++ ms) ≡ option_to_list k ++ ks
put_first None k ms ks h e = e ∙ ap (λ (o : Option Kind). option_to_list o ++ ks) h
put_first (Some m) k ms ks h e = ap (λ (l : List Kind). m.kind ∷ l) e ∙ ap (λ (o : Option Kind). option_to_list o ++ ks) h

put_where : (is : Bool) (o : Option Meaning) (k : Option Kind) (ms : List Meaning) (ks : List Kind) → option_map (λ (m : Meaning). m.kind) o ≡ k → map (λ (m : Meaning). m.kind) ms ≡ ks → map (λ (m : Meaning). m.kind) ((if is then option_to_list o else []) ++ ms) ≡ option_to_list (if is then k else None) ++ ks
put_where true o k ms ks h e = put_first o k ms ks h e
put_where false o k ms ks h e = e

of_entries : (tables : List TableDecl) (alias : Option (List ℕ)) (name : List ℕ) (number : ℕ) (entries : List FromEntry) → map (λ (m : Meaning). m.kind) (meanings tables alias name number entries) ≡ kinds tables alias name entries
of_entries tables alias name number [] = refl
of_entries tables alias name number (e ∷ es) = put_where (is_alias alias e.alias) (column_of_table name number (table_named e.table tables)) (kind_of_table name (table_named e.table tables)) (meanings tables alias name (number + 1) es) (kinds tables alias name es) (of_table name number (table_named e.table tables)) (of_entries tables alias name (number + 1) es)

of_only : (ms : List Meaning) → option_map (λ (m : Meaning). m.kind) (only ms) ≡ only (map (λ (m : Meaning). m.kind) ms)
of_only [] = refl
of_only (m ∷ []) = refl
of_only (m ∷ (n ∷ ms)) = refl

-- the kind of what a name means is the only one among its kinds
pub kind_of_meaning : (tables : List TableDecl) (entries : List FromEntry) (alias : Option (List ℕ)) (name : List ℕ) → option_map (λ (m : Meaning). m.kind) (meaning_of tables entries alias name) ≡ only (kinds tables alias name entries)
kind_of_meaning tables entries alias name = of_only (meanings tables alias name 0 entries) ∙ ap only (of_entries tables alias name 0 entries)
