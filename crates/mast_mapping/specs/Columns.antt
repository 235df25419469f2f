-- What the columns and the outputs of a source query mean, by the declared tables.
use Rattle.std.specs.Prelude.{ℕ, ◌+◌, Bool, true, if◌then◌else◌, List, [], ◌∷◌, ◌++◌, Option, Some, None}
use Rattle.std.specs.Option.{option_to_list}
use Rattle.std.specs.Str.{bytes_eq}
use Rattle.mast_terms.specs.declared.value.Kind.{Kind}
use Rattle.mast_sql.specs.declared.query.FromEntry.{FromEntry}
use Rattle.mast_sql.specs.declared.query.SelectItem.{SelectItem}
use Rattle.mast_sql.specs.declared.query.SourceQuery.{SourceQuery}
use Rattle.mast_tables.specs.declared.declaration.Column.{Column}
use Rattle.mast_tables.specs.declared.declaration.TableDecl.{TableDecl}

-- a column of the table of an entry: the number of the entry and that of the column in its table, both from 0, and the column's kind
pub record Meaning : Type 0 where
  pub entry : ℕ
  pub column : ℕ
  pub kind : Kind

-- the table of this name
abbrev pub table_named : List ℕ → List TableDecl → Option TableDecl
table_named name [] = None
table_named name (table ∷ tables) = if bytes_eq table.name name then Some table else table_named name tables

-- the column of this name among those of an entry's table, which are numbered from here on
abbrev pub column_named : List ℕ → ℕ → ℕ → List Column → Option Meaning
column_named name entry number [] = None
column_named name entry number (column ∷ columns) =
    if bytes_eq column.name name then Some (record { entry = entry; column = number; kind = column.kind })
    else column_named name entry (number + 1) columns

-- the column of this name in the table of an entry, if there is one
abbrev pub column_of_table : List ℕ → ℕ → Option TableDecl → Option Meaning
column_of_table name entry None = None
column_of_table name entry (Some table) = column_named name entry 0 table.columns

-- a column with an alias is of the entry with that alias, and a bare one of any entry
abbrev pub is_alias : Option (List ℕ) → List ℕ → Bool
is_alias None alias = true
is_alias (Some wanted) alias = bytes_eq alias wanted

-- the columns of this name in the tables of these entries, which are numbered from here on
abbrev pub meanings : List TableDecl → Option (List ℕ) → List ℕ → ℕ → List FromEntry → List Meaning
meanings tables alias name number [] = []
meanings tables alias name number (entry ∷ entries) =
    (if is_alias alias entry.alias then option_to_list (column_of_table name number (table_named entry.table tables)) else [])
    ++ meanings tables alias name (number + 1) entries

-- the only one of a list
abbrev pub only : {A : Type 0} → List A → Option A
only [] = None
only (one ∷ []) = Some one
only (one ∷ (other ∷ more)) = None

-- what a column means over these entries: none where no entry has it, or two have
abbrev pub meaning_of : List TableDecl → List FromEntry → Option (List ℕ) → List ℕ → Option Meaning
meaning_of tables entries alias name = only (meanings tables alias name 0 entries)

-- the item that goes out under this name
abbrev pub item_named : List ℕ → List SelectItem → Option SelectItem
item_named name [] = None
item_named name (item ∷ items) = if bytes_eq item.output name then Some item else item_named name items

-- what an item means over these entries, if there is one
abbrev pub meaning_of_item : List TableDecl → List FromEntry → Option SelectItem → Option Meaning
meaning_of_item tables entries None = None
meaning_of_item tables entries (Some item) = meaning_of tables entries item.alias item.column

-- what an output of a source query means
abbrev pub meaning_of_output : List TableDecl → SourceQuery → List ℕ → Option Meaning
meaning_of_output tables query name = meaning_of_item tables query.from (item_named name query.items)
