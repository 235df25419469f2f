-- The kinds of the columns of a name, without their numbers.
use Rattle.std.specs.Prelude.{ℕ, if◌then◌else◌, List, [], ◌∷◌, ◌++◌, Option, Some, None}
use Rattle.std.specs.Option.{option_to_list}
use Rattle.std.specs.Str.{bytes_eq}
use Rattle.mast_terms.specs.declared.value.Kind.{Kind}
use Rattle.mast_sql.specs.declared.query.FromEntry.{FromEntry}
use Rattle.mast_tables.specs.declared.declaration.Column.{Column}
use Rattle.mast_tables.specs.declared.declaration.TableDecl.{TableDecl}
use Rattle.mast_mapping.specs.Columns.{table_named, is_alias}

-- the kind of the column of this name
abbrev pub kind_named : List ℕ → List Column → Option Kind
kind_named name [] = None
kind_named name (column ∷ columns) = if bytes_eq column.name name then Some column.kind else kind_named name columns

-- its kind in a table, if there is one
abbrev pub kind_of_table : List ℕ → Option TableDecl → Option Kind
kind_of_table name None = None
kind_of_table name (Some table) = kind_named name table.columns

-- its kind in the table of an entry, where the entry may have it
abbrev pub kind_in : List TableDecl → Option (List ℕ) → List ℕ → FromEntry → Option Kind
kind_in tables alias name entry =
    if is_alias alias entry.alias then kind_of_table name (table_named entry.table tables) else None

-- its kinds in the tables of these entries
abbrev pub kinds : List TableDecl → Option (List ℕ) → List ℕ → List FromEntry → List Kind
kinds tables alias name [] = []
kinds tables alias name (entry ∷ entries) = option_to_list (kind_in tables alias name entry) ++ kinds tables alias name entries
