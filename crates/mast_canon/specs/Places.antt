-- Places of columns, as the code holds them.
use Rattle.std.specs.Prelude.{ℕ, if◌then◌else◌, List, Option, None}
use Rattle.mast_sql.specs.declared.query.FromEntry.{FromEntry}
use Rattle.mast_tables.specs.declared.declaration.TableDecl.{TableDecl}
use Rattle.mast_mapping.specs.Columns.{Meaning, table_named, column_of_table, is_alias}
use Rattle.mast_canon.specs.declared.columns.Place.{Place}

-- what a place means
abbrev pub meaning : Place → Meaning
meaning p = record { entry = p.entry; column = p.column; kind = p.kind }

-- the column of a name in the table of an entry, where the entry may have it
abbrev pub column_in : List TableDecl → Option (List ℕ) → List ℕ → ℕ → FromEntry → Option Meaning
column_in decls alias name number entry =
    if is_alias alias entry.alias then column_of_table name number (table_named entry.table decls) else None
