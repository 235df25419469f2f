-- Look-ups: what a name or a key has, and the columns that names of tables, columns and outputs mean.
use Rattle.std.specs.Prelude.{◌≡◌, ℕ, List, [], ◌∷◌, ◌++◌, Bool, if◌then◌else◌, Option, Some, None, string_bytes}
use Rattle.std.specs.Map.{lookup}
use Rattle.std.specs.Option.{option_map}
use Rattle.std.specs.Str.{bytes_eq}
use Rattle.indexmap.specs.IndexMap.{get}
use Rattle.mast_sql.specs.declared.query.FromEntry.{FromEntry}
use Rattle.mast_sql.specs.declared.query.SourceQuery.{SourceQuery}
use Rattle.mast_tables.specs.declared.declaration.Column.{Column}
use Rattle.mast_tables.specs.declared.declaration.TableDecl.{TableDecl}
use Rattle.mast_mapping.specs.Columns.{Meaning, table_named, column_named, column_of_table, is_alias, meaning_of_output}
use Rattle.mast_unfold.specs.declared.by_name.ByName.{ByName}
use Rattle.mast_unfold.specs.declared.columns.Numbered.{Numbered}
use Rattle.mast_unfold.specs.declared.columns.Place.{Place}
use Rattle.mast_unfold.specs.declared.groups.Groups.{Groups}
use Rattle.mast_unfold.specs.declared.outputs.Outputs.{Outputs}

module _ {K T : Type 0} (eq : K → K → Bool) where
  -- the items of a key
  abbrev pub found : Groups K T → K → List T
  found g k = elim (get eq g.map k) [ None ↦ [] | Some items ↦ items.items ]

  -- the items of a key after one was added to those of another
  abbrev pub put : Groups K T → K → T → K → List T
  put g key item k = if eq key k then found g key ++ item ∷ [] else found g k

-- what a name has
abbrev pub named : {T : Type 0} → ByName T → List ℕ → Option T
named b name = lookup (λ k. bytes_eq name (string_bytes k)) b.map.entries

-- what a name has after another got a thing
abbrev pub renamed : {T : Type 0} → ByName T → List ℕ → T → List ℕ → Option T
renamed b name thing other = if bytes_eq other name then Some thing else named b other

-- what a place means
abbrev pub meant : Place → Meaning
meant p = record { entry = p.entry; column = p.column; kind = p.kind }

-- the place of a column
abbrev pub place_of : Meaning → Place
place_of m = record { entry = m.entry; column = m.column; kind = m.kind }

-- what a numbered column means for an entry
abbrev pub numbered : ℕ → Numbered → Meaning
numbered entry c = record { entry = entry; column = c.number; kind = c.kind }

-- each name has the first column of that name
abbrev pub AreColumns : List Column → ByName Numbered → Type 0
AreColumns columns by = (name : List ℕ) (entry : ℕ) → option_map (numbered entry) (named by name) ≡ column_named name entry 0 columns

-- what a column's name means in a table, if there is one
abbrev pub column_of : ℕ → List ℕ → Option (ByName Numbered) → Option Meaning
column_of entry name None = None
column_of entry name (Some columns) = option_map (numbered entry) (named columns name)

-- what a table's and a column's name mean for an entry
abbrev pub column_by : ByName (ByName Numbered) → List ℕ → List ℕ → ℕ → Option Meaning
column_by by table name entry = column_of entry name (named by table)

-- each name of a table has the first table of that name, with its columns
abbrev pub AreTables : List TableDecl → ByName (ByName Numbered) → Type 0
AreTables decls by = (table name : List ℕ) (entry : ℕ) → column_by by table name entry ≡ column_of_table name entry (table_named table decls)

-- the column of a name in the table of an entry, where the entry may have it
abbrev pub column_in : List TableDecl → Option (List ℕ) → List ℕ → ℕ → FromEntry → Option Meaning
column_in decls alias name number entry =
    if is_alias alias entry.alias then column_of_table name number (table_named entry.table decls) else None

-- a place that is noted, if any is
abbrev pub noted_place : Option (Option Place) → Option Place
noted_place None = None
noted_place (Some place) = place

-- the place that an output has
abbrev pub place_named : Outputs → List ℕ → Option Place
place_named outputs name = noted_place (named outputs.by_name name)

-- each output has the place of the column that it means
abbrev pub AreOutputs : List TableDecl → SourceQuery → Outputs → Type 0
AreOutputs decls query outputs = (name : List ℕ) → place_named outputs name ≡ option_map place_of (meaning_of_output decls query name)
