-- Indices by name: what they show, and what they find.
use Rattle.std.specs.Prelude.{ℕ, if◌then◌else◌, List, [], ◌∷◌, Option, Some, None, map, string_bytes}
use Rattle.std.specs.Str.{bytes_eq}
use Rattle.std.specs.declared.string.String.{String}
use Rattle.mast_terms.specs.declared.value.Kind.{Kind}
use Rattle.mast_tables.specs.declared.declaration.Column.{Column}
use Rattle.mast_tables.specs.declared.declaration.TableDecl.{TableDecl}

-- the entries of a map by the bytes of their names
abbrev pub shown : {Z V : Type 0} → List (String Z × V) → List (List ℕ × V)
shown entries = map (λ e. (string_bytes e.0, e.1)) entries

-- the value of a name
abbrev pub value_named : {V : Type 0} → List ℕ → List (List ℕ × V) → Option V
value_named name [] = None
value_named name (e ∷ es) = if bytes_eq name e.0 then Some e.1 else value_named name es

-- the kind of a column among these, if there are any
abbrev pub kind_in_kinds : List ℕ → Option (List (List ℕ × Kind)) → Option Kind
kind_in_kinds column None = None
kind_in_kinds column (Some kinds) = value_named column kinds

-- the names of columns with their kinds
abbrev pub column_kinds : List Column → List (List ℕ × Kind)
column_kinds columns = map (λ column. (column.name, column.kind)) columns

-- the names of tables with the kinds of their columns
abbrev pub table_kinds : List TableDecl → List (List ℕ × List (List ℕ × Kind))
table_kinds tables = map (λ table. (table.name, column_kinds table.columns)) tables
