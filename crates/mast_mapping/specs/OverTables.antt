-- Maps over tables.
use Rattle.std.specs.Prelude.{◌≡◌, ℕ, List, map, None}
use Rattle.std.specs.List.{AllByRecursion}
use Rattle.std.specs.Option.{IsSome}
use Rattle.mast_terms.specs.Vocabularies.{EachOnce}
use Rattle.mast_sql.specs.declared.query.SourceQuery.{SourceQuery}
use Rattle.mast_tables.specs.declared.declaration.Column.{Column}
use Rattle.mast_tables.specs.declared.declaration.TableDecl.{TableDecl}
use Rattle.mast_mapping.specs.declared.map.Head.{Head}
use Rattle.mast_mapping.specs.declared.map.Head.TheVariants as head
use Rattle.mast_mapping.specs.declared.map.Map.{Map}
use Rattle.mast_mapping.specs.declared.map.Slot.{Slot}
use Rattle.mast_mapping.specs.declared.map.Slot.TheVariants as slot
use Rattle.mast_mapping.specs.declared.map.Template.{Template}
use Rattle.mast_mapping.specs.Columns.{meaning_of_output}
use Rattle.mast_mapping.specs.Queries.{query_breach}

-- the names of some columns
abbrev pub column_names : List Column → List (List ℕ)
column_names columns = map (λ column. column.name) columns

-- the names of some tables
abbrev pub table_names : List TableDecl → List (List ℕ)
table_names tables = map (λ table. table.name) tables

-- no two tables have one name, and no two columns of a table
pub record AreNamedApart (tables : List TableDecl) : Type 0 where
  pub tables_once : EachOnce (table_names tables)
  pub columns_once : AllByRecursion (λ table. EachOnce (column_names table.columns)) tables

-- a constant, or an output that means a column
abbrev pub IsSlotOver : List TableDecl → SourceQuery → Slot → Type 0
IsSlotOver tables query (slot.Output name) = IsSome (meaning_of_output tables query name)
IsSlotOver tables query (slot.Constant value) = Unit {0}

-- each slot of an object has a meaning
abbrev pub IsObjectOver : List TableDecl → SourceQuery → Template → Type 0
IsObjectOver tables query object = AllByRecursion (IsSlotOver tables query) object.args

-- each slot of a head has a meaning
abbrev pub IsHeadOver : List TableDecl → SourceQuery → Head → Type 0
IsHeadOver tables query (head.Class name subject) = IsObjectOver tables query subject
IsHeadOver tables query (head.Role name from to) = IsObjectOver tables query from × IsObjectOver tables query to
IsHeadOver tables query (head.Attr name from value) = IsObjectOver tables query from × IsSlotOver tables query value

-- nothing is wrong with the source query, and each slot of each head has a meaning
pub record IsOverTables (tables : List TableDecl) (query : SourceQuery) (heads : List Head) : Type 0 where
  pub right : query_breach tables query ≡ None
  pub slots : AllByRecursion (IsHeadOver tables query) heads

-- names stand once, and each map is over the tables
pub record AreOverTables (tables : List TableDecl) (maps : List Map) : Type 0 where
  pub named : AreNamedApart tables
  pub over : AllByRecursion (λ m. IsOverTables tables m.query m.heads) maps
