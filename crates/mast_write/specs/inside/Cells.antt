-- The cells that outputs of source queries mean.
use Rattle.std.specs.Prelude.{◌≡◌, ◌+◌, ◌≤◌, List, Option, Some, None, length, slice_get}
use Rattle.mast_canon.specs.Choices.{table_number}
use Rattle.mast_mapping.specs.Columns.{Meaning}
use Rattle.mast_sql.specs.declared.query.FromEntry.{FromEntry}
use Rattle.mast_tables.specs.declared.declaration.TableDecl.{TableDecl}
use Rattle.mast_write.specs.declared.cells.CellPlace.{CellPlace}

-- the place of a column that is meant
abbrev pub IsPlaceOf : Option Meaning → CellPlace → Type 0
IsPlaceOf None place = ⊥
IsPlaceOf (Some m) place = (place.entry ≡ m.entry) × (place.column ≡ m.column + 1)

-- the place is that of a column of the table of an entry
pub record IsPlaceOver (tables : List TableDecl) (entries : List FromEntry) (place : CellPlace) : Type 0 where
  pub entry : FromEntry
  pub stands : slice_get entries place.entry ≡ Some entry
  pub number : place.table ≡ table_number entry.table tables
  pub table : TableDecl
  pub declared : slice_get tables place.table ≡ Some table
  pub from : 1 ≤ place.column
  pub to : place.column ≤ length table.columns
