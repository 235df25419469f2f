-- Tables that are loaded for a declaration.
use Rattle.std.specs.Prelude.{◌<◌, List, length}
use Rattle.std.specs.List.{AllByRecursion}
use Rattle.mast_tables.specs.declared.declaration.TableDecl.{TableDecl}
use Rattle.mast_tables.specs.Rows.{Row}
use Rattle.mast_canon.specs.Fitting.{IsRowOf}

-- the rows have the declared columns, which are few
pub record AreLoaded (decl : TableDecl) (rows : List Row) : Type 0 where
  pub fit : AllByRecursion (IsRowOf decl) rows
  pub few : length decl.columns < 100
