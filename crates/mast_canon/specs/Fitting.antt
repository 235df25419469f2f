-- Tables that fit their declarations.
use Rattle.std.specs.Prelude.{◌≡◌, true, List, Option, Some, None}
use Rattle.std.specs.List.{AllByRecursion, AllZip}
use Rattle.mast_terms.specs.declared.value.Value.{Value}
use Rattle.mast_tables.specs.declared.declaration.Column.{Column}
use Rattle.mast_tables.specs.declared.declaration.TableDecl.{TableDecl}
use Rattle.mast_tables.specs.Rows.{Row}
use Rattle.mast_tables.specs.Whole.{value_kind}

-- a cell has its column's kind, and is missing only where the column may have missing cells
abbrev pub IsCellOf : Column → Option Value → Type 0
IsCellOf column None = column.null ≡ true
IsCellOf column (Some value) = value_kind value ≡ column.kind

-- the row has these columns
abbrev pub IsRowOf : TableDecl → Row → Type 0
IsRowOf decl row = AllZip IsCellOf decl.columns row

-- as many tables as declarations, and each has the columns of its declaration
abbrev pub Fits : List TableDecl → List (List Row) → Type 0
Fits decls tables = AllZip (λ decl rows. AllByRecursion (IsRowOf decl) rows) decls tables
