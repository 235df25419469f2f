-- The words of the laws of facts and supports.
use Rattle.std.specs.Prelude.{◌≡◌, ◌↔◌, ℕ, List, Bool, true}
use Rattle.std.specs.List.{AllByRecursion}
use Rattle.mast_terms.specs.declared.term.Term.{Term}
use Rattle.mast_cq.specs.Meanings.{Fact}
use Rattle.mast_mapping.specs.declared.map.Map.{Map}
use Rattle.mast_mapping.specs.declared.split_map.SplitMap.{SplitMap}
use Rattle.mast_mapping.specs.Split.{split_maps}
use Rattle.mast_sql.specs.declared.query.SourceQuery.{SourceQuery}
use Rattle.mast_tables.specs.declared.declaration.TableDecl.{TableDecl}
use Rattle.mast_tables.specs.Rows.{Row}
use Rattle.mast_canon.specs.declared.rows.RowId.{RowId}
use Rattle.mast_canon.specs.Choices.{IsChoice}
use Rattle.mast_canon.specs.Facts.{IsSupport, IsSupportByMaps, IsFactOf, IsOfTables, chosen_rows}

-- rows are a support of a fact by mappings exactly where they are one by their split mappings
abbrev pub SplitKeepsSupports : Type 0
SplitKeepsSupports =
    (decls : List TableDecl) (tables : List (List Row)) (maps : List Map) (fact : Fact Term) (rows : List RowId)
    → IsSupportByMaps decls tables maps fact rows ↔ IsSupport decls tables (split_maps maps) fact rows

-- a set of rows, given by a test
abbrev pub Passing : (RowId → Bool) → RowId → Type 0
Passing test row = test row ≡ true

-- where one set of rows lies within another, each fact of the one is a fact of the other
abbrev pub FactsGrow : Type 0
FactsGrow =
    (decls : List TableDecl) (tables : List (List Row)) (maps : List SplitMap) (small large : RowId → Bool) (fact : Fact Term)
    → ((row : RowId) → Passing small row → Passing large row)
    → IsFactOf decls tables maps (Passing small) fact → IsFactOf decls tables maps (Passing large) fact

-- the rows of a choice are rows of the tables
abbrev pub ChoicesLieInTables : Type 0
ChoicesLieInTables =
    (decls : List TableDecl) (tables : List (List Row)) (query : SourceQuery) (choice : List ℕ)
    → IsChoice decls tables query choice → AllByRecursion (IsOfTables tables) (chosen_rows decls query.from choice)

-- so a fact with a support is a fact of the tables
abbrev pub SupportsLieInTables : Type 0
SupportsLieInTables =
    (decls : List TableDecl) (tables : List (List Row)) (maps : List SplitMap) (fact : Fact Term) (rows : List RowId)
    → IsSupport decls tables maps fact rows → AllByRecursion (IsOfTables tables) rows
