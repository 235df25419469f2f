-- Lists of choices, and the choices that a source query has over some rows.
use Rattle.std.specs.Prelude.{◌↔◌, ℕ, ◌-◌, ◌^◌, ◌<◌, length, List, Option, Some, None}
use Rattle.std.specs.List.{AllByRecursion}
use Rattle.mast_terms.specs.Vocabularies.{EachOnce}
use Rattle.mast_cq.specs.Queries.{In}
use Rattle.mast_sql.specs.declared.query.FromEntry.{FromEntry}
use Rattle.mast_sql.specs.declared.query.SourceQuery.{SourceQuery}
use Rattle.mast_tables.specs.declared.declaration.TableDecl.{TableDecl}
use Rattle.mast_tables.specs.Rows.{Row}
use Rattle.mast_canon.specs.declared.rows.RowId.{RowId}
use Rattle.mast_canon.specs.Choices.{Meets}
use Rattle.mast_canon.specs.Facts.{chosen_rows}

-- choices over so many entries
pub record ChoiceList : Type 0 where
  pub width : ℕ
  pub list : List (List ℕ)

-- where rows are given, the rows of the choice are among them
abbrev pub IsWithin : List TableDecl → List FromEntry → Option (List RowId) → List ℕ → Type 0
IsWithin decls entries None choice = Unit {0}
IsWithin decls entries (Some only) choice = AllByRecursion (λ row. In row only) (chosen_rows decls entries choice)

-- the choice meets the query, and its rows are among the given ones
pub record IsMet (decls : List TableDecl) (tables : List (List Row)) (query : SourceQuery) (only : Option (List RowId)) (choice : List ℕ) : Type 0 where
  pub meets : Meets decls tables query choice
  pub within : IsWithin decls query.from only choice

-- exactly the choices that meet the query with rows among the given ones, each once
pub record AreChoices (decls : List TableDecl) (tables : List (List Row)) (query : SourceQuery) (only : Option (List RowId)) (choices : List (List ℕ)) : Type 0 where
  pub once : EachOnce choices
  pub exact : (choice : List ℕ) → In choice choices ↔ IsMet decls tables query only choice

-- the columns of a table have numbers of 32 bits
abbrev pub AreFew : List TableDecl → Type 0
AreFew decls = AllByRecursion (λ decl. length decl.columns < 2 ^ 32 - 1) decls
