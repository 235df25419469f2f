-- The lines of facts, by split mappings and choices.
use Rattle.std.specs.Prelude.{◌≡◌, ◌↔◌, ℕ, List, ◌++◌, Some}
use Rattle.std.specs.List.{filter_map}
use Rattle.mast_canon.specs.Choices.{Meets, chosen}
use Rattle.mast_canon.specs.Conditions.{SplitInRange, SplitOverTables, TablesHaveNumbers}
use Rattle.mast_canon.specs.declared.rows.Tables.{Tables}
use Rattle.mast_canon.specs.declared.spec.Spec.{Spec}
use Rattle.mast_cq.specs.Queries.{In}
use Rattle.mast_mapping.specs.declared.split_map.SplitMap.{SplitMap}
use Rattle.mast_tables.specs.declared.declaration.TableDecl.{TableDecl}
use Rattle.mast_tables.specs.Rows.{Row}
use Rattle.mast_terms.specs.Vocabularies.{Lists}
use Rattle.mast_write.specs.FactPlans.{Planned, chosen_line, line_of}
use Rattle.mast_write.specs.LineText.{AreSame, IsTextOf, StandsIn}
use Rattle.mast_write.specs.Written.{Written}

-- split mappings over tables, with names of the vocabulary
pub record AreMaps (vocab : Lists) (tables : List TableDecl) (maps : List SplitMap) : Type 0 where
  pub named : SplitInRange vocab maps
  pub over : SplitOverTables tables maps
  pub numbered : TablesHaveNumbers tables

-- the line of the fact that some choice gives by this split mapping
pub record IsMapLine (vocab : Lists) (decls : List TableDecl) (tables : List (List Row)) (map : SplitMap) (line : List ℕ)
    : Type 0 where
  pub choice : List ℕ
  pub meets : Meets decls tables map.query choice
  pub is : line_of vocab decls map (chosen decls tables map.query.from choice) ≡ Some line

-- the line of the fact that some choice gives by one of these
pub record IsLineOf (vocab : Lists) (decls : List TableDecl) (tables : List (List Row)) (maps : List SplitMap) (line : List ℕ)
    : Type 0 where
  pub map : SplitMap
  pub stands : In map maps
  pub of : IsMapLine vocab decls tables map line

-- a text of the lines of all split mappings
abbrev pub IsFactText : Spec → Tables → List ℕ → Type 0
IsFactText spec tables text = IsTextOf (IsLineOf spec.vocab spec.tables tables.list spec.maps) text

-- the lines are those of all split mappings
abbrev pub AreFactLines : Spec → Tables → Written → Type 0
AreFactLines spec tables lines = AreSame (StandsIn lines.lines) (IsLineOf spec.vocab spec.tables tables.list spec.maps)

-- some lines were added, and these are exactly the ones with P
pub record AddsLines (old new : List (List ℕ)) (P : List ℕ → Type 0) : Type 0 where
  pub more : List (List ℕ)
  pub added : new ≡ old ++ more
  pub exact : (line : List ℕ) → In line more ↔ P line

-- the lines of a split mapping were added
abbrev pub AddsMap : Spec → Tables → SplitMap → Written → Written → Type 0
AddsMap spec tables map old new = AddsLines old.lines new.lines (IsMapLine spec.vocab spec.tables tables.list map)

-- the lines of choices in order; a choice with a missing cell has none
abbrev pub lines_of : Planned → List (List Row) → List (List ℕ) → List (List ℕ)
lines_of planned tables choices = filter_map (chosen_line planned tables) choices
