-- The command `check`: the specification, the limits of its violation queries, the tables, and then whether the facts
-- of all rows have a model.
use Rattle.std.specs.Prelude.{◌≡◌, ◌⊎◌, ℕ, List, Option, codes}
use Rattle.std.specs.List.{AllByRecursion}
use Rattle.mast_canon.specs.Conflicts.{Conflict}
use Rattle.mast_canon.specs.ConflictLaws.{IsAmong}
use Rattle.mast_canon.specs.Facts.{IsFactOf, IsOfTables}
use Rattle.mast_canon.specs.NoModels.{By, NoModel}
use Rattle.mast_canon.specs.Theories.{Theory}
use Rattle.mast_canon.specs.declared.origin.Origin.{Origin}
use Rattle.mast_canon.specs.declared.rows.RowId.{RowId}
use Rattle.mast_files.specs.Outside.{Contents}
use Rattle.mast_mapping.specs.Split.{split_maps}
use Rattle.mast_mapping.specs.declared.split_map.SplitMap.{SplitMap}
use Rattle.mast_tables.specs.declared.declaration.TableDecl.{TableDecl}
use Rattle.mast_tables.specs.Rows.{Row}
use Rattle.mast_write.specs.ConflictLines.{IsConflictText}
use Rattle.mast_cli.specs.declared.status.Status.{Status}
use Rattle.mast_cli.specs.declared.status.Status.TheVariants as st
use Rattle.mast_cli.specs.FirstEvent.{Trail, Then}
use Rattle.mast_cli.specs.stage.Closures.{LimitedStages}
use Rattle.mast_cli.specs.stage.Restrictions.{Documents, Files, theory_in}
use Rattle.mast_cli.specs.stage.Tables.{TablesStages}

-- what the stages read: documents, and the rows of their tables
abbrev pub Loaded : Type 0
Loaded = Documents × List (List Row)

-- the stages: the specification, the limits of its violation queries, and then each declared table, in order
abbrev pub CheckStages : Contents → Files → Trail → Option Loaded → Type 0
CheckStages contents files =
    Then (LimitedStages contents files) (λ documents. TablesStages contents documents.mappings.tables)

module _ (theory : Theory) (decls : List TableDecl) (maps : List SplitMap) (tables : List (List Row)) where
  -- NoModel(Facts(All))
  abbrev pub HaveNoModel : Type 0
  HaveNoModel = NoModel theory (IsFactOf decls tables maps (IsOfTables tables))

  -- Conflict, and the text of a conflict among all rows, with an origin whose clause holds of the facts of its rows;
  -- which one of these it is, is left open
  pub record PrintsConflict (status : Status) (text : List ℕ) : Type 0 where
    pub conflicts : status ≡ st.Conflict
    pub origin : Origin
    pub rows : List RowId
    pub among : AllByRecursion (IsOfTables tables) rows
    pub conflict : Conflict theory decls tables maps (IsAmong rows)
    pub by : By theory (IsFactOf decls tables maps (IsAmong rows)) origin
    pub is : IsConflictText origin decls rows text

-- the text of tables whose facts have a model
abbrev pub consistent : List ℕ
consistent = codes "consistent\n"

-- the text of a conflict where the facts of all rows have no model, and otherwise `consistent`
abbrev pub TellsWhether : Theory → List TableDecl → List SplitMap → List (List Row) → Status → List ℕ → Type 0
TellsWhether theory decls maps tables status text =
    (HaveNoModel theory decls maps tables × PrintsConflict theory decls maps tables status text)
    ⊎ ((HaveNoModel theory decls maps tables → ⊥) × (status ≡ st.Done) × (text ≡ consistent))

-- that of documents and the rows of their tables
abbrev pub PrintsChecked : Loaded → Status → List ℕ → Type 0
PrintsChecked read status text =
    let mappings = read.0.mappings in
    TellsWhether (theory_in read.0) mappings.tables (split_maps mappings.maps) read.1 status text
