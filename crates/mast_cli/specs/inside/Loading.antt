-- What the loading of tables tells.
use Rattle.std.specs.Prelude.{◌≡◌, ◌<◌, ◌-◌, ℕ, List, length}
use Rattle.mast_files.specs.Outside.{Contents, Reading}
use Rattle.mast_tables.specs.declared.declaration.RowBreach.{RowBreach}
use Rattle.mast_tables.specs.declared.declaration.TableDecl.{TableDecl}
use Rattle.mast_tables.specs.Breach.{HasRows, HasBreach}
use Rattle.mast_tables.specs.Records.{records_of}
use Rattle.mast_tables.specs.Rows.{Row}
use Rattle.mast_write.specs.declared.refusals.Refusal.{Refusal}
use Rattle.mast_write.specs.declared.refusals.Refusal.TheVariants as refusal
use Rattle.mast_cli.specs.declared.judged.Part.{Part}
use Rattle.mast_cli.specs.declared.judged.Part.TheVariants as part
use Rattle.mast_cli.specs.declared.tables.Left.{Left}
use Rattle.mast_cli.specs.inside.Telling.{AtEvent, Ends, TellsBytes, TellsPart}
use Rattle.mast_cli.specs.stage.Tables.{TableEvent, IsTable, TablesStages}

-- columns are numbered, so there are fewer than 4,294,967,295
abbrev pub IsNumbered : TableDecl → Type 0
IsNumbered table = length table.columns < 4294967295

-- the first breach of a table's bytes
abbrev pub RecordsEvent : ℕ → TableDecl → List ℕ → Refusal → Type 0
RecordsEvent rows table bytes event =
    (breach : RowBreach)
    × HasBreach table.columns rows (records_of bytes) breach × (event ≡ refusal.Table table.name breach)

-- the table of bytes, where so many rows are left
abbrev pub TellsLoaded : ℕ → TableDecl → List ℕ → Part (List Row) → Type 0
TellsLoaded rows table bytes what =
    TellsBytes (HasRows table.columns rows (records_of bytes)) (RecordsEvent rows table bytes) what

-- what a table of these bytes leaves of the limits
abbrev pub Leaves : List ℕ → List Row → Left → Left → Type 0
Leaves content loaded old new = (new.bytes ≡ old.bytes - length content) × (new.rows ≡ old.rows - length loaded)

-- the table of a file, where so much is left; it leaves so much
abbrev pub TellsTable : Left → Left → TableDecl → Reading → Contents → Part (List Row) → Type 0
TellsTable old new table reading contents (part.Read loaded) =
    let content = contents table.file in
    IsTable old.bytes old.rows table content loaded × Leaves content loaded old new
TellsTable old new table reading contents (part.Ended judged) =
    let content = contents table.file in
    Ends (AtEvent (TableEvent old.bytes old.rows table content)) (λ current. current ≡ table.file) reading judged

-- the tables of these declarations
abbrev pub TellsTables : List TableDecl → Reading → Contents → Part (List (List Row)) → Type 0
TellsTables tables reading contents what = TellsPart (TablesStages contents tables) reading what
