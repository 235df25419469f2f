-- The stages of the declared tables, in order. Their limits of bytes and of rows are those of all tables together.
use Rattle.std.specs.Prelude.{◌≡◌, ◌⊎◌, ◌<◌, ◌≤◌, ◌-◌, ℕ, List, [], ◌∷◌, length, Option, Some, option_map}
use Rattle.mast_files.specs.Outside.{Contents}
use Rattle.mast_tables.specs.declared.declaration.RowBreach.{RowBreach}
use Rattle.mast_tables.specs.declared.declaration.TableDecl.{TableDecl}
use Rattle.mast_tables.specs.Breach.{HasRows, HasBreach}
use Rattle.mast_tables.specs.Records.{records_of}
use Rattle.mast_tables.specs.Rows.{Row}
use Rattle.mast_write.specs.declared.refusals.Refusal.{Refusal}
use Rattle.mast_write.specs.declared.refusals.Refusal.TheVariants as refusal
use Rattle.mast_cli.specs.declared.limits.TheConstants.{TABLE_BYTES, ROWS}
use Rattle.mast_cli.specs.FirstEvent.{Trail, Reads, Then}

-- the first event of a table's file, where so many bytes and rows are left: too many bytes, or the file's breach
abbrev pub TableEvent : ℕ → ℕ → TableDecl → List ℕ → Refusal → Type 0
TableEvent bytes rows table content event =
    ((bytes < length content) × (event ≡ refusal.TableBytes table.name))
    ⊎ ((length content ≤ bytes) × (breach : RowBreach)
    × HasBreach table.columns rows (records_of content) breach × (event ≡ refusal.Table table.name breach))

-- a table's file without an event, and its rows
abbrev pub IsTable : ℕ → ℕ → TableDecl → List ℕ → List Row → Type 0
IsTable bytes rows table content loaded =
    (length content ≤ bytes) × HasRows table.columns rows (records_of content) loaded

-- the stage of a table
abbrev pub TableStage : Contents → ℕ → ℕ → TableDecl → Trail → Option (List Row) → Type 0
TableStage contents bytes rows table stages end =
    let content = contents table.file in
    Reads table.file (TableEvent bytes rows table content) (IsTable bytes rows table content) stages end

-- the first table before the others
abbrev pub in_front : Option (List Row × List (List Row)) → Option (List (List Row))
in_front end = option_map (λ both. both.0 ∷ both.1) end

-- the stages of tables, where so many bytes and rows are left: what a table takes is not left for those after it
abbrev pub StagesFrom : Contents → ℕ → ℕ → List TableDecl → Trail → Option (List (List Row)) → Type 0
StagesFrom contents bytes rows [] stages end = (stages ≡ []) × (end ≡ Some [])
StagesFrom contents bytes rows (table ∷ tables) stages end =
    (both : Option (List Row × List (List Row)))
    × Then (TableStage contents bytes rows table)
    (λ loaded. StagesFrom contents (bytes - length (contents table.file)) (rows - length loaded) tables) stages both
    × (end ≡ in_front both)

-- the stages of all declared tables
abbrev pub TablesStages : Contents → List TableDecl → Trail → Option (List (List Row)) → Type 0
TablesStages contents tables stages end = StagesFrom contents TABLE_BYTES ROWS tables stages end
