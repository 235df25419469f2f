-- What the steps of reading a table file tell.
use Rattle.std.specs.Prelude.{◌≡◌, ◌⊎◌, ℕ, ◌+◌, ◌<◌, ◌≤◌, Bool, true, List, [], ◌++◌, Option, Some, None, IfSome, Result, Ok, Err, length}
use Rattle.csv.specs.Machine.{next_record}
use Rattle.csv.specs.Reading.{Ready, NextIs, default_config, is_flexible, reader_config, reader_state, reader_trim, records_from, source_of}
use Rattle.csv.specs.declared.error.ErrorKind.{ErrorKind}
use Rattle.csv.specs.declared.error.ErrorKind.TheVariants as error
use Rattle.csv.specs.declared.parser.State.{State}
use Rattle.csv.specs.declared.parser.State.TheVariants as st
use Rattle.csv.specs.declared.reader.Reader.{Reader}
use Rattle.csv.specs.declared.reader.Trim.TheVariants as trim
use Rattle.mast_terms.specs.Answers.{Answers}
use Rattle.mast_terms.specs.declared.memory.Stop.{Stop}
use Rattle.mast_terms.specs.declared.value.Value.{Value}
use Rattle.mast_terms.specs.declared.value.Value.TheVariants as v
use Rattle.mast_tables.specs.declared.cells.Cells.{Cells}
use Rattle.mast_tables.specs.declared.declaration.Column.{Column}
use Rattle.mast_tables.specs.declared.declaration.RowBreach.{RowBreach}
use Rattle.mast_tables.specs.declared.declaration.RowKind.{RowKind}
use Rattle.mast_tables.specs.declared.typed.Content.{Content}
use Rattle.mast_tables.specs.declared.typed.Content.TheVariants as held
use Rattle.mast_tables.specs.Breach.{IsRow, AreRows, IsWrongAt, RecordBreach, RowsBreach, TellsFile}
use Rattle.mast_tables.specs.Limits.{most_cells}
use Rattle.mast_tables.specs.Records.{Record}
use Rattle.mast_tables.specs.Rows.{Row}
use Rattle.mast_tables.specs.Typed.{IsCell, IsWrong}
use Rattle.mast_tables.specs.inside.Cells.{AreCells, cells_in, width_in}

-- a reader with the crate's defaults, of records of any width, which takes no header and trims nothing
pub record IsPlain {R : Type 0} (reader : Reader R) : Type 0 where
  pub config : reader_config reader ≡ default_config
  pub trim : reader_trim reader ≡ trim.None
  pub ready : Ready reader
  pub flexible : is_flexible reader ≡ true

-- an error of reading alone: of what the reader reads from, or want of memory
abbrev pub IsOfReading : ErrorKind → Type 0
IsOfReading (error.Io cause) = Unit {0}
IsOfReading error.OutOfMemory = Unit {0}
IsOfReading (error.UnequalLengths position expected long) = ⊥
IsOfReading (error.Utf8 position cause) = ⊥
IsOfReading (error.Serialize text) = ⊥
IsOfReading (error.Deserialize position cause) = ⊥

-- a read of the next record, where the bytes before it are known
abbrev pub HasNext : Option (List ℕ) → State → Option (List ℕ) → State → Bool → Record → Type 0
HasNext None state after state_after found fields = Unit {0}
HasNext (Some bytes) state None state_after found fields = ⊥
HasNext (Some bytes) state (Some rest) state_after found fields =
    NextIs (next_record default_config state [] [] bytes) found fields state_after rest

-- the same of a reader before and after
abbrev pub TakesNext : {R : Type 0} → (R → Option (List ℕ)) → Reader R → Reader R → Bool → Record → Type 0
TakesNext rem old new found fields =
    HasNext (source_of rem old) (reader_state old) (source_of rem new) (reader_state new) found fields

-- so many cells are read, and what is left, which is known, has no more than a table may have beside them: a byte ends
-- one cell at most, and the end of the file one more
abbrev pub LeavesRoom : ℕ → Option (List ℕ) → State → Type 0
LeavesRoom read None state = ⊥
LeavesRoom read (Some bytes) state =
    (read + length bytes < most_cells) ⊎ ((read ≤ most_cells) × (bytes ≡ []) × (state ≡ st.StartRecord))

-- the value that is held, None for a missing cell
abbrev pub value_of : Content → Option Value
value_of held.Missing = None
value_of (held.Text text) = Some (v.Text text.now)
value_of (held.Lent value) = Some value.now
value_of (held.Other value) = Some value

-- the answer on a cell: what it holds, or what is wrong with it
abbrev pub TellsCell : Column → List ℕ → Result Content RowKind → Type 0
TellsCell column cell (Ok content) = IsCell column cell (value_of content)
TellsCell column cell (Err wrong) = IsWrong column cell wrong

-- these cells came behind the others
pub record Adds (old new : Cells) (row : Row) : Type 0 where
  pub cells : AreCells new
  pub added : cells_in new ≡ cells_in old ++ row
  pub wide : width_in new ≡ width_in old

-- the answer on the cells of the record with this number
abbrev pub TellsCells : List Column → ℕ → Record → Cells → Cells → Result Unit (Stop RowBreach) → Type 0
TellsCells columns number fields old new result =
    Answers result (λ done. (row : Row) × IsRow columns fields row × Adds old new row)
    (λ breach. (breach.number ≡ number) × IsWrongAt 1 columns fields breach.column breach.kind)

-- the answer on the record with this number
abbrev pub TellsRow : List Column → ℕ → ℕ → Record → Cells → Cells → Result Unit (Stop RowBreach) → Type 0
TellsRow columns most number fields old new result =
    Answers result (λ done. (row : Row) × (number ≤ most) × IsRow columns fields row × Adds old new row)
    (λ breach. (breach.number ≡ number) × RecordBreach columns most number fields breach.column breach.kind)

-- the answer on the records behind the header
abbrev pub TellsRecords : List Column → ℕ → List Record → Result (List Row) (Stop RowBreach) → Type 0
TellsRecords columns most records result =
    Answers result (λ rows. (length records ≤ most) × AreRows columns records rows) (RowsBreach columns most 1 records)

-- the answer on what is left of a file, where it is known: so many records behind the header
abbrev pub TellsRest : List Column → ℕ → ℕ → Option (List ℕ) → State → Result (List Row) (Stop RowBreach) → Type 0
TellsRest columns most turns left state result =
    IfSome left (λ bytes. TellsRecords columns most (records_from default_config turns state bytes) result)

-- the same with the header
abbrev pub TellsAll : List Column → ℕ → ℕ → Option (List ℕ) → State → Result (List Row) (Stop RowBreach) → Type 0
TellsAll columns most turns left state result =
    IfSome left (λ bytes. TellsFile columns most (records_from default_config (turns + 1) state bytes) result)
