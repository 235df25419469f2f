-- What a run owes to the words, the files and the sink that it is lent.
use Rattle.std.specs.Prelude.{◌≡◌, ◌⊎◌, ⊤, ℕ, ◌≤◌, true, List, ◌++◌, length, Option, Some, IfSome, map, take, string_bytes, String}
use Rattle.std.specs.declared.alloc.Global.{Global}
use Rattle.mast_cli.specs.declared.status.Status.{Status}
use Rattle.mast_cli.specs.declared.status.Status.TheVariants as st
use Rattle.mast_files.specs.Outside.{Contents, Reading, Writing, Gains}
use Rattle.mast_files.specs.States.{SoundFilesState, SoundSinkState, sound_contents, sound_writing}
use Rattle.mast_files.specs.Stored.{content_of}
use Rattle.mast_write.specs.declared.refusals.Refusal.TheVariants as refusal
use Rattle.mast_write.specs.RefusalLines.{refusal_line}
use Rattle.mast_cli.specs.Outcome.{Outcome, Judges}

-- the status is neither a fault nor want of memory
abbrev pub IsAnswer : Status → Type 0
IsAnswer st.Done = ⊤
IsAnswer st.Usage = ⊤
IsAnswer st.Refused = ⊤
IsAnswer st.Conflict = ⊤
IsAnswer st.Limit = ⊤
IsAnswer st.ReadFault = ⊥
IsAnswer st.WriteFault = ⊥
IsAnswer st.NoMemory = ⊥

-- the status is a fault or want of memory
abbrev pub IsNoAnswer : Status → Type 0
IsNoAnswer st.Done = ⊥
IsNoAnswer st.Usage = ⊥
IsNoAnswer st.Refused = ⊥
IsNoAnswer st.Conflict = ⊥
IsNoAnswer st.Limit = ⊥
IsNoAnswer st.ReadFault = ⊤
IsNoAnswer st.WriteFault = ⊤
IsNoAnswer st.NoMemory = ⊤

-- words of the command line
abbrev pub Words : Type 0
Words = List (String Global)

-- their bytes
abbrev pub bytes_of : Words → List (List ℕ)
bytes_of words = map string_bytes words

-- the line of a read fault of this file
abbrev pub fault_line : List ℕ → List ℕ
fault_line name = refusal_line (refusal.ReadFault name)

-- a call on the current file has failed, and its name is so
abbrev pub FailedFile : Reading → (List ℕ → Type 0) → Type 0
FailedFile reading P = (name : List ℕ) × (reading.current ≡ Some name) × (reading.failed ≡ true) × P name

-- the sink was given exactly the text of an outcome
abbrev pub GivesOutcome : List (List ℕ) → Contents → Status → Writing → Writing → Type 0
GivesOutcome words contents status old new =
    (text : List ℕ) × Outcome words contents status text × Gains old new text

-- on an answer the sink was given exactly the text of an outcome, where the contents are told
abbrev pub WritesText : Words → Option Contents → Status → Writing → Writing → Type 0
WritesText words contents status old new =
    IsAnswer status → IfSome contents (λ c. GivesOutcome (bytes_of words) c status old new)

-- the same of files and a sink that never fail
abbrev pub WritesSoundly : Words → SoundFilesState → Status → SoundSinkState → SoundSinkState → Type 0
WritesSoundly words files status old new =
    WritesText words (sound_contents files) status (sound_writing old) (sound_writing new)

-- On an answer the sink tells all that it told and the text of an outcome, if there is room for both.
abbrev pub TellsText : Words → SoundFilesState → Status → SoundSinkState → SoundSinkState → Type 0
TellsText words files status old new =
    IsAnswer status
    → (text : List ℕ)
    × Outcome (bytes_of words) (content_of files.files) status text
    × IfSome old.written (λ before. length (before ++ text) ≤ old.room → new.written ≡ Some (before ++ text))

-- on a read fault the sink was given exactly the line of the current file's fault
abbrev pub WritesFaultLine : Reading → Status → Writing → Writing → Type 0
WritesFaultLine reading status old new =
    status ≡ st.ReadFault → FailedFile reading (λ name. Gains old new (fault_line name))

-- on a read fault the run judges the current file, and no event stands at an earlier place, where the contents are told
abbrev pub FaultsInPlace : Words → Option Contents → Reading → Status → Type 0
FaultsInPlace words contents reading status =
    status ≡ st.ReadFault → IfSome contents (λ c. FailedFile reading (Judges (bytes_of words) c))

-- the sink was given a front of this text
abbrev pub GivesFront : Writing → Writing → List ℕ → Type 0
GivesFront old new text = (gone : ℕ) × Gains old new (take gone text)

-- Given holds of a text that an outcome allows or, where the count of the files' faults rose, of the line of the
-- current file's fault.
abbrev pub GivesPart : List (List ℕ) → Contents → Reading → Type 0 → (List ℕ → Type 0) → Type 0
GivesPart words contents reading rose Given =
    ((status : Status) × (text : List ℕ) × Outcome words contents status text × Given text)
    ⊎ (rose × FailedFile reading (λ name. Judges words contents name × Given (fault_line name)))

-- on a write fault such a text was given in part, where the contents are told
abbrev pub WritesPart : Words → Option Contents → Reading → Type 0 → (List ℕ → Type 0) → Status → Type 0
WritesPart words contents reading rose Given status =
    status ≡ st.WriteFault → IfSome contents (λ c. GivesPart (bytes_of words) c reading rose Given)
