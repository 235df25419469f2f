-- What contracts see of the files and sinks in memory, and of those of the operating system.
use Rattle.std.specs.Prelude.{ℕ, ◌+◌, ◌-◌, ◌^◌, min, nat_eq, Bool, false, List, [], length, Option, Some, None}
use Rattle.std.specs.List.{list_any}
use Rattle.mast_files.specs.Calls.{Call, passed}
use Rattle.mast_files.specs.Outside.{Contents, Reading, Writing}
use Rattle.mast_files.specs.Stored.{content_of}

-- one more, up to the end of a counter of 64 bits
abbrev pub next_count : ℕ → ℕ
next_count n = min (n + 1) (2 ^ 64 - 1)

-- whether the call of this number is one of those that fail
abbrev pub is_failing : List ℕ → ℕ → Bool
is_failing failing number = list_any (λ n. nat_eq n number) failing

-- a `MemFiles`: its files, the numbers of the calls that fail, the most bytes that a read gives,
-- the calls, the faults, the starts and the bytes that reads gave so far,
-- and the started file: its name, its rest, whether a call on it has failed
pub record MemFilesState : Type 0 where
  pub files : List (List ℕ × List ℕ)
  pub failing : List ℕ
  pub most : ℕ
  pub calls : ℕ
  pub faults : ℕ
  pub starts : ℕ
  pub taken : ℕ
  pub current : Option (List ℕ)
  pub rest : List ℕ
  pub failed : Bool

-- a `MemFiles` on which no call was made yet
abbrev pub mem_files : List (List ℕ × List ℕ) → List ℕ → ℕ → MemFilesState
mem_files files failing most = record {
  files = files;
  failing = failing;
  most = most;
  calls = 0;
  faults = 0;
  starts = 0;
  taken = 0;
  current = None;
  rest = [];
  failed = false;
}

-- what a `MemFiles` holds
abbrev pub mem_contents : MemFilesState → Option Contents
mem_contents state = Some (content_of state.files)

-- what a `MemFiles` tells of its started file
abbrev pub mem_reading : MemFilesState → Reading
mem_reading state = record { rest = Some state.rest; current = state.current; failed = state.failed }

-- a `SoundFiles`: its files, the starts and the bytes that reads gave so far, and the name and the rest of the started one
pub record SoundFilesState : Type 0 where
  pub files : List (List ℕ × List ℕ)
  pub starts : ℕ
  pub taken : ℕ
  pub current : Option (List ℕ)
  pub rest : List ℕ

-- a `SoundFiles` on which no call was made yet
abbrev pub sound_files : List (List ℕ × List ℕ) → SoundFilesState
sound_files files = record { files = files; starts = 0; taken = 0; current = None; rest = [] }

-- what a `SoundFiles` holds
abbrev pub sound_contents : SoundFilesState → Option Contents
sound_contents state = Some (content_of state.files)

-- what a `SoundFiles` tells of its started file
abbrev pub sound_reading : SoundFilesState → Reading
sound_reading state = record { rest = Some state.rest; current = state.current; failed = false }

-- a `MemSink`: what was written and how much may be, the numbers of the calls that fail,
-- the most bytes that a put takes, and the calls and the faults so far
pub record MemSinkState : Type 0 where
  pub written : List ℕ
  pub room : ℕ
  pub failing : List ℕ
  pub most : ℕ
  pub calls : ℕ
  pub faults : ℕ

-- a `MemSink` on which no call was made yet
abbrev pub mem_sink : List ℕ → ℕ → ℕ → MemSinkState
mem_sink failing most room = record { written = []; room = room; failing = failing; most = most; calls = 0; faults = 0 }

-- what a `MemSink` tells: all that was written, at all times
abbrev pub mem_writing : MemSinkState → Writing
mem_writing state = record { written = Some state.written; room = None }

-- a `SoundSink`: what was written while that is at most its room, and the room
pub record SoundSinkState : Type 0 where
  pub written : Option (List ℕ)
  pub room : ℕ

-- how much room what was written leaves: none, where it is not told
abbrev pub left_within : ℕ → Option (List ℕ) → ℕ
left_within room None = 0
left_within room (Some written) = room - length written

-- what a `SoundSink` tells
abbrev pub sound_writing : SoundSinkState → Writing
sound_writing state = record { written = state.written; room = Some (left_within state.room state.written) }

-- what an open file has left, where it tells it
abbrev pub left_of : {File : Type 0} → (File → Option (List ℕ)) → Option File → Option (List ℕ)
left_of told None = None
left_of told (Some file) = told file

-- a `DirFiles`: the open file, by the calls that open up to the one that opened it, and what it has left, where it tells it;
-- the name of the started file, whether a call on it has failed, and the faults and the starts so far;
-- and the calls of the system, those that open and those that read
pub record DirFilesState : Type 0 where
  pub file : Option (List Call)
  pub rest : Option (List ℕ)
  pub current : Option (List ℕ)
  pub failed : Bool
  pub faults : ℕ
  pub starts : ℕ
  pub opens : List Call
  pub reads : List Call

-- a `DirFiles` on which no call was made yet
abbrev pub dir_files : DirFilesState
dir_files = record { file = None; rest = None; current = None; failed = false; faults = 0; starts = 0; opens = []; reads = [] }

-- what a `DirFiles` tells of its started file
abbrev pub dir_reading : DirFilesState → Reading
dir_reading state = record { rest = state.rest; current = state.current; failed = state.failed }

-- how many bytes reads of a `DirFiles` gave
abbrev pub dir_taken : DirFilesState → ℕ
dir_taken state = length (passed state.reads)

-- a `StdSink`: the calls of the system, and the faults so far
pub record StdSinkState : Type 0 where
  pub writes : List Call
  pub faults : ℕ

-- what a `StdSink` tells as written: what the system took, at all times
abbrev pub std_writing : StdSinkState → Writing
std_writing state = record { written = Some (passed state.writes); room = None }
