-- What one call does to the files and sinks.
use Rattle.std.specs.Prelude.{◌≡◌, ℕ, ◌+◌, ◌-◌, ◌<◌, min, Bool, true, false, if◌then◌else◌, not, ◌&&◌, nat_lt, nat_le, List, ◌++◌, length, take, drop, [], Option, Some, None, IsSome, Result, Ok, Err}
use Rattle.mast_terms.specs.declared.memory.Stop.{Stop}
use Rattle.mast_terms.specs.declared.memory.Stop.TheVariants as stop
use Rattle.mast_files.specs.declared.outside.Failed.{Failed}
use Rattle.mast_files.specs.declared.os.Answer.{Answer}
use Rattle.mast_files.specs.declared.os.Answer.TheVariants as answer
use Rattle.mast_files.specs.Calls.{IsTry, Fails, FailsAt, took_some}
use Rattle.mast_files.specs.States.{next_count, is_failing, MemFilesState, SoundFilesState, MemSinkState, SoundSinkState, DirFilesState, StdSinkState}
use Rattle.mast_files.specs.Stored.{content_of, holds}

-- whether a `MemFiles` starts this name: the call's number is none that fails, and the name is held
abbrev pub may_start : MemFilesState → List ℕ → Bool
may_start old name = not (is_failing old.failing old.calls) && holds old.files name

-- A start answers `Ok` exactly where it may. It counts the call, and a fault where it failed.
-- Of the rest nothing is said where it failed. Want of memory changes nothing.
abbrev pub StartsInMemory : {T : Type 0} → MemFilesState → List ℕ → Result T (Stop Failed) → MemFilesState → Type 0
StartsInMemory old name (Ok x) new =
    (may_start old name ≡ true)
    × (new ≡ record old {
      calls = next_count old.calls;
      starts = old.starts + 1;
      current = Some name;
      rest = content_of old.files name;
      failed = false;
    })
StartsInMemory old name (Err (stop.Named e)) new =
    (may_start old name ≡ false)
    × (new ≡ record old {
      calls = next_count old.calls;
      faults = next_count old.faults;
      starts = old.starts + 1;
      current = Some name;
      rest = new.rest;
      failed = true;
    })
StartsInMemory old name (Err stop.NoMemory) new = new ≡ old

-- A read fails exactly where its number is one that fails, and else gives as much as there is, up to `most`.
abbrev pub ReadsInMemory : MemFilesState → List ℕ → Result ℕ Failed → MemFilesState → List ℕ → Type 0
ReadsInMemory old before (Ok n) new after =
    (is_failing old.failing old.calls ≡ false)
    × (n ≡ min old.most (min (length before) (length old.rest)))
    × (after ≡ take n old.rest ++ drop n before)
    × (new ≡ record old { calls = next_count old.calls; taken = old.taken + n; rest = drop n old.rest })
ReadsInMemory old before (Err e) new after =
    (is_failing old.failing old.calls ≡ true)
    × (after ≡ before)
    × (new ≡ record old { calls = next_count old.calls; faults = next_count old.faults; failed = true })

-- A start never fails.
abbrev pub StartsSoundly : {T : Type 0} → SoundFilesState → List ℕ → Result T (Stop Failed) → SoundFilesState → Type 0
StartsSoundly old name (Ok x) new = new ≡ record old { starts = old.starts + 1; current = Some name; rest = content_of old.files name }
StartsSoundly old name (Err (stop.Named e)) new = ⊥
StartsSoundly old name (Err stop.NoMemory) new = new ≡ old

-- A read never fails, and gives as much as there is.
abbrev pub ReadsSoundly : SoundFilesState → List ℕ → Result ℕ Failed → SoundFilesState → List ℕ → Type 0
ReadsSoundly old before (Ok n) new after =
    (n ≡ min (length before) (length old.rest))
    × (after ≡ take n old.rest ++ drop n before)
    × (new ≡ record old { taken = old.taken + n; rest = drop n old.rest })
ReadsSoundly old before (Err e) new after = ⊥

-- whether a `MemSink` takes the next piece: the call's number is none that fails, and there is room
abbrev pub may_put : MemSinkState → Bool
may_put old = not (is_failing old.failing old.calls) && nat_lt (length old.written) old.room

-- A put fails exactly where it may not. Else it takes as many bytes as `most` and the room left allow.
abbrev pub PutsInMemory : MemSinkState → List ℕ → Result ℕ Failed → MemSinkState → Type 0
PutsInMemory old piece (Ok n) new =
    (may_put old ≡ true)
    × (n ≡ min old.most (min (old.room - length old.written) (length piece)))
    × (new ≡ record old { written = old.written ++ take n piece; calls = next_count old.calls })
PutsInMemory old piece (Err e) new =
    (may_put old ≡ false)
    × (new ≡ record old { calls = next_count old.calls; faults = next_count old.faults })

-- what is told once a piece is written: all, while that is at most the room
abbrev pub told_within : ℕ → Option (List ℕ) → List ℕ → Option (List ℕ)
told_within room None piece = None
told_within room (Some written) piece = if nat_le (length written + length piece) room then Some (written ++ piece) else None

-- A put takes the whole piece and never fails.
abbrev pub PutsSoundly : SoundSinkState → List ℕ → Result ℕ Failed → SoundSinkState → Type 0
PutsSoundly old piece (Ok n) new = (n ≡ length piece) × (new ≡ record old { written = told_within old.room old.written piece })
PutsSoundly old piece (Err e) new = ⊥

-- A start makes one try to open the file, and answers `Ok` exactly where the system opened it.
-- Else no file is open and one fault is counted. Want of memory changes nothing, and then the system was not called.
abbrev pub StartsInFolder : {T : Type 0} → DirFilesState → List ℕ → Result T (Stop Failed) → DirFilesState → Type 0
StartsInFolder old name (Ok x) new =
    IsTry old.opens name (name, answer.Opened) new.opens
    × (new ≡ record old {
      file = Some new.opens;
      rest = new.rest;
      current = Some name;
      failed = false;
      starts = old.starts + 1;
      opens = new.opens;
    })
StartsInFolder old name (Err (stop.Named e)) new =
    Fails old.opens name new.opens
    × (new ≡ record old {
      file = None;
      rest = None;
      current = Some name;
      failed = true;
      faults = next_count old.faults;
      starts = old.starts + 1;
      opens = new.opens;
    })
StartsInFolder old name (Err stop.NoMemory) new = new ≡ old

-- A read makes one try at the open file, and gives just the bytes that the system gave.
-- It fails, and counts one fault, exactly where the system failed or no file is open. In the second case the system is not called.
abbrev pub ReadsInFolder : DirFilesState → Result ℕ Failed → DirFilesState → List ℕ → Type 0
ReadsInFolder old (Ok n) new after =
    IsSome old.file
    × IsTry old.reads [] (take n after, answer.Gave n) new.reads
    × (new ≡ record old { rest = new.rest; reads = new.reads })
ReadsInFolder old (Err e) new after =
    FailsAt old.file old.reads new.reads
    × (new ≡ record old { rest = new.rest; failed = true; faults = next_count old.faults; reads = new.reads })

-- A put makes one try to write the piece, and answers how many bytes the system took.
-- It fails, and counts one fault, exactly where the system took none or failed.
abbrev pub PutsOut : StdSinkState → List ℕ → Result ℕ Failed → StdSinkState → Type 0
PutsOut old piece (Ok n) new =
    (0 < n)
    × IsTry old.writes piece (piece, answer.Gave n) new.writes
    × (new.faults ≡ old.faults)
PutsOut old piece (Err e) new =
    ((last : Answer) × (took_some last ≡ false) × IsTry old.writes piece (piece, last) new.writes)
    × (new.faults ≡ next_count old.faults)
