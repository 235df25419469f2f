-- What reading one piece of a file answers.
use Rattle.std.specs.Prelude.{◌≡◌, ⊤, ◌+◌, ◌≤◌, ℕ, true, List, ◌++◌, length, Result, Ok, Err}
use Rattle.std.specs.Io.KnownBytes.{Consumes, IsAtEnd}
use Rattle.mast_terms.specs.declared.memory.Stop.{Stop}
use Rattle.mast_terms.specs.declared.memory.Stop.TheVariants as stop
use Rattle.mast_files.specs.declared.reading.ReadRefusal.{ReadRefusal}
use Rattle.mast_files.specs.declared.reading.ReadRefusal.TheVariants as refusal
use Rattle.mast_files.specs.Causes.{Rises}
use Rattle.mast_files.specs.Outside as outside

-- n bytes of the rest were appended, none only at the end
abbrev pub ReadsPiece : outside.Reading → outside.Reading → List ℕ → List ℕ → Result ℕ (Stop ReadRefusal) → Type 0
ReadsPiece old new before after (Ok n) =
    (piece : List ℕ)
    × (after ≡ before ++ piece)
    × (length piece ≡ n)
    × Consumes old.rest new.rest piece
    × (n ≡ 0 → IsAtEnd new.rest)
ReadsPiece old new before after (Err e) = ⊤

-- the causes of reading a piece
abbrev pub PieceCounts : ℕ → ℕ → outside.Reading → Result ℕ (Stop ReadRefusal) → Type 0
PieceCounts before now reading (Ok n) = now ≡ before
PieceCounts before now reading (Err (stop.Named refusal.Failed)) = Rises before now × (reading.failed ≡ true)
PieceCounts before now reading (Err (stop.Named (refusal.TooLong most))) = ⊥
PieceCounts before now reading (Err stop.NoMemory) = now ≡ before

-- A piece takes the bytes that it answers. Where memory was wanting it took at most `room` of them.
abbrev pub PieceTakes : ℕ → ℕ → ℕ → Result ℕ (Stop ReadRefusal) → Type 0
PieceTakes room before now (Ok n) = now ≡ before + n
PieceTakes room before now (Err (stop.Named refusal)) = now ≡ before
PieceTakes room before now (Err stop.NoMemory) = (before ≤ now) × (now ≤ before + room)
