-- The calls of the operating system that `DirFiles` and `StdSink` make, the last one first, and what it answered.
use Rattle.std.specs.Prelude.{◌≡◌, ℕ, ◌<◌, ◌≤◌, Bool, true, false, zero, suc, List, [], ◌∷◌, ◌++◌, take, Option, Some, None}
use Rattle.mast_files.specs.declared.os.Answer.{Answer}
use Rattle.mast_files.specs.declared.os.Answer.TheVariants as answer

-- a call: the name that it was to open, or the bytes that it was to take or that it gave; and what the system answered
abbrev pub Call : Type 0
Call = List ℕ × Answer

-- the front of a call's bytes that the system took or gave
abbrev pub front : List ℕ → Answer → List ℕ
front bytes (answer.Gave n) = take n bytes
front bytes answer.Opened = []
front bytes answer.Interrupted = []
front bytes answer.Refused = []

-- the bytes that went through calls: their fronts, in the order of the calls
abbrev pub passed : List Call → List ℕ
passed [] = []
passed (call ∷ calls) = passed calls ++ front call.0 call.1

-- so many calls that were interrupted
abbrev pub interruptions : ℕ → List ℕ → List Call
interruptions zero bytes = []
interruptions (suc n) bytes = (bytes, answer.Interrupted) ∷ interruptions n bytes

-- whether the system was interrupted
abbrev pub is_interruption : Answer → Bool
is_interruption answer.Interrupted = true
is_interruption a = false

-- Calls made one try: so often the system was interrupted, at most 100 times, and then came the last call.
-- Its answer is an interruption only after 100 others.
pub record IsTry (old : List Call) (bytes : List ℕ) (last : Call) (new : List Call) : Type 0 where
  pub again : ℕ
  pub most : again ≤ 100
  pub ended : again < 100 → is_interruption last.1 ≡ false
  pub calls : new ≡ last ∷ interruptions again bytes ++ old

-- whether the system failed
abbrev pub is_fault : Answer → Bool
is_fault (answer.Gave n) = false
is_fault answer.Opened = false
is_fault answer.Interrupted = true
is_fault answer.Refused = true

-- whether the system took at least one byte
abbrev pub took_some : Answer → Bool
took_some (answer.Gave (suc n)) = true
took_some a = false

-- calls made one try, and the system failed
abbrev pub Fails : List Call → List ℕ → List Call → Type 0
Fails old bytes new = (last : Answer) × (is_fault last ≡ true) × IsTry old bytes (bytes, last) new

-- the same for a read, where a file is open; else no call was made
abbrev pub FailsAt : {File : Type 0} → Option File → List Call → List Call → Type 0
FailsAt (Some file) old new = Fails old [] new
FailsAt None old new = new ≡ old
