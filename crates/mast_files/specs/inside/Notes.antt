-- What a result of the operating system answers, and the call that a note tells.
use Rattle.std.specs.Prelude.{ℕ, List, [], take, Result, Ok, Err}
use Rattle.std.specs.IoError.{error_kind}
use Rattle.std.specs.declared.io.Error.{Error}
use Rattle.std.specs.declared.io.ErrorKind.{ErrorKind}
use Rattle.std.specs.declared.io.ErrorKind.TheVariants as kind
use Rattle.mast_files.specs.Calls.{Call}
use Rattle.mast_files.specs.declared.os.Answer.{Answer}
use Rattle.mast_files.specs.declared.os.Answer.TheVariants as answer
use Rattle.mast_files.specs.declared.os.Note.{Note}

-- the answer that an error of this kind is
abbrev pub kind_answer : ErrorKind → Answer
kind_answer kind.Interrupted = answer.Interrupted
kind_answer k = answer.Refused

-- the answer that a result with a number of bytes is
abbrev pub bytes_answer : Result ℕ Error → Answer
bytes_answer (Ok n) = answer.Gave n
bytes_answer (Err e) = kind_answer (error_kind e)

-- the answer that a result with an open file is
abbrev pub file_answer : {File : Type 0} → Result File Error → Answer
file_answer (Ok file) = answer.Opened
file_answer (Err e) = kind_answer (error_kind e)

-- the bytes that a read gave
abbrev pub given : Result ℕ Error → List ℕ → List ℕ
given (Ok n) buf = take n buf
given (Err e) buf = []

-- the call that a note tells
abbrev pub call_of : Note → Call
call_of note = (note.bytes.now, note.answer)
