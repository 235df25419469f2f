-- What went through calls.
use Rattle.std.proofs.Common.{◌≡◌, ℕ, ◌+◌, ◌≤◌, zero, suc, List, [], ◌++◌, length, take, false, ap, ◌∙◌, refl, arith}
use Rattle.std.proofs.lemmas.List.{append-nil}
use Rattle.std.proofs.lemmas.Grind.{common_steps}
use Rattle.mast_files.specs.declared.os.Answer.{Answer}
use Rattle.mast_files.specs.declared.os.Answer.TheVariants as answer
use Rattle.std.specs.Prelude.{Err}
use Rattle.std.specs.IoError.{error_kind}
use Rattle.std.specs.declared.io.Error.{Error}
use Rattle.std.specs.declared.io.ErrorKind.{ErrorKind}
use Rattle.std.specs.declared.io.ErrorKind.TheVariants as kind
use Rattle.mast_files.specs.inside.Notes.{kind_answer, bytes_answer}
use Rattle.mast_files.specs.Calls.{Call, IsTry, front, passed, interruptions, took_some}

-- nothing goes through an interrupted call
pub passed-interruptions : (n : ℕ) (bytes : List ℕ) (old : List Call) → passed (interruptions n bytes ++ old) ≡ passed old
passed-interruptions zero bytes old = refl
passed-interruptions (suc n) bytes old = append-nil (passed (interruptions n bytes ++ old)) ∙ passed-interruptions n bytes old

-- of a try its last call counts alone
pub passed-try : (old new : List Call) (bytes : List ℕ) (last : Call) → IsTry old bytes last new → passed new ≡ passed old ++ front last.0 last.1
passed-try old new bytes last tried = ap passed tried.calls ∙ ap (λ (xs : List ℕ). xs ++ front last.0 last.1) (passed-interruptions tried.again bytes old)

-- nothing goes through a call that took no byte
pub front-none : (bytes : List ℕ) (a : Answer) → took_some a ≡ false → front bytes a ≡ []
front-none bytes (answer.Gave zero) none = refl
front-none bytes (answer.Gave (suc n)) none = absurd (cc)
front-none bytes answer.Opened none = refl
front-none bytes answer.Interrupted none = refl
front-none bytes answer.Refused none = refl

-- nothing went through the try of such a call
pub passed-none : (old new : List Call) (bytes : List ℕ) (a : Answer) → took_some a ≡ false → IsTry old bytes (bytes, a) new → passed new ≡ passed old
passed-none old new bytes a none tried = passed-try old new bytes (bytes, a) tried ∙ ap (λ (xs : List ℕ). passed old ++ xs) (front-none bytes a none) ∙ append-nil (passed old)

-- nothing goes through a call of no byte
pub front-empty : (a : Answer) → front [] a ≡ []
front-empty (answer.Gave zero) = refl
front-empty (answer.Gave (suc n)) = refl
front-empty answer.Opened = refl
front-empty answer.Interrupted = refl
front-empty answer.Refused = refl

-- nothing went through the try of such a call
pub passed-empty : (old new : List Call) (a : Answer) → IsTry old [] ([], a) new → length (passed new) ≡ length (passed old)
passed-empty old new a tried = ap length (passed-try old new [] ([], a) tried ∙ ap (λ (xs : List ℕ). passed old ++ xs) (front-empty a) ∙ append-nil (passed old))

-- the bytes that a read gave went through its try
pub passed-given : (old new : List Call) (buf : List ℕ) (n : ℕ) → n ≤ length buf → IsTry old [] (take n buf, answer.Gave n) new → length (passed new) ≡ length (passed old) + n
passed-given old new buf n within tried =
    let e : passed new ≡ passed old ++ take n (take n buf) = passed-try old new [] (take n buf, answer.Gave n) tried in
    rw e (grind (arith, common_steps))

-- an error of the system is no byte
pub took-kind : (k : ErrorKind) → took_some (kind_answer k) ≡ false
took-kind kind.Interrupted = refl
took-kind k = refl

-- nothing went through a try that took no byte
pub passed-zero : (old new : List Call) (bytes : List ℕ) (n : ℕ) → n ≤ 0 → IsTry old bytes (bytes, answer.Gave n) new → passed new ≡ passed old
passed-zero old new bytes zero none tried = passed-none old new bytes (answer.Gave zero) refl tried
passed-zero old new bytes (suc n) none tried = absurd (omega (arith, none))

-- nothing went through a try that the system refused
pub passed-error : (old new : List Call) (bytes : List ℕ) (e : Error) → IsTry old bytes (bytes, bytes_answer (Err e)) new → passed new ≡ passed old
passed-error old new bytes e tried = passed-none old new bytes (kind_answer (error_kind e)) (took-kind (error_kind e)) tried
