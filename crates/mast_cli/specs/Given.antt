-- The words that the machine gives to the program.
use Rattle.std.specs.Prelude.{◌≡◌, [], take, drop, Result, Ok, Err, String}
use Rattle.std.specs.IoError.{error_kind}
use Rattle.std.specs.Vec.Iter.{into_iter_items, into_iter_len}
use Rattle.std.specs.declared.alloc.Global.{Global}
use Rattle.std.specs.declared.io.Error.{Error}
use Rattle.std.specs.declared.io.ErrorKind.TheVariants as kind
use Rattle.std.specs.declared.vec.IntoIter.{IntoIter}
use Rattle.mast_cli.specs.Run.{Words}

-- what the machine gives: words, or that it has none
abbrev pub Given : Type 0
Given = Result (IntoIter (String Global) Global) Error

-- all words that are still to come
abbrev pub left : IntoIter (String Global) Global → Words
left words = take (into_iter_len words) (into_iter_items words)

-- the words after the program's name, which is the first; none, where they can't be had as text
abbrev pub given : Given → Words
given (Ok words) = drop 1 (left words)
given (Err e) = []

-- there was no memory for the words
abbrev pub WantsMemory : Given → Type 0
WantsMemory (Ok words) = ⊥
WantsMemory (Err e) = error_kind e ≡ kind.OutOfMemory
