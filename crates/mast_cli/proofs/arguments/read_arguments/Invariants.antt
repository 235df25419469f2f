-- What is given so far, before what the words that are left give.
use Rattle.std.proofs.Common.{◌≡◌, map, string_bytes, drop}
use Rattle.mast_cli.specs.Words.{arguments_of, given_from}
use Rattle.mast_cli.specs.inside.Arguments.{merged}
use Rattle.mast_cli.proofs.arguments.read_arguments.Given as goal

abbrev pub invariant-loop-word : goal.invariant-loop-word
invariant-loop-word l = merged l.given (given_from l.next (map string_bytes (drop l.word-index l.words))) ≡ arguments_of (map string_bytes l.words)
