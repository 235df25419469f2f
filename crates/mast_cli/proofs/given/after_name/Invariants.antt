-- The words so far, and those that are still to come, are all words but the first.
use Rattle.std.proofs.Common.{◌≡◌, ◌++◌, drop}
use Rattle.mast_cli.specs.Given.{left}
use Rattle.mast_cli.proofs.given.after_name.Given as goal

abbrev pub invariant-loop-word : goal.invariant-loop-word
invariant-loop-word l = l.after.items ++ left l.word-iterator ≡ drop 1 (left l.fn.words)
