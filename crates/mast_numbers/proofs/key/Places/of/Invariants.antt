use Rattle.std.proofs.Common.{◌≡◌, ◌++◌, drop}
use Rattle.mast_numbers.proofs.key.Places.of.Given as goal

-- what is copied and what is left are the numbers
abbrev pub invariant-loop-number : goal.invariant-loop-number
invariant-loop-number l = l.items.items ++ drop l.number-index l.numbers ≡ l.numbers
