use Rattle.std.proofs.Common.{◌≡◌, ◌+◌, ◌++◌, drop}
use Rattle.mast_join.specs.inside.Namings.{places_of}
use Rattle.mast_join.proofs.conjunction.places.Given as goal

-- what is put and what is left are the whole
abbrev pub invariant-loop-number : goal.invariant-loop-number
invariant-loop-number l = l.places ++ places_of (l.first + l.number) (drop l.number l.answer) (drop l.number l.names) ≡ places_of l.first l.answer l.names
