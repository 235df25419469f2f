use Rattle.mast_join.proofs.EntryLemmas.{IsWay}
use Rattle.mast_join.proofs.join.Join.choices.Given as goal

-- so many entries are bound
abbrev pub invariant-loop : goal.invariant-loop
invariant-loop l = IsWay l.self l.bound.items l.counter l.choices
