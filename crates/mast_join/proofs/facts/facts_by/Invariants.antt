use Rattle.mast_join.specs.inside.MadeFacts.{AreFactsTo, IsPoolMore, IsPoolOf}
use Rattle.mast_join.proofs.facts.facts_by.Given as goal

-- the facts of the choices so far
abbrev pub invariant-loop-number : goal.invariant-loop-number
invariant-loop-number l = record {
  pool : IsPoolOf l.base l.pool;
  more : IsPoolMore l.fn.pool l.pool;
  facts : AreFactsTo l.base l.pool l.map l.found.list l.number l.facts.items;
}
