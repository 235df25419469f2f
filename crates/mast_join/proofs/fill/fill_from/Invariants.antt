use Rattle.std.proofs.Common.{◌≡◌, take}
use Rattle.mast_relations.specs.Stores.{HasOnlyGained}
use Rattle.mast_join.specs.inside.Filling.{AreLinked, HasGiven, IsGiven, IsRefilled, rows_at}
use Rattle.mast_join.proofs.fill.fill_from.Given as goal

-- what the facts so far give is there
abbrev pub invariant-loop-fact : goal.invariant-loop-fact
invariant-loop-fact l = record {
  linked : AreLinked l.wanted l.seen.list (rows_at l.relations l.number).list;
  seen : l.seen.width ≡ l.fn.seen.width;
  refilled : IsRefilled l.number l.fn.relations l.relations;
  only : HasOnlyGained (IsGiven l.wanted l.width l.source l.facts) (rows_at l.fn.relations l.number) (rows_at l.relations l.number);
  all : HasGiven l.wanted l.width l.source (take l.fact-index l.facts) (rows_at l.relations l.number).list;
}
