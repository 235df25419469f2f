use Rattle.std.proofs.Common.{◌≡◌, ◌+◌, List, ℕ, take}
use Rattle.mast_relations.specs.Matches.{In}
use Rattle.mast_join.specs.inside.Filling.{AreLinked, HasAllGiven, IsGivenByOne, IsRefilled, rows_at}
use Rattle.mast_join.specs.inside.Relates.{set_columns}
use Rattle.mast_join.proofs.fill.fill_all.Given as goal

-- what the sources so far give is there
abbrev pub invariant-loop-source : goal.invariant-loop-source
invariant-loop-source l = record {
  linked : AreLinked l.wanted l.seen.list (rows_at l.relations l.number).list;
  seen : l.seen.width ≡ l.width;
  refilled : IsRefilled l.number l.fn.relations l.relations;
  wide : (rows_at l.relations l.number).width ≡ l.width + set_columns l.wanted;
  right : (row : List ℕ) → In row (rows_at l.relations l.number).list → IsGivenByOne l.wanted l.width l.facts l.sources row;
  all : HasAllGiven l.wanted l.width l.facts (take l.source-index l.sources) (rows_at l.relations l.number).list;
}
