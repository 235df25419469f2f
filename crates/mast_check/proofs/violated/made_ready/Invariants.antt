-- The queries so far are ready, and the others may be made so.
use Rattle.std.proofs.Common.{map, take, drop}
use Rattle.std.specs.List.{AllByRecursion}
use Rattle.mast_cq.specs.Queries.{viewed}
use Rattle.mast_join.specs.Answers.{IsOverSame}
use Rattle.mast_check.specs.inside.Pieces.{AreReady, IsAskedOver}
use Rattle.mast_check.proofs.violated.made_ready.Given as goal

abbrev pub invariant-loop-query : goal.invariant-loop-query
invariant-loop-query l = record {
  ready : AreReady l.extensions (map viewed (take l.query-index l.queries)) l.all.items;
  left : AllByRecursion (IsAskedOver l.fn.extensions.over) (map viewed (drop l.query-index l.queries));
  same : IsOverSame l.fn.extensions l.extensions;
}
