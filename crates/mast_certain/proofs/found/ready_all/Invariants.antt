use Rattle.std.proofs.Common.{map, take}
use Rattle.mast_cq.specs.Queries.{viewed}
use Rattle.mast_join.specs.Answers.{IsOverSame}
use Rattle.mast_certain.specs.inside.Found.{AreReady}
use Rattle.mast_certain.proofs.found.ready_all.Given as goal

abbrev pub invariant-loop-number : goal.invariant-loop-number
invariant-loop-number l = record {
  over : IsOverSame l.fn.extensions l.extensions;
  ready : AreReady l.extensions (map viewed (take l.number l.queries)) l.readies;
}
