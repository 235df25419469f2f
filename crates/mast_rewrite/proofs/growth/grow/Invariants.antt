use Rattle.std.proofs.Common.{◌≤◌, map}
use Rattle.indexmap.specs.IndexSet.{index_set_len}
use Rattle.mast_cq.specs.Queries.{viewed}
use Rattle.mast_rewrite.specs.Rewritings.{most}
use Rattle.mast_rewrite.specs.inside.Growing.{Grown, StepsBelow}
use Rattle.mast_rewrite.specs.inside.Memos.{IsMemo}
use Rattle.mast_rewrite.proofs.growth.grow.Given as goal

abbrev pub invariant-loop-second : goal.invariant-loop-second
invariant-loop-second l = record {
  grown : Grown (StepsBelow l.normal (viewed l.query) l.second) (map viewed l.fn.set.keys) (map viewed l.set.keys);
  small : index_set_len l.set ≤ most;
  memo : IsMemo l.normal l.memo;
}
