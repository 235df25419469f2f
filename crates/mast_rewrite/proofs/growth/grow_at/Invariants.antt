use Rattle.std.proofs.Common.{◌≤◌, map}
use Rattle.indexmap.specs.IndexSet.{index_set_len}
use Rattle.mast_cq.specs.Queries.{viewed}
use Rattle.mast_rewrite.specs.Rewritings.{most}
use Rattle.mast_rewrite.specs.inside.Growing.{Grown, StepsBefore}
use Rattle.mast_rewrite.specs.inside.Memos.{IsMemo}
use Rattle.mast_rewrite.proofs.growth.grow_at.Given as goal

abbrev pub invariant-loop-first : goal.invariant-loop-first
invariant-loop-first l = record {
  grown : Grown (StepsBefore l.normal (viewed l.query) l.second l.first) (map viewed l.fn.set.keys) (map viewed l.set.keys);
  small : index_set_len l.set ≤ most;
  memo : IsMemo l.normal l.memo;
}
