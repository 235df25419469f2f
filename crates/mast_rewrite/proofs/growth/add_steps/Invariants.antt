use Rattle.std.proofs.Common.{◌≤◌, map, take}
use Rattle.indexmap.specs.IndexSet.{index_set_len}
use Rattle.mast_cq.specs.Queries.{viewed}
use Rattle.mast_rewrite.specs.Rewritings.{most}
use Rattle.mast_rewrite.specs.inside.Growing.{Grown, IsAfter}
use Rattle.mast_rewrite.proofs.growth.add_steps.Given as goal

abbrev pub invariant-loop-met : goal.invariant-loop-met
invariant-loop-met l = record {
  grown : Grown (IsAfter (viewed l.query) l.first l.second (take l.met-index l.meetings)) (map viewed l.fn.set.keys) (map viewed l.set.keys);
  small : index_set_len l.set ≤ most;
}
