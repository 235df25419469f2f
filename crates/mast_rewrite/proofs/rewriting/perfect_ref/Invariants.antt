use Rattle.std.proofs.Common.{◌≤◌, map}
use Rattle.indexmap.specs.IndexSet.{index_set_len}
use Rattle.mast_cq.specs.NormalForms.{normal_form}
use Rattle.mast_cq.specs.Queries.{viewed}
use Rattle.mast_rewrite.specs.Closures.{ClosureStep}
use Rattle.mast_rewrite.specs.Rewritings.{most}
use Rattle.mast_rewrite.specs.inside.Memos.{IsMemo}
use Rattle.mast_rewrite.proofs.GrowLemmas.{Walked}
use Rattle.mast_rewrite.proofs.rewriting.perfect_ref.Given as goal

abbrev pub invariant-loop-done : goal.invariant-loop-done
invariant-loop-done l = record {
  walked : Walked (ClosureStep l.normal) (normal_form (viewed l.query)) (map viewed l.set.keys) l.done;
  small : index_set_len l.set ≤ most;
  memo : IsMemo l.normal l.memo;
}
