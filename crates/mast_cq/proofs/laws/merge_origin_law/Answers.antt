use Rattle.std.specs.Prelude.{◌<◌}
use Rattle.mast_cq.specs.Origins.{Passes}
use Rattle.mast_cq.proofs.MergeOriginLemmas.{merge_fewer, merge_arguments, merge_answer, merge_known, merge_names, merge_draws, merge_sorts}
use Rattle.mast_cq.proofs.laws.merge_origin_law.Goals as goal

pub returns : goal.returns
returns c = record {
  fewer = merge_fewer;
  arguments = merge_arguments;
  answer = merge_answer;
  known = merge_known;
  names = λ sizes. merge_names (λ kind n. n < sizes kind);
  named = λ test. merge_names (Passes test);
  draws = merge_draws;
  sorts = merge_sorts;
}
