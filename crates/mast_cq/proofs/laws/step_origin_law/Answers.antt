use Rattle.std.specs.Prelude.{◌<◌}
use Rattle.mast_cq.specs.Origins.{Passes}
use Rattle.mast_cq.proofs.StepOriginLemmas.{step_fewer, step_arguments, step_answer, step_known, step_names, step_draws, step_sorts}
use Rattle.mast_cq.proofs.laws.step_origin_law.Goals as goal

pub returns : goal.returns
returns c = record {
  fewer = step_fewer;
  arguments = step_arguments;
  answer = step_answer;
  known = λ bound q r step. step_known q r step bound;
  names = λ sizes q r step. step_names q r step (λ kind n. n < sizes kind);
  named = λ test q r step. step_names q r step (Passes test);
  draws = step_draws;
  sorts = step_sorts;
}
