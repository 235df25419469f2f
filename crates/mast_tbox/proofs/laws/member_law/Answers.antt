use Rattle.mast_cq.specs.Origins.{Passes}
use Rattle.mast_tbox.proofs.ArgumentLemmas.{down_same, down_draws, down_occurs, down_twice, down_sorts}
use Rattle.mast_tbox.proofs.RangeLemmas.{down_range, down_named, normal_named, range_bounded}
use Rattle.mast_tbox.proofs.laws.member_law.Goals as goal

pub returns : goal.returns
returns c = record {
  arguments = down_same;
  draws = down_draws;
  variables = down_occurs;
  twice = down_twice;
  sorts = λ tbox before after g h d. down_sorts tbox g h before after d;
  range = down_range;
  named = λ tbox test g h all. down_named (Passes test) tbox all g h;
  normal = λ tbox test all aux. normal_named (Passes test) tbox aux all;
  bounds = range_bounded;
}
