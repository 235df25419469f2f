use Rattle.mast_tbox.proofs.NumberLemmas.{one_inclusion, one_normal_inclusion, no_end}
use Rattle.mast_tbox.proofs.laws.number_law.Goals as goal

pub returns : goal.returns
returns c = record {
  stated = λ lines n i j k. one_inclusion lines i j k n;
  normal = λ lines n i j k. one_normal_inclusion lines i j k n;
  end = no_end;
}
