use Rattle.mast_tbox.proofs.DecideLemmas.{step_decided}
use Rattle.mast_tbox.proofs.OrderLemmas.{directly_decided, concept_reach_decided, below_decided, equivalent_decided, specialised_decided}
use Rattle.mast_tbox.proofs.laws.decided_law.Goals as goal

pub returns : goal.returns
returns c = record {
  step = step_decided;
  directly = directly_decided;
  reached = concept_reach_decided;
  below = below_decided;
  equivalent = equivalent_decided;
  specialised = specialised_decided;
}
