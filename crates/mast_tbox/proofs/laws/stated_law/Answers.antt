use Rattle.mast_tbox.proofs.StatedLemmas.{below_agrees, equivalent_agrees, specialised_agrees}
use Rattle.mast_tbox.proofs.laws.stated_law.Goals as goal

pub returns : goal.returns
returns c = record { below = below_agrees; equivalent = equivalent_agrees; specialised = specialised_agrees }
