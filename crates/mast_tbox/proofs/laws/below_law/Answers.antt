use Rattle.mast_tbox.proofs.BelowLemmas.{directly_is}
use Rattle.mast_tbox.proofs.laws.below_law.Goals as goal

pub returns : goal.returns
returns c = directly_is
