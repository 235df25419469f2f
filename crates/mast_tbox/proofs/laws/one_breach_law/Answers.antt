use Rattle.mast_tbox.proofs.OneBreachLemmas.{one_breach}
use Rattle.mast_tbox.proofs.laws.one_breach_law.Goals as goal

pub returns : goal.returns
returns c = one_breach
