use Rattle.mast_tbox.proofs.LinkLemmas.{meetings_linked}
use Rattle.mast_tbox.proofs.laws.link_law.Goals as goal

pub returns : goal.returns
returns c = meetings_linked
