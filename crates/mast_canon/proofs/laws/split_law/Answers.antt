use Rattle.mast_canon.proofs.SupportLemmas.{split_keeps_supports}
use Rattle.mast_canon.proofs.laws.split_law.Goals as goal

pub returns : goal.returns
returns c = split_keeps_supports
