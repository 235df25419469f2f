use Rattle.mast_join.proofs.SourceLemmas.{pairs}
use Rattle.mast_join.proofs.laws.sources_give_extensions.Goals as goal

pub returns : goal.returns
returns c = pairs
