use Rattle.mast_eql.proofs.RangeLemmas.{any_range}
use Rattle.mast_eql.proofs.laws.range_law.Goals as goal

pub returns : goal.returns
returns c = any_range
