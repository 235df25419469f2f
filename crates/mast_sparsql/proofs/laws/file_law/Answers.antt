use Rattle.mast_sparsql.proofs.LexingLemmas.{has_one_file}
use Rattle.mast_sparsql.proofs.laws.file_law.Goals as goal

pub returns : goal.returns
returns c = λ source. has_one_file source
