-- The line of a tuple tells the tuple.
use Rattle.mast_write.proofs.TupleLineLemmas.{tuples}
use Rattle.mast_write.proofs.laws.tuples_have_lines.Goals as goal

pub returns : goal.returns
returns c = tuples
