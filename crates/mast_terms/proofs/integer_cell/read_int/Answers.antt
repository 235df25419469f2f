use Rattle.mast_terms.proofs.IntegerLemmas.{empty_front}
use Rattle.mast_terms.proofs.integer_cell.read_int.Goals as goal

pub returns-in-empty-clause-at : goal.returns-in-empty-clause-at
returns-in-empty-clause-at c = empty_front c.args.bytes.now c.in-empty.len_below
