use Rattle.mast_terms.proofs.IntegerLemmas.{minus_longest}
use Rattle.mast_terms.proofs.integer_cell.read_negative.Goals as goal

pub returns-in-Err-clause-at : goal.returns-in-Err-clause-at
returns-in-Err-clause-at c = minus_longest c.args.digits.now c.in-Err.at c.in-Err.ensures.at
