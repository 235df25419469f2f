use Rattle.mast_terms.proofs.IntegerLemmas.{plain_longest}
use Rattle.mast_terms.proofs.integer_cell.read_unsigned.Goals as goal

pub returns-in-Err-clause-at : goal.returns-in-Err-clause-at
returns-in-Err-clause-at c = plain_longest c.args.digits.now c.in-Err.at c.requires c.in-Err.ensures.at
