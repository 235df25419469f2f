use Rattle.std.proofs.Common.{ap, ◌∙◌}
use Rattle.std.specs.Result.{result_ok}
use Rattle.mast_terms.proofs.IntegerLemmas.{all_is, mag_answer}
use Rattle.mast_terms.proofs.integer_cell.read_magnitude.Goals as goal

pub returns-clause-accepts : goal.returns-clause-accepts
returns-clause-accepts c = ap result_ok c.scan_digits.ensures.read ∙ all_is c.args.most c.args.digits.now

pub returns-clause-at : goal.returns-clause-at
returns-clause-at c = mag_answer c.args.most c.args.digits.now c.scan_digits.result c.scan_digits.ensures.read
