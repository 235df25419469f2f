-- That each table file has an answer is a law of mast_tables.
use Rattle.mast_cli.proofs.OutcomeLemmas.{one_outcome, some_outcome}
use Rattle.mast_cli.proofs.laws.outcomes_are_one.Goals as goal

pub returns : goal.returns
returns c = record { some = some_outcome c.files_have_one_answer.ensures.some; one = one_outcome c.files_have_one_answer.ensures.some }
