use Rattle.mast_tables.proofs.JudgingLemmas.{file_any}
use Rattle.mast_tables.proofs.OnceLemmas.{file_rows_once, file_breach_once}
use Rattle.mast_tables.proofs.laws.files_have_one_answer.Goals as goal

pub returns : goal.returns
returns c = record { some = file_any; rows = file_rows_once; breach = file_breach_once }
