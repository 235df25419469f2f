use Rattle.mast_tables.proofs.BreachLemmas.{file_fits}
use Rattle.mast_tables.proofs.laws.rows_leave_no_breach.Goals as goal

pub returns : goal.returns
returns c = file_fits
