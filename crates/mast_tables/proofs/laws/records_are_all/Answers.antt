use Rattle.mast_tables.proofs.AllRecords.{all_records}
use Rattle.mast_tables.proofs.laws.records_are_all.Goals as goal

pub returns : goal.returns
returns c = all_records
