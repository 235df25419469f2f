use Rattle.mast_tables.proofs.NumberLemmas.{one_number, no_number, found_number}
use Rattle.mast_tables.proofs.laws.numbers_tell_values.Goals as goal

pub returns : goal.returns
returns c = record { same = one_number; missing = no_number; found = found_number }
