use Rattle.mast_mapping.proofs.ReadingLemmas.{is_read_once}
use Rattle.mast_mapping.proofs.laws.reading_law.Goals as goal

pub returns : goal.returns
returns c = λ text. is_read_once text
