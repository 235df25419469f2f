use Rattle.mast_sql.proofs.TokenLawLemmas.{has_one_reading}
use Rattle.mast_sql.proofs.laws.token_law.Goals as goal

pub returns : goal.returns
returns c = λ text. has_one_reading text
