use Rattle.mast_sql.proofs.ReaderLemmas.{has_one_query}
use Rattle.mast_sql.proofs.laws.query_law.Goals as goal

pub returns : goal.returns
returns c = λ text tokens h. has_one_query text tokens h
