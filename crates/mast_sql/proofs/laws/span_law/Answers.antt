use Rattle.mast_sql.proofs.SymbolLemmas.{tokens_placed, placed_of}
use Rattle.mast_sql.proofs.laws.span_law.Goals as goal

pub returns : goal.returns
returns c = λ text tokens h i t e. placed_of tokens text i t (tokens_placed text tokens h) e
