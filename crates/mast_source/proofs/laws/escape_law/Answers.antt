use Rattle.mast_source.proofs.EscapeLemmas.{unescaped_of, unescaped_quoted}
use Rattle.mast_source.proofs.laws.escape_law.Goals as goal

pub returns : goal.returns
returns c = λ text. record { of_escapes = unescaped_of text; of_quotes = unescaped_quoted text }
