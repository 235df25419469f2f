use Rattle.std.proofs.Common.{subst}
use Rattle.mast_terms.specs.Answers.{Answers}
use Rattle.mast_sql.specs.Source.{AreTokens, IsLexBreach}
use Rattle.mast_sql.proofs.TokenLawLemmas.{answered}
use Rattle.mast_sql.proofs.tokens.sql_tokens.Goals as goal

pub returns : goal.returns
returns c = subst (λ text. Answers c.lex.result (AreTokens text) (IsLexBreach text)) c.as_bytes.ensures.value (answered c.as_bytes.result.now c.lex.result c.lex.ensures)
