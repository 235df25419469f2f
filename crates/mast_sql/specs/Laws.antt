-- Laws of the definitions.
use Rattle.std.specs.Prelude.{◌≡◌, ℕ, List, Some, slice_get, ◌⊎◌}
use Rattle.mast_sql.specs.declared.token.SqlToken.{SqlToken}
use Rattle.mast_sql.specs.declared.token.SqlLex.{SqlLex}
use Rattle.mast_sql.specs.Source.{AreTokens, IsLexBreach}
use Rattle.mast_sql.specs.declared.query.SourceQuery.{SourceQuery}
use Rattle.mast_sql.specs.declared.query.SqlBreach.{SqlBreach}
use Rattle.mast_sql.specs.Symbols.{IsPlaced}
use Rattle.mast_sql.specs.Grammar.{IsSourceQuery, IsSqlBreach}

-- a text has one token list, or one first lexical breach, and not both
pub record HasOneReading (text : List ℕ) : Type 0 where
  pub either : ((tokens : List SqlToken) × AreTokens text tokens) ⊎ ((breach : SqlLex) × IsLexBreach text breach)
  pub not_both : (tokens : List SqlToken) (breach : SqlLex) → AreTokens text tokens → IsLexBreach text breach → ⊥
  pub one_list : (a b : List SqlToken) → AreTokens text a → AreTokens text b → a ≡ b
  pub one_breach : (a b : SqlLex) → IsLexBreach text a → IsLexBreach text b → a ≡ b

-- so it is with each text
abbrev pub TokenLaw : Type 0
TokenLaw = (text : List ℕ) → HasOneReading text

-- each token of a text is a slice of it, and has the form of its kind
abbrev pub SpanLaw : Type 0
SpanLaw =
    (text : List ℕ) (tokens : List SqlToken) → AreTokens text tokens
    → (i : ℕ) (t : SqlToken) → slice_get tokens i ≡ Some t → IsPlaced text t

-- the tokens of a text are one source query, or have one first breach of the grammar, and not both
pub record HasOneQuery (text : List ℕ) (tokens : List SqlToken) : Type 0 where
  pub either : ((q : SourceQuery) × IsSourceQuery text tokens q) ⊎ ((b : SqlBreach) × IsSqlBreach text tokens b)
  pub not_both : (q : SourceQuery) (b : SqlBreach) → IsSourceQuery text tokens q → IsSqlBreach text tokens b → ⊥
  pub one_query : (a b : SourceQuery) → IsSourceQuery text tokens a → IsSourceQuery text tokens b → a ≡ b
  pub one_breach : (a b : SqlBreach) → IsSqlBreach text tokens a → IsSqlBreach text tokens b → a ≡ b

-- so it is with the tokens of each text
abbrev pub QueryLaw : Type 0
QueryLaw = (text : List ℕ) (tokens : List SqlToken) → AreTokens text tokens → HasOneQuery text tokens
