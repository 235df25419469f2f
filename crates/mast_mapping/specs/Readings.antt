-- What a text says as a source query: one query, or one breach.
use Rattle.std.specs.Prelude.{◌≡◌, ◌⊎◌, ℕ, List, Option}
use Rattle.mast_terms.specs.declared.date.Date.{Date}
use Rattle.mast_sql.specs.declared.query.SourceQuery.{SourceQuery}
use Rattle.mast_sql.specs.declared.query.SqlBreach.{SqlBreach}
use Rattle.mast_sql.specs.declared.query.SqlBreachKind.{SqlBreachKind}
use Rattle.mast_sql.specs.declared.query.SqlBreachKind.TheVariants as sql
use Rattle.mast_sql.specs.declared.token.SqlLex.{SqlLex}
use Rattle.mast_sql.specs.declared.token.SqlToken.{SqlToken}
use Rattle.mast_sql.specs.Grammar.{IsSourceQuery, IsSqlBreach}
use Rattle.mast_sql.specs.Source.{AreTokens, IsLexBreach}
use Rattle.mast_tree.specs.Constants.{AreDates}
use Rattle.mast_tree.specs.declared.shape.ShapeKind.{ShapeKind}
use Rattle.mast_tree.specs.declared.shape.ShapeKind.TheVariants as shape

-- a source query, or what is wrong with the text
pub data Reading : Type 0 where
  query : SourceQuery → Reading
  wrong : ShapeKind → Reading

-- a breach of the grammar, with the number of its token, or the limit of the aliases
abbrev pub grammar_kind : SqlBreachKind → ℕ → ShapeKind
grammar_kind sql.Grammar token = shape.Sql token
grammar_kind sql.Aliases token = shape.Aliases

-- a text is no list of tokens: its first lexical breach
abbrev pub IsLexical : List ℕ → ShapeKind → Type 0
IsLexical text kind = (breach : SqlLex) × IsLexBreach text breach × (kind ≡ shape.Sql breach.token)

-- its tokens are no source query: their first breach of the grammar
abbrev pub IsGrammatical : List ℕ → ShapeKind → Type 0
IsGrammatical text kind =
    (tokens : List SqlToken) × (breach : SqlBreach) × AreTokens text tokens × IsSqlBreach text tokens breach
    × (kind ≡ grammar_kind breach.kind breach.token)

-- a text reads as this
abbrev pub Reads : List ℕ → Reading → Type 0
Reads text (query q) = (tokens : List SqlToken) × AreTokens text tokens × IsSourceQuery text tokens q
Reads text (wrong kind) = IsLexical text kind ⊎ IsGrammatical text kind

-- a text reads as one thing, and as nothing else
pub record IsReadOnce (text : List ℕ) : Type 0 where
  pub some : (reading : Reading) × Reads text reading
  pub one : (a b : Reading) → Reads text a → Reads text b → a ≡ b

-- so does each text
abbrev pub ReadingLaw : Type 0
ReadingLaw = (text : List ℕ) → IsReadOnce text

-- the date of each text, and what it reads as
pub record Texts : Type 0 where
  pub dates : List ℕ → Option Date
  pub readings : List ℕ → Reading

-- each text has the date that is told of it, or none, and reads as is told
pub record AreTexts (texts : Texts) : Type 0 where
  pub dates : AreDates texts.dates
  pub readings : (text : List ℕ) → Reads text (texts.readings text)
