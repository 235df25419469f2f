-- The tokens of a file's bytes, and their first lexical breach.
use Rattle.std.specs.Prelude.{◌≡◌, ℕ, ◌⊎◌, List, length, take}
use Rattle.std.specs.Str.{IsUtf8, IsValidUpTo}
use Rattle.mast_sql.specs.declared.token.SqlToken.{SqlToken}
use Rattle.mast_sql.specs.declared.token.SqlLex.{SqlLex}
use Rattle.mast_sql.specs.Source.{AreTokens, IsLexBreach}

-- the bytes are a text, and these are its tokens
pub record AreFileTokens (source : List ℕ) (tokens : List SqlToken) : Type 0 where
  pub utf8 : IsUtf8 source
  pub lexed : AreTokens source tokens

-- behind a text no character begins: the breach is that of the text, or the number of its tokens
abbrev pub CutsAt : List ℕ → SqlLex → Type 0
CutsAt text breach =
    IsLexBreach text breach ⊎ ((tokens : List SqlToken) × AreTokens text tokens × (breach.token ≡ length tokens))

-- the first lexical breach of the bytes: that of the text that they are, or of their longest front that is one
abbrev pub IsFileLex : List ℕ → SqlLex → Type 0
IsFileLex source breach =
    (IsUtf8 source × IsLexBreach source breach) ⊎ ((n : ℕ) × IsValidUpTo source n × CutsAt (take n source) breach)

-- no tokens
abbrev pub Nothing : List SqlToken → Type 0
Nothing tokens = ⊥

-- bytes have one token list, or one first lexical breach, and not both
pub record HasOneFile (source : List ℕ) : Type 0 where
  pub not_both : (tokens : List SqlToken) (breach : SqlLex) → AreFileTokens source tokens → IsFileLex source breach → ⊥
  pub one_list : (a b : List SqlToken) → AreFileTokens source a → AreFileTokens source b → a ≡ b
  pub one_breach : (a b : SqlLex) → IsFileLex source a → IsFileLex source b → a ≡ b

-- so it is with all bytes
abbrev pub FileLaw : Type 0
FileLaw = (source : List ℕ) → HasOneFile source
