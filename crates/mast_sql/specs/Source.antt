-- The tokens that stand for a text, and its first lexical breach.
use Rattle.std.specs.Prelude.{◌≡◌, ℕ, zero, suc, ◌+◌, true, false, List, [], ◌∷◌, ◌++◌, length, drop}
use Rattle.mast_source.specs.Bom.{bom_length}
use Rattle.mast_sql.specs.declared.token.SqlKind.{SqlKind}
use Rattle.mast_sql.specs.declared.token.SqlToken.{SqlToken}
use Rattle.mast_sql.specs.declared.token.SqlLex.{SqlLex}
use Rattle.mast_sql.specs.Tokens.{is_token, is_blank, opens_comment, are_gap, ends_gap}

-- a token, and no token of any kind is longer at its place
pub record IsLongest (kind : SqlKind) (word rest : List ℕ) : Type 0 where
  pub form : is_token kind word ≡ true
  pub longest :
      (other : SqlKind) (more after : List ℕ) → rest ≡ more ++ after → is_token other (word ++ more) ≡ true → more ≡ []

-- bytes from the offset `at` on are blanks, comments and these tokens in order
abbrev pub Lexes : ℕ → List ℕ → List SqlToken → Type 0
Lexes at bytes [] = ends_gap false bytes ≡ true
Lexes at bytes (t ∷ ts) =
    (gap word rest : List ℕ) × (bytes ≡ gap ++ (word ++ rest)) × (are_gap false gap ≡ true) × IsLongest t.kind word rest
    × (t.from ≡ at + length gap) × (t.to ≡ t.from + length word) × Lexes t.to rest ts

-- the tokens of a text, where one byte order mark at the front is blank
abbrev pub AreTokens : List ℕ → List SqlToken → Type 0
AreTokens text tokens = Lexes (bom_length text) (drop (bom_length text) text) tokens

-- no token begins here
abbrev pub NoToken : List ℕ → Type 0
NoToken bytes = (kind : SqlKind) (word rest : List ℕ) → bytes ≡ word ++ rest → is_token kind word ≡ true → ⊥

-- something stands here, which is no blank and no comment
abbrev pub NoGap : List ℕ → Type 0
NoGap [] = ⊥
NoGap (b ∷ bytes) = (is_blank b ≡ false) × (opens_comment b bytes ≡ false)

-- after so many tokens and a gap something stands where no token begins
abbrev pub Stops : List ℕ → ℕ → Type 0
Stops bytes zero =
    (gap rest : List ℕ) × (bytes ≡ gap ++ rest) × (are_gap false gap ≡ true) × NoGap rest × NoToken rest
Stops bytes (suc n) =
    (gap word rest : List ℕ) × (kind : SqlKind) × (bytes ≡ gap ++ (word ++ rest)) × (are_gap false gap ≡ true)
    × IsLongest kind word rest × Stops rest n

-- the first lexical breach of a text, by the number of whole tokens before it
abbrev pub IsLexBreach : List ℕ → SqlLex → Type 0
IsLexBreach text breach = Stops (drop (bom_length text) text) breach.token
