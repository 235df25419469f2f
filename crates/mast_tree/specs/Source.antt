-- The tokens that stand for a source, and its first lexical breach.
use Rattle.std.specs.Prelude.{◌≡◌, ℕ, ◌+◌, ◌==◌, ◌||◌, true, false, List, [], ◌∷◌, ◌++◌, length, drop, ◌⊎◌}
use Rattle.std.specs.Str.{IsUtf8, IsValidUpTo}
use Rattle.mast_source.specs.Bom.{bom_length}
use Rattle.mast_source.specs.Bytes.{less, quote, backslash, hash}
use Rattle.mast_tree.specs.declared.token.Token.{Token}
use Rattle.mast_tree.specs.declared.token.TokenKind.{TokenKind}
use Rattle.mast_tree.specs.declared.token.LexKind.{LexKind}
use Rattle.mast_tree.specs.declared.token.LexKind.TheVariants.{NotUtf8, Character, OpenString, Escape, OpenIri}
use Rattle.mast_tree.specs.declared.token.LexBreach.{LexBreach}
use Rattle.mast_tree.specs.Tokens.{is_token, is_blank, are_blank, ends_blank, are_chars, feeds}

-- a token, and no token of any kind is longer at its place
pub record IsLongest (kind : TokenKind) (word rest : List ℕ) : Type 0 where
  pub form : is_token kind word ≡ true
  pub longest : (other : TokenKind) (more after : List ℕ) → rest ≡ more ++ after → is_token other (word ++ more) ≡ true → more ≡ []

-- bytes from the offset `at` and the line `line` on are blanks, comments and these tokens in order
abbrev pub Lexes : ℕ → ℕ → List ℕ → List Token → Type 0
Lexes at line bytes [] = ends_blank false bytes ≡ true
Lexes at line bytes (t ∷ ts) = (gap word rest : List ℕ) × (bytes ≡ gap ++ (word ++ rest)) × (are_blank false gap ≡ true) × IsLongest t.kind word rest
    × (t.from ≡ at + length gap) × (t.to ≡ t.from + length word) × (t.line ≡ line + feeds gap) × Lexes t.to (t.line + feeds word) rest ts

-- the tokens of a source, behind one byte order mark
abbrev pub AreTokens : List ℕ → List Token → Type 0
AreTokens source tokens = IsUtf8 source × Lexes (bom_length source) 1 (drop (bom_length source) source) tokens

-- no token begins here, and no blank and no comment
abbrev pub NoToken : List ℕ → Type 0
NoToken bytes = (kind : TokenKind) (word rest : List ℕ) → bytes ≡ word ++ rest → is_token kind word ≡ true → ⊥

-- no blank and no comment begins here
abbrev pub NoBlank : List ℕ → Type 0
NoBlank [] = ⊥
NoBlank (b ∷ bytes) = (is_blank b ≡ false) × ((b == hash) ≡ false)

-- the first byte is c
abbrev pub BeginsWith : ℕ → List ℕ → Type 0
BeginsWith c [] = ⊥
BeginsWith c (b ∷ bytes) = (b == c) ≡ true

-- no quote and no backslash, which a backslash may stand before
abbrev pub NoEscape : List ℕ → Type 0
NoEscape [] = Unit {0}
NoEscape (b ∷ bytes) = (b == quote || b == backslash) ≡ false

-- what is wrong where no token begins, and how many bytes from here
abbrev pub IsWrong : LexKind → ℕ → List ℕ → Type 0
IsWrong NotUtf8 n bytes = ⊥
IsWrong Character n bytes = (n ≡ 0) × (BeginsWith less bytes → ⊥) × (BeginsWith quote bytes → ⊥)
IsWrong OpenIri n bytes = (n ≡ 0) × BeginsWith less bytes
IsWrong OpenString n bytes = (n ≡ 0) × (chars : List ℕ) × (bytes ≡ quote ∷ chars) × (are_chars false chars ≡ true)
IsWrong Escape n bytes =
    (chars rest : List ℕ) × (bytes ≡ quote ∷ (chars ++ (backslash ∷ rest)))
    × (are_chars false chars ≡ true) × NoEscape rest × (n ≡ length chars + 1)

-- after these tokens and a gap something else stands: the breach
abbrev pub Stops : ℕ → List ℕ → List Token → LexBreach → Type 0
Stops at bytes [] breach =
    (gap rest : List ℕ) × (n : ℕ) × (bytes ≡ gap ++ rest) × (are_blank false gap ≡ true) × NoBlank rest × NoToken rest
    × IsWrong breach.kind n rest × (breach.at ≡ at + length gap + n)
Stops at bytes (t ∷ ts) breach =
    (gap word rest : List ℕ) × (bytes ≡ gap ++ (word ++ rest)) × (are_blank false gap ≡ true) × IsLongest t.kind word rest
    × (t.from ≡ at + length gap) × (t.to ≡ t.from + length word) × Stops t.to rest ts breach

-- the first lexical breach of a source
abbrev pub IsLexBreach : List ℕ → LexBreach → Type 0
IsLexBreach source breach =
    ((¬ IsUtf8 source) × (breach.kind ≡ NotUtf8) × IsValidUpTo source breach.at)
    ⊎ (IsUtf8 source × (before : List Token) × Stops (bom_length source) (drop (bom_length source) source) before breach)
