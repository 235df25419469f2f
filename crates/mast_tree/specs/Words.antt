-- The texts and lines of tokens.
use Rattle.std.specs.Prelude.{◌≡◌, ℕ, List, [], ◌∷◌, ◌++◌, Option, Some, None, slice_get}
use Rattle.mast_source.specs.Bytes.{less, greater}
use Rattle.mast_source.specs.Escapes.{quoted, unescaped}
use Rattle.mast_source.specs.Slices.{between, inside}
use Rattle.mast_tree.specs.declared.token.Token.{Token}
use Rattle.mast_tree.specs.declared.token.TokenKind.{TokenKind}
use Rattle.mast_tree.specs.declared.token.TokenKind.TheVariants.{Iri, Name, Str}

-- the bytes of a token
abbrev pub span : List ℕ → Token → List ℕ
span source t = between source t.from t.to

-- what the bytes of a token are as a word: an IRI without its brackets, else the bytes
abbrev pub word_bytes : TokenKind → List ℕ → List ℕ
word_bytes Iri bytes = inside bytes
word_bytes _ bytes = bytes

-- the word of a token, if there is one
abbrev pub word_at : List ℕ → Option Token → List ℕ
word_at source None = []
word_at source (Some t) = word_bytes t.kind (span source t)

-- the word of the token of that number
abbrev pub word_of : List ℕ → List Token → ℕ → List ℕ
word_of source tokens n = word_at source (slice_get tokens n)

-- what the bytes of a token are as a text: a string without its quotes and its escapes, else nothing
abbrev pub text_bytes : TokenKind → List ℕ → List ℕ
text_bytes Str bytes = unescaped (inside bytes)
text_bytes _ bytes = []

-- the text of a token, if there is one
abbrev pub text_at : List ℕ → Option Token → List ℕ
text_at source None = []
text_at source (Some t) = text_bytes t.kind (span source t)

-- the text of the token of that number
abbrev pub text_of : List ℕ → List Token → ℕ → List ℕ
text_of source tokens n = text_at source (slice_get tokens n)

-- the line of a token, if there is one
abbrev pub line_at : Option Token → ℕ
line_at None = 1
line_at (Some t) = t.line

-- the line of the token of that number
abbrev pub line_of : List Token → ℕ → ℕ
line_of tokens n = line_at (slice_get tokens n)

-- a name is its bytes, and an IRI stands between brackets
abbrev pub IsWordOf : TokenKind → List ℕ → List ℕ → Type 0
IsWordOf Name bytes word = bytes ≡ word
IsWordOf Iri bytes word = bytes ≡ less ∷ (word ++ (greater ∷ []))
IsWordOf _ bytes word = Unit {0}

-- a string stands between quotes, with its escapes
abbrev pub IsTextOf : TokenKind → List ℕ → List ℕ → Type 0
IsTextOf Str bytes text = bytes ≡ quoted text
IsTextOf _ bytes text = Unit {0}

-- the token of that number, if there is one, has this word
abbrev pub HasWord : List ℕ → List Token → ℕ → List ℕ → Type 0
HasWord source tokens n word = (t : Token) → slice_get tokens n ≡ Some t → IsWordOf t.kind (span source t) word

-- the token of that number, if there is one, has this text
abbrev pub HasText : List ℕ → List Token → ℕ → List ℕ → Type 0
HasText source tokens n text = (t : Token) → slice_get tokens n ≡ Some t → IsTextOf t.kind (span source t) text
