-- A text in single quotes read byte by byte, and what words and such texts stand for where they are texts.
use Rattle.std.specs.Prelude.{◌≡◌, ℕ, ◌==◌, Bool, true, false, List, [], ◌∷◌, ◌++◌}
use Rattle.std.specs.Str.{IsUtf8}
use Rattle.mast_source.specs.Bytes.{single_quote}
use Rattle.mast_source.specs.Slices.{inside}
use Rattle.mast_sql.specs.declared.symbol.Symbol.{Symbol}
use Rattle.mast_sql.specs.Symbols.{keyword_of, word, IsQuoted}

-- with one quote for two; the Bool says whether a first quote stands before
abbrev pub undoubled : Bool → List ℕ → List ℕ
undoubled quote [] = []
undoubled true (b ∷ bs) = undoubled false bs
undoubled false (b ∷ bs) = b ∷ undoubled (b == single_quote) bs

-- a text in quotes without its quotes, and with one quote for two
abbrev pub unquoted : List ℕ → List ℕ
unquoted bytes = undoubled false (inside bytes)

-- behind one byte more, what is read and what is left make the same whole, whatever is left
abbrev pub GoesOn : List ℕ → Bool → ℕ → List ℕ → Bool → Type 0
GoesOn before quote b after next = (rest : List ℕ) → after ++ undoubled next rest ≡ before ++ undoubled quote (b ∷ rest)

-- a word stands for its keyword or for a name
abbrev pub WordStands : List ℕ → Symbol → Type 0
WordStands bytes symbol = IsUtf8 bytes → symbol ≡ word (keyword_of bytes) bytes

-- a text in quotes stands for what is between them
abbrev pub QuotedStands : List ℕ → Symbol → Type 0
QuotedStands bytes symbol = IsUtf8 (unquoted bytes) → IsQuoted (unquoted bytes) symbol
