-- What the grammar sees of the tokens of a text.
use Rattle.std.specs.Prelude.{ℕ, ◌==◌, ◌&&◌, Bool, false, not, if◌then◌else◌, List, [], ◌∷◌, ◌++◌, Option, Some, None}
use denote.Enum.Bare.{sameb}
use Rattle.mast_source.specs.Bytes.{colon, less, greater, equals, caret, dot, comma, open_parenthesis, close_parenthesis, exclamation}
use Rattle.mast_terms.specs.Vocabularies.{stands}
use Rattle.mast_sql.specs.Signs.{open_brace, close_brace, semicolon}
use Rattle.mast_sql.specs.declared.token.SqlKind.{SqlKind}
use Rattle.mast_sql.specs.declared.token.SqlKind.TheVariants as kind
use Rattle.mast_sql.specs.declared.token.SqlToken.{SqlToken}
use Rattle.mast_sql.specs.declared.symbol.Keyword.{Keyword as AKeyword}
use Rattle.mast_sql.specs.declared.symbol.Keyword.TheVariants as key
use Rattle.mast_sql.specs.Symbols.{keyword_of, span}
use Rattle.mast_grammar.specs.contracts.terminal.Terminal.{the_type}
use Rattle.mast_grammar.specs.declared.terminal.Terminal.{Terminal}
use Rattle.mast_grammar.specs.declared.terminal.Terminal.TheVariants as terminal

-- the keywords
abbrev pub keyword : AKeyword → Terminal
keyword key.Select = terminal.Select
keyword key.Distinct = terminal.Distinct
keyword key.From = terminal.From
keyword key.Where = terminal.Where
keyword key.As = terminal.As
keyword key.And = terminal.And
keyword key.Or = terminal.Or
keyword key.Not = terminal.Not
keyword key.Exists = terminal.Exists
keyword key.Union = terminal.Union
keyword key.Except = terminal.Except
keyword key.Intersect = terminal.Intersect
keyword key.Prefix = terminal.Prefix
keyword key.Sparqltable = terminal.Sparqltable
keyword key.Date = terminal.Date

-- a name of one byte: `a` may be a verb
abbrev pub letter : ℕ → Terminal
letter b = if b == 0x61 then terminal.A else terminal.Name

-- a word that is no keyword
abbrev pub name : List ℕ → Terminal
name [] = terminal.Name
name (b ∷ []) = letter b
name (b ∷ c ∷ bs) = terminal.Name

-- a word is a keyword, in any case, or a name
abbrev pub word : Option AKeyword → List ℕ → Terminal
word None bytes = name bytes
word (Some k) bytes = keyword k

-- a sign of one byte
abbrev pub one_sign : ℕ → Terminal
one_sign b =
    if b == open_parenthesis then terminal.Open else if b == close_parenthesis then terminal.Close
    else if b == open_brace then terminal.OpenBrace else if b == close_brace then terminal.CloseBrace
    else if b == comma then terminal.Comma else if b == dot then terminal.Dot
    else if b == semicolon then terminal.Semicolon else if b == equals then terminal.Equal else terminal.Other

-- a sign of two bytes; `!=` is `<>`
abbrev pub two_signs : ℕ → ℕ → Terminal
two_signs b c =
    if b == less && c == greater then terminal.Differ else if b == exclamation && c == equals then terminal.Differ
    else if b == caret && c == caret then terminal.Carets else terminal.Other

-- the signs that a query can have, and all others
abbrev pub sign : List ℕ → Terminal
sign [] = terminal.Other
sign (b ∷ []) = one_sign b
sign (b ∷ c ∷ []) = two_signs b c
sign (b ∷ c ∷ d ∷ bs) = terminal.Other

-- what the grammar sees of the bytes of a token, wherever it stands
abbrev pub plain : SqlKind → List ℕ → Terminal
plain kind.Word bytes = word (keyword_of bytes) bytes
plain kind.Pname bytes = terminal.Pname
plain kind.Var bytes = terminal.Var
plain kind.Iri bytes = terminal.Iri
plain kind.Integer bytes = terminal.Integer
plain kind.Quoted bytes = terminal.Quoted
plain kind.Doubled bytes = terminal.Doubled
plain kind.Sign bytes = sign bytes

-- whether two terminals are one
abbrev pub same : Terminal → Terminal → Bool
same a b = sameb the_type a b

-- the last byte is a colon
abbrev pub ends_with_colon : List ℕ → Bool
ends_with_colon [] = false
ends_with_colon (b ∷ []) = b == colon
ends_with_colon (b ∷ c ∷ bs) = ends_with_colon (c ∷ bs)

-- the prefix of a PREFIX line, where no line before has it: a Pname that ends with its colon
abbrev pub is_new : List (List ℕ) → Terminal → List ℕ → Bool
is_new lines k bytes = same k terminal.Pname && (ends_with_colon bytes && not (stands bytes lines))

-- what the grammar sees of a token behind PREFIX, if `behind` says so, where lines before have these prefixes
abbrev pub seen : Bool → List (List ℕ) → Terminal → List ℕ → Terminal
seen behind lines k bytes = if behind && is_new lines k bytes then terminal.NewPrefix else k

-- the prefixes of the lines, with that of this token
abbrev pub lines_with : Bool → List (List ℕ) → Terminal → List ℕ → List (List ℕ)
lines_with behind lines k bytes = if behind && is_new lines k bytes then lines ++ bytes ∷ [] else lines

-- what the grammar sees of tokens, behind PREFIX or not, where lines before have these prefixes
abbrev pub terminals_behind : List ℕ → Bool → List (List ℕ) → List SqlToken → List Terminal
terminals_behind text behind lines [] = []
terminals_behind text behind lines (t ∷ ts) =
    let bytes = span text t in
    let k = plain t.kind bytes in
    seen behind lines k bytes
    ∷ terminals_behind text (same k terminal.Prefix) (lines_with behind lines k bytes) ts

-- what the grammar sees of the tokens of a text
abbrev pub terminals : List ℕ → List SqlToken → List Terminal
terminals text tokens = terminals_behind text false [] tokens
