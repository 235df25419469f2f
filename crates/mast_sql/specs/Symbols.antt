-- What tokens stand for in the grammar.
use Rattle.std.specs.Prelude.{◌≡◌, ℕ, ℤ, ◌<◌, ◌≤◌, ◌==◌, ◌&&◌, true, if◌then◌else◌, List, [], ◌∷◌, ◌++◌, length, Option, Some, None, codes}
use Rattle.std.specs.Str.{IsUtf8, str_eq_ignore_ascii_case}
use Rattle.mast_source.specs.Bytes.{exclamation, single_quote, comma, dot, less, equals, greater}
use Rattle.mast_source.specs.Slices.{between}
use Rattle.mast_terms.specs.IntegerCell.{integer_of}
use Rattle.mast_terms.specs.DateCell.{IsDateText}
use Rattle.mast_terms.specs.Printed.{date_text}
use Rattle.mast_terms.specs.declared.date.Date.{Date}
use Rattle.mast_sql.specs.declared.token.SqlKind.{SqlKind}
use Rattle.mast_sql.specs.declared.token.SqlKind.TheVariants as kind
use Rattle.mast_sql.specs.declared.token.SqlToken.{SqlToken}
use Rattle.mast_sql.specs.declared.symbol.Keyword.{Keyword as AKeyword}
use Rattle.mast_sql.specs.declared.symbol.Keyword.TheVariants as key
use Rattle.mast_sql.specs.declared.symbol.Symbol.{Symbol}
use Rattle.mast_sql.specs.declared.symbol.Symbol.TheVariants.{Select, Distinct, From, Where, As, And, Date as DateWord, Name, Integer, Quoted, Comma, Dot, Compare, Other}
use Rattle.mast_sql.specs.declared.query.Compare.TheVariants as op
use Rattle.mast_sql.specs.Tokens.{is_token}

-- the bytes of a token
abbrev pub span : List ℕ → SqlToken → List ℕ
span text t = between text t.from t.to

-- the token is a slice of the text and has the form of its kind
pub record IsPlaced (text : List ℕ) (t : SqlToken) : Type 0 where
  pub order : t.from < t.to
  pub within : t.to ≤ length text
  pub form : is_token t.kind (span text t) ≡ true

-- the words that are no names, in any case
abbrev pub keyword_of : List ℕ → Option AKeyword
keyword_of word =
    if str_eq_ignore_ascii_case (codes "SELECT") word then Some key.Select
    else if str_eq_ignore_ascii_case (codes "DISTINCT") word then Some key.Distinct
    else if str_eq_ignore_ascii_case (codes "FROM") word then Some key.From
    else if str_eq_ignore_ascii_case (codes "WHERE") word then Some key.Where
    else if str_eq_ignore_ascii_case (codes "AS") word then Some key.As
    else if str_eq_ignore_ascii_case (codes "AND") word then Some key.And
    else if str_eq_ignore_ascii_case (codes "OR") word then Some key.Or
    else if str_eq_ignore_ascii_case (codes "NOT") word then Some key.Not
    else if str_eq_ignore_ascii_case (codes "EXISTS") word then Some key.Exists
    else if str_eq_ignore_ascii_case (codes "UNION") word then Some key.Union
    else if str_eq_ignore_ascii_case (codes "EXCEPT") word then Some key.Except
    else if str_eq_ignore_ascii_case (codes "INTERSECT") word then Some key.Intersect
    else if str_eq_ignore_ascii_case (codes "PREFIX") word then Some key.Prefix
    else if str_eq_ignore_ascii_case (codes "SPARQLTABLE") word then Some key.Sparqltable
    else if str_eq_ignore_ascii_case (codes "DATE") word then Some key.Date
    else None

-- the keywords of source queries
abbrev pub keyword : AKeyword → Symbol
keyword key.Select = Select
keyword key.Distinct = Distinct
keyword key.From = From
keyword key.Where = Where
keyword key.As = As
keyword key.And = And
keyword key.Date = DateWord
keyword _ = Other

-- a word is a keyword or a name
abbrev pub word : Option AKeyword → List ℕ → Symbol
word None bytes = Name bytes
word (Some k) bytes = keyword k

-- an integer of 64 bits
abbrev pub integer : Option ℤ → Symbol
integer None = Other
integer (Some number) = Integer number

-- a sign of one byte
abbrev pub one_sign : ℕ → Symbol
one_sign b =
    if b == comma then Comma else if b == dot then Dot else if b == equals then Compare op.Equal
    else if b == less then Compare op.Less else if b == greater then Compare op.More else Other

-- a sign of two bytes; `!=` is `<>`
abbrev pub two_signs : ℕ → ℕ → Symbol
two_signs b c =
    if b == less && c == greater then Compare op.Differ else if b == exclamation && c == equals then Compare op.Differ
    else if b == less && c == equals then Compare op.AtMost else if b == greater && c == equals then Compare op.AtLeast
    else Other

-- `,` `.` and the signs of comparison
abbrev pub sign : List ℕ → Symbol
sign [] = Other
sign (b ∷ []) = one_sign b
sign (b ∷ c ∷ []) = two_signs b c
sign (b ∷ c ∷ d ∷ bs) = Other

-- a text with each single quote doubled
abbrev pub doubled : List ℕ → List ℕ
doubled [] = []
doubled (b ∷ bs) = if b == single_quote then single_quote ∷ (single_quote ∷ doubled bs) else b ∷ doubled bs

-- a text in single quotes
abbrev pub single_quoted : List ℕ → List ℕ
single_quoted text = single_quote ∷ (doubled text ++ (single_quote ∷ []))

-- the date that a text is, if it is one
abbrev pub IsDateOf : List ℕ → Option Date → Type 0
IsDateOf text None = IsDateText text → ⊥
IsDateOf text (Some date) = text ≡ date_text date

-- a text in single quotes, which tells whether it is a date
abbrev pub IsQuoted : List ℕ → Symbol → Type 0
IsQuoted text symbol = (date : Option Date) × IsDateOf text date × (symbol ≡ Quoted text date)

-- what the bytes of a token stand for
abbrev pub IsSymbol : SqlKind → List ℕ → Symbol → Type 0
IsSymbol kind.Word bytes symbol = symbol ≡ word (keyword_of bytes) bytes
IsSymbol kind.Integer bytes symbol = symbol ≡ integer (integer_of bytes)
IsSymbol kind.Quoted bytes symbol = (text : List ℕ) × (bytes ≡ single_quoted text) × IsQuoted text symbol
IsSymbol kind.Sign bytes symbol = symbol ≡ sign bytes
IsSymbol _ bytes symbol = symbol ≡ Other

-- what a token of a text stands for, where it is one
abbrev pub StandsFor : List ℕ → SqlToken → Symbol → Type 0
StandsFor text t symbol = IsUtf8 text → IsPlaced text t → IsSymbol t.kind (span text t) symbol

-- what the tokens of a text stand for
abbrev pub AreSymbols : List ℕ → List SqlToken → List Symbol → Type 0
AreSymbols text [] [] = Unit {0}
AreSymbols text [] (k ∷ ks) = ⊥
AreSymbols text (t ∷ ts) [] = ⊥
AreSymbols text (t ∷ ts) (k ∷ ks) = IsSymbol t.kind (span text t) k × AreSymbols text ts ks
