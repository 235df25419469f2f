-- The forms of tokens, and what stands between them.
use Rattle.std.specs.Prelude.{ℕ, ◌==◌, ◌&&◌, ◌||◌, nat_lt, Bool, true, false, not, if◌then◌else◌, List, [], ◌∷◌}
use Rattle.mast_source.specs.Bytes as bytes
use Rattle.mast_source.specs.Bytes.{is_lower, is_upper, is_beyond_ascii, tab, line_feed, carriage_return, space, exclamation, quote, hash, dollar, single_quote, open_parenthesis, close_parenthesis, comma, dash, dot, colon, less, equals, greater, question, backslash, caret, underscore}
use Rattle.mast_sql.specs.Signs.{plus, semicolon, open_brace, close_brace}
use Rattle.mast_sql.specs.declared.token.SqlKind.{SqlKind}
use Rattle.mast_sql.specs.declared.token.SqlKind.TheVariants.{Word, Pname, Var, Iri, Integer, Quoted, Doubled, Sign}

-- an ASCII letter
unfoldable pub is_alpha : ℕ → Bool
is_alpha b = is_lower b || is_upper b

-- an ASCII digit
unfoldable pub is_digit : ℕ → Bool
is_digit b = bytes.is_digit b

-- what a word begins with: a letter or `_`
unfoldable pub is_letter : ℕ → Bool
is_letter b = is_lower b || is_upper b || b == underscore

-- letters, digits and `_`
unfoldable pub is_word : ℕ → Bool
is_word b = is_lower b || is_upper b || bytes.is_digit b || b == underscore

-- letters, digits, `_`, `-`, and the bytes of each character from U+0080 on
unfoldable pub is_local : ℕ → Bool
is_local b = is_lower b || is_upper b || bytes.is_digit b || b == underscore || b == dash || is_beyond_ascii b

-- letters, digits, `+`, `.` and `-`
unfoldable pub is_scheme : ℕ → Bool
is_scheme b = is_lower b || is_upper b || bytes.is_digit b || b == plus || b == dot || b == dash

-- no blank, nothing below U+0020, and none of `<`, `>`, `"`, `{` and `}`
unfoldable pub is_iri : ℕ → Bool
is_iri b =
    nat_lt space b && not (b == less) && not (b == greater) && not (b == quote)
    && not (b == open_brace) && not (b == close_brace)

-- space, tab, carriage return, line feed
unfoldable pub is_blank : ℕ → Bool
is_blank b = b == space || b == tab || b == carriage_return || b == line_feed

-- a sign by itself that begins no other: `(` `)` `{` `}` `,` `.` `;` `=`
unfoldable pub is_single : ℕ → Bool
is_single b =
    b == open_parenthesis || b == close_parenthesis || b == open_brace || b == close_brace
    || b == comma || b == dot || b == semicolon || b == equals

-- nothing is left
abbrev pub is_end : List ℕ → Bool
is_end [] = true
is_end (b ∷ bs) = false

-- digits alone
abbrev pub are_digits : List ℕ → Bool
are_digits [] = true
are_digits (b ∷ bs) = is_digit b && are_digits bs

-- letters, digits and `_` alone
abbrev pub are_word : List ℕ → Bool
are_word [] = true
are_word (b ∷ bs) = is_word b && are_word bs

-- one digit or more
abbrev pub number : List ℕ → Bool
number [] = false
number (b ∷ bs) = is_digit b && are_digits bs

-- the form of a Word
abbrev pub word : List ℕ → Bool
word [] = false
word (b ∷ bs) = is_letter b && are_word bs

-- a Pname's run behind a character of it: a dot only before another (the Bool says whether a dot stands before)
abbrev pub run_rest : Bool → List ℕ → Bool
run_rest dot [] = not dot
run_rest true (b ∷ bs) = is_local b && run_rest false bs
run_rest false (b ∷ bs) = if b == dot then run_rest true bs else is_local b && run_rest false bs

-- a Pname's run, which may be empty and begins with no dot
abbrev pub is_run : List ℕ → Bool
is_run [] = true
is_run (b ∷ bs) = is_local b && run_rest false bs

-- what stands behind a Pname's first letter: the rest of its word, the colon and the run
abbrev pub pname_rest : List ℕ → Bool
pname_rest [] = false
pname_rest (b ∷ bs) = if b == colon then is_run bs else is_word b && pname_rest bs

-- what stands behind an IRI's colon: characters, and the `>`
abbrev pub iri_chars : List ℕ → Bool
iri_chars [] = false
iri_chars (b ∷ bs) = if b == greater then is_end bs else is_iri b && iri_chars bs

-- what stands behind an IRI's first letter: the rest of its scheme, a colon, characters, and the `>`
abbrev pub scheme_rest : List ℕ → Bool
scheme_rest [] = false
scheme_rest (b ∷ bs) = if b == colon then iri_chars bs else is_scheme b && scheme_rest bs

-- what stands behind `<`
abbrev pub iri_rest : List ℕ → Bool
iri_rest [] = false
iri_rest (b ∷ bs) = is_alpha b && scheme_rest bs

-- what stands behind `'`: characters, where a quote is doubled, and a quote
-- (the Bool says whether a quote that none has doubled stands before)
abbrev pub quoted_rest : Bool → List ℕ → Bool
quoted_rest closed [] = closed
quoted_rest true (b ∷ bs) = b == single_quote && quoted_rest false bs
quoted_rest false (b ∷ bs) = quoted_rest (b == single_quote) bs

-- what stands behind `"`: characters, and a quote (the Bool says whether a backslash that escapes stands before)
abbrev pub doubled_rest : Bool → List ℕ → Bool
doubled_rest escaped [] = false
doubled_rest true (b ∷ bs) = (b == quote || b == backslash) && doubled_rest false bs
doubled_rest false (b ∷ bs) = if b == quote then is_end bs else doubled_rest (b == backslash) bs

-- the signs of two bytes: `<>`, `<=`, `>=`, `!=` and `^^`
abbrev pub is_pair : ℕ → ℕ → Bool
is_pair b c =
    (b == less && (c == greater || c == equals)) || ((b == greater || b == exclamation) && c == equals)
    || (b == caret && c == caret)

-- the signs: those by themselves, `<`, `>`, `<>`, `<=`, `>=`, `!=` and `^^`
abbrev pub is_sign : ℕ → List ℕ → Bool
is_sign b [] = is_single b || b == less || b == greater
is_sign b (c ∷ bs) = is_pair b c && is_end bs

-- the form of a token of each kind
abbrev pub is_token : SqlKind → List ℕ → Bool
is_token k [] = false
is_token Word (b ∷ bs) = is_letter b && are_word bs
is_token Pname (b ∷ bs) = if b == colon then is_run bs else is_letter b && pname_rest bs
is_token Var (b ∷ bs) = (b == question || b == dollar) && word bs
is_token Iri (b ∷ bs) = b == less && iri_rest bs
is_token Integer (b ∷ bs) = if b == dash then number bs else is_digit b && are_digits bs
is_token Quoted (b ∷ bs) = b == single_quote && quoted_rest false bs
is_token Doubled (b ∷ bs) = b == quote && doubled_rest false bs
is_token Sign (b ∷ bs) = is_sign b bs

-- the next byte is a dash
abbrev pub begins_dash : List ℕ → Bool
begins_dash [] = false
begins_dash (b ∷ bs) = b == dash

-- a comment begins with this byte, before these: a `#`, or a dash before another one
abbrev pub opens_comment : ℕ → List ℕ → Bool
opens_comment b bs = b == hash || (b == dash && begins_dash bs)

-- blanks, and comments up to a line feed each; the Bool says whether a comment has begun
abbrev pub are_gap : Bool → List ℕ → Bool
are_gap comment [] = not comment
are_gap true (b ∷ bs) = are_gap (not (b == line_feed)) bs
are_gap false (b ∷ bs) = if opens_comment b bs then are_gap true bs else is_blank b && are_gap false bs

-- blanks and comments, where the last comment may go up to the end
abbrev pub ends_gap : Bool → List ℕ → Bool
ends_gap comment [] = true
ends_gap true (b ∷ bs) = ends_gap (not (b == line_feed)) bs
ends_gap false (b ∷ bs) = if opens_comment b bs then ends_gap true bs else is_blank b && ends_gap false bs
