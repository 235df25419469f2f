-- The forms of tokens, and what stands between them.
use Rattle.std.specs.Prelude.{ℕ, ◌+◌, ◌==◌, ◌&&◌, ◌||◌, nat_lt, Bool, true, false, not, if◌then◌else◌, List, [], ◌∷◌}
use Rattle.mast_source.specs.Bytes.{open_parenthesis, close_parenthesis, equals, caret, at_sign, less, greater, quote, backslash, hash, underscore, dash, dot, colon, percent, question, space, tab, carriage_return, line_feed, is_lower, is_upper, is_digit, is_beyond_ascii}
use Rattle.mast_tree.specs.Empty.{is_empty}
use Rattle.mast_tree.specs.declared.token.TokenKind.{TokenKind}
use Rattle.mast_tree.specs.declared.token.TokenKind.TheVariants.{Open, Close, Equals, Carets, Lang, Iri, Name, Str}

-- letters, digits, `_`, `-`, `.`, `:`, `%`, `?`, and the bytes of each character from U+0080 on
unfoldable pub is_name : ℕ → Bool
is_name b =
    is_lower b || is_upper b || is_digit b || b == underscore || b == dash || b == dot || b == colon || b == percent || b == question
    || is_beyond_ascii b

-- letters, digits and `-`
unfoldable pub is_lang : ℕ → Bool
is_lang b = is_lower b || is_upper b || is_digit b || b == dash

-- no blank, nothing below U+0020, and none of `<`, `>` and `"`
unfoldable pub is_iri : ℕ → Bool
is_iri b = nat_lt space b && not (b == less) && not (b == greater) && not (b == quote)

-- space, tab, carriage return, line feed
unfoldable pub is_blank : ℕ → Bool
is_blank b = b == space || b == tab || b == carriage_return || b == line_feed

-- bytes of a name
abbrev pub are_name : List ℕ → Bool
are_name [] = true
are_name (b ∷ bs) = is_name b && are_name bs

-- bytes of a language
abbrev pub are_lang : List ℕ → Bool
are_lang [] = true
are_lang (b ∷ bs) = is_lang b && are_lang bs

-- what stands after `<`: characters, and the `>`
abbrev pub iri_rest : List ℕ → Bool
iri_rest [] = false
iri_rest (b ∷ bs) = if b == greater then is_empty bs else is_iri b && iri_rest bs

-- what stands after `"`: characters, and the closing quote; the Bool says whether a backslash stands before
abbrev pub str_rest : Bool → List ℕ → Bool
str_rest escaped [] = false
str_rest true (b ∷ bs) = (b == quote || b == backslash) && str_rest false bs
str_rest false (b ∷ bs) = if b == quote then is_empty bs else str_rest (b == backslash) bs

-- characters of a string, each whole, none of them the closing quote; the Bool says whether a backslash stands before
abbrev pub are_chars : Bool → List ℕ → Bool
are_chars escaped [] = not escaped
are_chars true (b ∷ bs) = (b == quote || b == backslash) && are_chars false bs
are_chars false (b ∷ bs) = if b == quote then false else are_chars (b == backslash) bs

-- the form of a token of each kind
abbrev pub is_token : TokenKind → List ℕ → Bool
is_token k [] = false
is_token Open (b ∷ bs) = b == open_parenthesis && is_empty bs
is_token Close (b ∷ bs) = b == close_parenthesis && is_empty bs
is_token Equals (b ∷ bs) = b == equals && is_empty bs
is_token Carets (b ∷ []) = false
is_token Carets (b ∷ c ∷ bs) = b == caret && c == caret && is_empty bs
is_token Lang (b ∷ []) = false
is_token Lang (b ∷ c ∷ bs) = b == at_sign && is_lang c && are_lang bs
is_token Iri (b ∷ bs) = b == less && iri_rest bs
is_token Name (b ∷ bs) = is_name b && are_name bs
is_token Str (b ∷ bs) = b == quote && str_rest false bs

-- blanks and whole comments; the Bool says whether a comment is open
abbrev pub are_blank : Bool → List ℕ → Bool
are_blank comment [] = not comment
are_blank true (b ∷ bs) = are_blank (not (b == line_feed)) bs
are_blank false (b ∷ bs) = if b == hash then are_blank true bs else is_blank b && are_blank false bs

-- blanks and comments, where the last comment may go up to the end
abbrev pub ends_blank : Bool → List ℕ → Bool
ends_blank comment [] = true
ends_blank true (b ∷ bs) = ends_blank (not (b == line_feed)) bs
ends_blank false (b ∷ bs) = if b == hash then ends_blank true bs else is_blank b && ends_blank false bs

-- how many line feeds there are
abbrev pub feeds : List ℕ → ℕ
feeds [] = 0
feeds (b ∷ bs) = (if b == line_feed then 1 else 0) + feeds bs
