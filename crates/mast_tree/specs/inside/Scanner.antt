-- How far a form goes, read byte by byte. What the scans mean is said by the forms in Tokens.
use Rattle.std.specs.Prelude.{ℕ, ◌+◌, ◌<◌, ◌≤◌, ◌==◌, ◌||◌, Bool, true, false, not, if◌then◌else◌, List, [], ◌∷◌}
use Rattle.mast_source.specs.Bytes.{open_parenthesis, close_parenthesis, equals, caret, at_sign, less, greater, quote, backslash, hash, line_feed}
use Rattle.mast_tree.specs.declared.token.TokenKind.TheVariants.{Open, Close, Equals, Carets, Lang, Iri, Name, Str}
use Rattle.mast_tree.specs.declared.token.LexKind.TheVariants.{Character, OpenString, Escape, OpenIri}
use Rattle.mast_tree.specs.declared.scanner.Enclosed.{Enclosed}
use Rattle.mast_tree.specs.declared.scanner.Enclosed.TheVariants.{Whole, Endless, Bad}
use Rattle.mast_tree.specs.declared.scanner.Scanned.{Scanned}
use Rattle.mast_tree.specs.declared.scanner.Scanned.TheVariants.{Token, Wrong}
use Rattle.mast_tree.specs.Tokens.{is_name, is_lang, is_iri, is_blank}

-- how far a name goes
abbrev pub name_scan : ℕ → List ℕ → ℕ
name_scan at [] = at
name_scan at (b ∷ bs) = if is_name b then name_scan (at + 1) bs else at

-- how far a language goes
abbrev pub lang_scan : ℕ → List ℕ → ℕ
lang_scan at [] = at
lang_scan at (b ∷ bs) = if is_lang b then lang_scan (at + 1) bs else at

-- what stands behind `<`
abbrev pub iri_scan : ℕ → List ℕ → Enclosed
iri_scan at [] = Endless
iri_scan at (b ∷ bs) = if b == greater then Whole (at + 1) else if is_iri b then iri_scan (at + 1) bs else Bad at

-- what stands behind a quote; Bad is at what the backslash stands before
abbrev pub str_scan : ℕ → Bool → List ℕ → Enclosed
str_scan at true [] = Bad at
str_scan at false [] = Endless
str_scan at true (b ∷ bs) = if b == quote || b == backslash then str_scan (at + 1) false bs else Bad at
str_scan at false (b ∷ bs) = if b == quote then Whole (at + 1) else str_scan (at + 1) (b == backslash) bs

-- how far blanks and comments go
abbrev pub blank_scan : ℕ → Bool → List ℕ → ℕ
blank_scan at comment [] = at
blank_scan at true (b ∷ bs) = blank_scan (at + 1) (not (b == line_feed)) bs
blank_scan at false (b ∷ bs) = if b == hash then blank_scan (at + 1) true bs else if is_blank b then blank_scan (at + 1) false bs else at

-- all is within the bytes
abbrev pub EnclosedWithin : ℕ → Enclosed → Type 0
EnclosedWithin most (Whole n) = n ≤ most
EnclosedWithin most Endless = Unit {0}
EnclosedWithin most (Bad n) = n ≤ most

-- the token of what stands behind `<`
abbrev pub scanned_iri : Enclosed → Scanned
scanned_iri (Whole n) = Token Iri (n + 1)
scanned_iri Endless = Wrong OpenIri 0
scanned_iri (Bad n) = Wrong OpenIri 0

-- the token of what stands behind a quote
abbrev pub scanned_str : Enclosed → Scanned
scanned_str (Whole n) = Token Str (n + 1)
scanned_str Endless = Wrong OpenString 0
scanned_str (Bad n) = Wrong Escape n

-- the token of what stands behind `^`
abbrev pub scanned_carets : List ℕ → Scanned
scanned_carets [] = Wrong Character 0
scanned_carets (b ∷ bs) = if b == caret then Token Carets 2 else Wrong Character 0

-- the token behind `@`, where a language goes so far
abbrev pub scanned_lang : ℕ → Scanned
scanned_lang n = if n == 0 then Wrong Character 0 else Token Lang (n + 1)

-- the longest token at the front, or what is wrong there
abbrev pub longest_token : List ℕ → Scanned
longest_token [] = Wrong Character 0
longest_token (b ∷ bs) =
    if b == open_parenthesis then Token Open 1 else if b == close_parenthesis then Token Close 1 else if b == equals then Token Equals 1
    else if b == caret then scanned_carets bs else if b == at_sign then scanned_lang (lang_scan 0 bs)
    else if b == less then scanned_iri (iri_scan 0 bs) else if b == quote then scanned_str (str_scan 0 false bs)
    else if is_name b then Token Name (name_scan 0 bs + 1) else Wrong Character 0

-- a token takes a byte at least, and all is within the bytes
abbrev pub ScannedWithin : ℕ → Scanned → Type 0
ScannedWithin most (Token k n) = (0 < n) × (n ≤ most)
ScannedWithin most (Wrong k n) = n ≤ most
