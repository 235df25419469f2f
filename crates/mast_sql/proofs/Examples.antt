-- Worked inputs: what the definitions say of them.
use Rattle.std.proofs.Common.{ℕ, List, ◌∷◌, [], ◌++◌, refl}
use Rattle.std.specs.Prelude.{Some, None, codes, negsuc}
use Rattle.mast_source.specs.Bom.{bom}
use Rattle.mast_terms.specs.declared.value.Value.TheVariants as value
use Rattle.mast_sql.specs.declared.token.SqlKind.{SqlKind}
use Rattle.mast_sql.specs.declared.token.SqlKind.TheVariants.{Word, Pname, Var, Iri, Integer, Quoted, Sign}
use Rattle.mast_sql.specs.declared.token.SqlToken.{SqlToken}
use Rattle.mast_sql.specs.declared.token.SqlLex.{SqlLex}
use Rattle.mast_sql.specs.declared.query.Compare.TheVariants as op
use Rattle.mast_sql.specs.declared.query.Operand.TheVariants as operand
use Rattle.mast_sql.specs.declared.query.SelectItem.{SelectItem}
use Rattle.mast_sql.specs.declared.query.FromEntry.{FromEntry}
use Rattle.mast_sql.specs.declared.query.Comparison.{Comparison}
use Rattle.mast_sql.specs.declared.query.SourceQuery.{SourceQuery}
use Rattle.mast_sql.specs.declared.query.SqlBreach.{SqlBreach}
use Rattle.mast_sql.specs.declared.query.SqlBreachKind.{SqlBreachKind}
use Rattle.mast_sql.specs.declared.query.SqlBreachKind.TheVariants.{Grammar, Aliases}
use Rattle.mast_sql.specs.Tokens.{is_alpha, is_digit, is_letter, is_word, is_local, is_scheme, is_iri, is_blank, is_single}
use Rattle.mast_sql.specs.Source.{AreTokens, IsLexBreach}
use Rattle.mast_sql.specs.Grammar.{plain_entry, IsSourceQuery, IsSqlBreach}
use Rattle.mast_sql.proofs.TokenLawLemmas.{read_tokens, read_breach}
use Rattle.mast_sql.proofs.ReaderLemmas.{is_query, is_breach}

abbrev token : SqlKind → ℕ → ℕ → SqlToken
token kind from to = record { kind = kind; from = from; to = to }

abbrev whole_tokens : ℕ → SqlLex
whole_tokens n = record { token = n }

abbrev breach_at : ℕ → SqlBreachKind → SqlBreach
breach_at n kind = record { token = n; kind = kind }

-- a dot belongs to a run between two characters of it
inner_dot : AreTokens (codes ":a.b") (token Pname 0 4 ∷ [])
unfolding is_alpha is_digit is_letter is_word is_local is_scheme is_iri is_blank is_single
inner_dot = read_tokens (codes ":a.b") (token Pname 0 4 ∷ []) refl

-- and not at its end
last_dot : AreTokens (codes ":a.") (token Pname 0 2 ∷ token Sign 2 3 ∷ [])
unfolding is_alpha is_digit is_letter is_word is_local is_scheme is_iri is_blank is_single
last_dot = read_tokens (codes ":a.") (token Pname 0 2 ∷ token Sign 2 3 ∷ []) refl

-- nor do two of them
two_dots : AreTokens (codes "a:b..c") (token Pname 0 3 ∷ token Sign 3 4 ∷ token Sign 4 5 ∷ token Word 5 6 ∷ [])
unfolding is_alpha is_digit is_letter is_word is_local is_scheme is_iri is_blank is_single
two_dots = read_tokens (codes "a:b..c") (token Pname 0 3 ∷ token Sign 3 4 ∷ token Sign 4 5 ∷ token Word 5 6 ∷ []) refl

-- nor at its beginning
first_dot : AreTokens (codes ":.b") (token Pname 0 1 ∷ token Sign 1 2 ∷ token Word 2 3 ∷ [])
unfolding is_alpha is_digit is_letter is_word is_local is_scheme is_iri is_blank is_single
first_dot = read_tokens (codes ":.b") (token Pname 0 1 ∷ token Sign 1 2 ∷ token Word 2 3 ∷ []) refl

-- a comment begins only where a token may
dashes_in_a_run : AreTokens (codes ":a--b") (token Pname 0 5 ∷ [])
unfolding is_alpha is_digit is_letter is_word is_local is_scheme is_iri is_blank is_single
dashes_in_a_run = read_tokens (codes ":a--b") (token Pname 0 5 ∷ []) refl

-- here one may, and a comment goes up to the end
comment_behind : AreTokens (codes "5--6") (token Integer 0 1 ∷ [])
unfolding is_alpha is_digit is_letter is_word is_local is_scheme is_iri is_blank is_single
comment_behind = read_tokens (codes "5--6") (token Integer 0 1 ∷ []) refl

-- a minus before a digit belongs to the integer
minus : AreTokens (codes "<= -5") (token Sign 0 2 ∷ token Integer 3 5 ∷ [])
unfolding is_alpha is_digit is_letter is_word is_local is_scheme is_iri is_blank is_single
minus = read_tokens (codes "<= -5") (token Sign 0 2 ∷ token Integer 3 5 ∷ []) refl

-- two quotes inside quotes are one
one_quote : AreTokens (codes "'it''s' ''") (token Quoted 0 7 ∷ token Quoted 8 10 ∷ [])
unfolding is_alpha is_digit is_letter is_word is_local is_scheme is_iri is_blank is_single
one_quote = read_tokens (codes "'it''s' ''") (token Quoted 0 7 ∷ token Quoted 8 10 ∷ []) refl

-- an IRI needs its scheme and its end; else its first character is a sign
iri_or_sign : AreTokens (codes "<a:b> <a:b") (token Iri 0 5 ∷ token Sign 6 7 ∷ token Pname 7 10 ∷ [])
unfolding is_alpha is_digit is_letter is_word is_local is_scheme is_iri is_blank is_single
iri_or_sign = read_tokens (codes "<a:b> <a:b") (token Iri 0 5 ∷ token Sign 6 7 ∷ token Pname 7 10 ∷ []) refl

-- a byte order mark is blank at the front
marked : AreTokens (bom ++ codes "?x") (token Var 3 5 ∷ [])
unfolding is_alpha is_digit is_letter is_word is_local is_scheme is_iri is_blank is_single
marked = read_tokens (bom ++ codes "?x") (token Var 3 5 ∷ []) refl

-- and nowhere else
marked_late : IsLexBreach (codes "a " ++ bom) (whole_tokens 1)
unfolding is_alpha is_digit is_letter is_word is_local is_scheme is_iri is_blank is_single
marked_late = read_breach (codes "a " ++ bom) (whole_tokens 1) refl

-- the longest token is taken, and what follows begins none
open_quotes : IsLexBreach (codes "'a''") (whole_tokens 1)
unfolding is_alpha is_digit is_letter is_word is_local is_scheme is_iri is_blank is_single
open_quotes = read_breach (codes "'a''") (whole_tokens 1) refl

-- a dash before a letter begins no token
lone_dash : IsLexBreach (codes "a-b") (whole_tokens 1)
unfolding is_alpha is_digit is_letter is_word is_local is_scheme is_iri is_blank is_single
lone_dash = read_breach (codes "a-b") (whole_tokens 1) refl

-- a backslash before a letter is no escape
no_escape : IsLexBreach (codes "\"a\\b\"") (whole_tokens 0)
unfolding is_alpha is_digit is_letter is_word is_local is_scheme is_iri is_blank is_single
no_escape = read_breach (codes "\"a\\b\"") (whole_tokens 0) refl

-- a column goes out under its own name, and a table is its own alias
abbrev plain_text : List ℕ
plain_text = codes "SELECT id FROM people"

abbrev plain_tokens : List SqlToken
plain_tokens =
    token Word 0 6 ∷ token Word 7 9 ∷ token Word 10 14 ∷ token Word 15 21 ∷ []

abbrev plain_item : SelectItem
plain_item = record { alias = None; column = codes "id"; output = codes "id" }

abbrev plain_query : SourceQuery
plain_query = record { items = plain_item ∷ []; from = plain_entry (codes "people") ∷ []; conditions = [] }

plain : IsSourceQuery plain_text plain_tokens plain_query
unfolding is_alpha is_digit is_letter is_word is_local is_scheme is_iri is_blank is_single
plain = is_query plain_text plain_tokens plain_query (read_tokens plain_text plain_tokens refl) refl

-- keywords in any case, an alias, a name, and `!=`, which is `<>`
abbrev renamed_text : List ℕ
renamed_text = codes "select p.id As n from people p where p.id != -07"

abbrev renamed_tokens : List SqlToken
renamed_tokens =
    token Word 0 6 ∷ token Word 7 8 ∷ token Sign 8 9 ∷ token Word 9 11 ∷ token Word 12 14 ∷ token Word 15 16 ∷
    token Word 17 21 ∷ token Word 22 28 ∷ token Word 29 30 ∷ token Word 31 36 ∷ token Word 37 38 ∷
    token Sign 38 39 ∷ token Word 39 41 ∷ token Sign 42 44 ∷ token Integer 45 48 ∷ []

abbrev renamed_item : SelectItem
renamed_item = record { alias = Some (codes "p"); column = codes "id"; output = codes "n" }

abbrev renamed_entry : FromEntry
renamed_entry = record { table = codes "people"; alias = codes "p" }

abbrev renamed_condition : Comparison
renamed_condition =
    record { left = operand.Column (Some (codes "p")) (codes "id"); op = op.Differ; right = operand.Constant (value.Int (negsuc 6)) }

abbrev renamed_query : SourceQuery
renamed_query = record { items = renamed_item ∷ []; from = renamed_entry ∷ []; conditions = renamed_condition ∷ [] }

renamed : IsSourceQuery renamed_text renamed_tokens renamed_query
unfolding is_alpha is_digit is_letter is_word is_local is_scheme is_iri is_blank is_single
renamed = is_query renamed_text renamed_tokens renamed_query (read_tokens renamed_text renamed_tokens refl) refl

-- no query goes on with this name
abbrev no_from_text : List ℕ
no_from_text = codes "SELECT id people"

abbrev no_from_tokens : List SqlToken
no_from_tokens =
    token Word 0 6 ∷ token Word 7 9 ∷ token Word 10 16 ∷ []

no_from : IsSqlBreach no_from_text no_from_tokens (breach_at 2 Grammar)
unfolding is_alpha is_digit is_letter is_word is_local is_scheme is_iri is_blank is_single
no_from = is_breach no_from_text no_from_tokens (breach_at 2 Grammar) (read_tokens no_from_text no_from_tokens refl) refl

-- at the end the breach is the number of tokens
abbrev no_entry_text : List ℕ
no_entry_text = codes "SELECT id FROM"

abbrev no_entry_tokens : List SqlToken
no_entry_tokens =
    token Word 0 6 ∷ token Word 7 9 ∷ token Word 10 14 ∷ []

no_entry : IsSqlBreach no_entry_text no_entry_tokens (breach_at 3 Grammar)
unfolding is_alpha is_digit is_letter is_word is_local is_scheme is_iri is_blank is_single
no_entry = is_breach no_entry_text no_entry_tokens (breach_at 3 Grammar) (read_tokens no_entry_text no_entry_tokens refl) refl

-- an integer past 64 bits
abbrev too_great_text : List ℕ
too_great_text = codes "SELECT a FROM t WHERE a = 9223372036854775808"

abbrev too_great_tokens : List SqlToken
too_great_tokens =
    token Word 0 6 ∷ token Word 7 8 ∷ token Word 9 13 ∷ token Word 14 15 ∷ token Word 16 21 ∷
    token Word 22 23 ∷ token Sign 24 25 ∷ token Integer 26 45 ∷ []

too_great : IsSqlBreach too_great_text too_great_tokens (breach_at 7 Grammar)
unfolding is_alpha is_digit is_letter is_word is_local is_scheme is_iri is_blank is_single
too_great = is_breach too_great_text too_great_tokens (breach_at 7 Grammar) (read_tokens too_great_text too_great_tokens refl) refl

-- the ninth entry is a limit, whatever follows
abbrev ninth_text : List ℕ
ninth_text = codes "SELECT x FROM a, b, c, d, e, f, g, h, i,,"

abbrev ninth_tokens : List SqlToken
ninth_tokens =
    token Word 0 6 ∷ token Word 7 8 ∷ token Word 9 13 ∷ token Word 14 15 ∷ token Sign 15 16 ∷
    token Word 17 18 ∷ token Sign 18 19 ∷ token Word 20 21 ∷ token Sign 21 22 ∷ token Word 23 24 ∷
    token Sign 24 25 ∷ token Word 26 27 ∷ token Sign 27 28 ∷ token Word 29 30 ∷ token Sign 30 31 ∷
    token Word 32 33 ∷ token Sign 33 34 ∷ token Word 35 36 ∷ token Sign 36 37 ∷ token Word 38 39 ∷
    token Sign 39 40 ∷ token Sign 40 41 ∷ []

ninth : IsSqlBreach ninth_text ninth_tokens (breach_at 19 Aliases)
unfolding is_alpha is_digit is_letter is_word is_local is_scheme is_iri is_blank is_single
ninth = is_breach ninth_text ninth_tokens (breach_at 19 Aliases) (read_tokens ninth_text ninth_tokens refl) refl

-- but a keyword begins no entry
abbrev no_ninth_text : List ℕ
no_ninth_text = codes "SELECT x FROM a, b, c, d, e, f, g, h, where"

abbrev no_ninth_tokens : List SqlToken
no_ninth_tokens =
    token Word 0 6 ∷ token Word 7 8 ∷ token Word 9 13 ∷ token Word 14 15 ∷ token Sign 15 16 ∷
    token Word 17 18 ∷ token Sign 18 19 ∷ token Word 20 21 ∷ token Sign 21 22 ∷ token Word 23 24 ∷
    token Sign 24 25 ∷ token Word 26 27 ∷ token Sign 27 28 ∷ token Word 29 30 ∷ token Sign 30 31 ∷
    token Word 32 33 ∷ token Sign 33 34 ∷ token Word 35 36 ∷ token Sign 36 37 ∷ token Word 38 43 ∷ []

no_ninth : IsSqlBreach no_ninth_text no_ninth_tokens (breach_at 19 Grammar)
unfolding is_alpha is_digit is_letter is_word is_local is_scheme is_iri is_blank is_single
no_ninth = is_breach no_ninth_text no_ninth_tokens (breach_at 19 Grammar) (read_tokens no_ninth_text no_ninth_tokens refl) refl
