-- The scanner: an automaton that reads bytes one by one. What it accepts is said by the forms in Tokens.
use Rattle.std.specs.Prelude.{ℕ, ◌+◌, ◌<◌, ◌≤◌, ◌==◌, ◌||◌, Bool, true, false, if◌then◌else◌, List, [], ◌∷◌, Option, Some, None}
use Rattle.mast_sql.specs.declared.token.SqlKind.{SqlKind}
use Rattle.mast_sql.specs.declared.token.SqlKind.TheVariants as kind
use Rattle.mast_sql.specs.declared.scanner.ScanState.{ScanState}
use Rattle.mast_sql.specs.declared.scanner.ScanState.TheVariants.{Start, Name, Colon, Run, Dot, Sigil, Variable, Less, Scheme, Inside, Minus, Digits, Quote, Closed, Chars, Escape, Greater, Bang, Caret, End}
use Rattle.mast_sql.specs.declared.scanner.Scanned.{Scanned}
use Rattle.mast_sql.specs.declared.scanner.Gap.{Gap}
use Rattle.mast_sql.specs.declared.scanner.Gap.TheVariants.{Plain, Dash, Comment}
use Rattle.mast_source.specs.Bytes.{line_feed, exclamation, quote, hash, dollar, single_quote, dash, dot, colon, less, equals, greater, question, backslash, caret}
use Rattle.mast_sql.specs.Tokens.{is_alpha, is_digit, is_letter, is_word, is_local, is_scheme, is_iri, is_blank, is_single}

-- the value, where the test holds
abbrev pub when : {A : Type 0} → Bool → A → Option A
when true a = Some a
when false a = None

-- the first byte of a token
abbrev pub start : ℕ → Option ScanState
start b =
    if is_letter b then Some Name else if is_digit b then Some Digits else if is_single b then Some (End kind.Sign)
    else if b == colon then Some Colon else if b == question || b == dollar then Some Sigil
    else if b == less then Some Less else if b == greater then Some Greater
    else if b == exclamation then Some Bang else if b == caret then Some Caret
    else if b == dash then Some Minus else if b == single_quote then Some Quote else when (b == quote) Chars

-- one state where the first test holds, and another where the second does
abbrev pub either : Bool → ScanState → Bool → ScanState → Option ScanState
either first one second other = if first then Some one else when second other

-- the state behind a byte, if a token goes on with it
abbrev pub step : ScanState → ℕ → Option ScanState
step Start b = start b
step Name b = either (b == colon) Colon (is_word b) Name
step Colon b = when (is_local b) Run
step Run b = either (b == dot) Dot (is_local b) Run
step Dot b = when (is_local b) Run
step Sigil b = when (is_letter b) Variable
step Variable b = when (is_word b) Variable
step Less b = either (b == greater || b == equals) (End kind.Sign) (is_alpha b) Scheme
step Scheme b = either (b == colon) Inside (is_scheme b) Scheme
step Inside b = either (b == greater) (End kind.Iri) (is_iri b) Inside
step Minus b = when (is_digit b) Digits
step Digits b = when (is_digit b) Digits
step Quote b = either (b == single_quote) Closed true Quote
step Closed b = when (b == single_quote) Quote
step Chars b = if b == quote then Some (End kind.Doubled) else either (b == backslash) Escape true Chars
step Escape b = when (b == quote || b == backslash) Chars
step Greater b = when (b == equals) (End kind.Sign)
step Bang b = when (b == equals) (End kind.Sign)
step Caret b = when (b == caret) (End kind.Sign)
step (End k) b = None

-- the kind of a token that may end here
abbrev pub accept : ScanState → Option SqlKind
accept Name = Some kind.Word
accept Colon = Some kind.Pname
accept Run = Some kind.Pname
accept Variable = Some kind.Var
accept Less = Some kind.Sign
accept Greater = Some kind.Sign
accept Digits = Some kind.Integer
accept Closed = Some kind.Quoted
accept (End k) = Some k
accept _ = None

-- on a state, or without one
abbrev pub on_step : {A : Type 0} → Option ScanState → A → (ScanState → A) → A
on_step None none on = none
on_step (Some s) none on = on s

-- the kind of the token that the bytes are, from a state on
abbrev pub accepts : ScanState → List ℕ → Option SqlKind
accepts s [] = accept s
accepts s (b ∷ bs) = on_step (step s b) None (λ t. accepts t bs)

-- a longer token, where one ends here
abbrev pub better : Option SqlKind → ℕ → Option Scanned → Option Scanned
better None n best = best
better (Some k) n best = Some (record { kind = k; size = n })

-- the longest front that is accepted, where n bytes were read before and `best` is the longest among them
abbrev pub longest : ScanState → ℕ → Option Scanned → List ℕ → Option Scanned
longest s n best [] = best
longest s n best (b ∷ bs) = on_step (step s b) best (λ t. longest t (n + 1) (better (accept t) (n + 1) best) bs)

-- a token takes a byte at least, and is within the bytes
abbrev pub ScannedWithin : ℕ → Option Scanned → Type 0
ScannedWithin most None = Unit {0}
ScannedWithin most (Some f) = (0 < f.size) × (f.size ≤ most)

-- a line feed ends a comment
abbrev pub in_comment : ℕ → Gap
in_comment b = if b == line_feed then Plain else Comment

-- what a byte leaves open between tokens, and how many bytes are then read for certain: a dash alone is none of them
abbrev pub between : Gap → ℕ → Option (Gap × ℕ)
between Plain b =
    if b == hash then Some (Comment, 1) else if b == dash then Some (Dash, 0)
    else if is_blank b then Some (Plain, 1) else None
between Dash b = if b == dash then Some (Comment, 2) else None
between Comment b = Some (in_comment b, 1)

-- on what is open, or where the gap has ended
abbrev pub on_gap : Option (Gap × ℕ) → ℕ → (Gap → ℕ → ℕ) → ℕ
on_gap None n on = n
on_gap (Some p) n on = on p.0 p.1

-- how far blanks and comments go, where n bytes of them were read before
abbrev pub gap_scan : ℕ → Gap → List ℕ → ℕ
gap_scan n gap [] = n
gap_scan n gap (b ∷ bs) = on_gap (between gap b) n (λ next more. gap_scan (n + more) next bs)
