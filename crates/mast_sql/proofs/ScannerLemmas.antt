-- What each state of the scanner accepts.
use Rattle.std.proofs.Common.{◌≡◌, inl, inr, ℕ, ◌==◌, ◌||◌, Bool, true, false, List, ◌∷◌, [], refl, sym, ◌∙◌, subst}
use Rattle.std.specs.Prelude.{Option, Some}
use Rattle.std.proofs.lemmas.Bool.{cases_Bool}
use Rattle.mast_source.proofs.ByteLemmas.{is_byte}
use Rattle.mast_sql.specs.declared.token.SqlKind.{SqlKind}
use Rattle.mast_sql.specs.declared.token.SqlKind.TheVariants.{Word, Pname, Var, Iri, Integer, Quoted, Doubled, Sign}
use Rattle.mast_sql.specs.declared.scanner.ScanState.{ScanState}
use Rattle.mast_sql.specs.declared.scanner.ScanState.TheVariants.{Name, Colon, Run, Dot, Sigil, Variable, Less, Scheme, Inside, Minus, Digits, Quote, Closed, Chars, Escape, Greater, Bang, Caret, End}
use Rattle.mast_sql.specs.Tokens.{is_alpha, is_digit, is_letter, is_word, is_local, is_scheme, is_iri, is_single, is_end, are_digits, are_word, number, word, run_rest, is_run, pname_rest, iri_chars, scheme_rest, iri_rest, quoted_rest, doubled_rest, is_sign}
use Rattle.mast_sql.specs.inside.Scanner.{when, accepts}

-- what each state accepts

-- behind a whole token nothing
pub end_accepts : (k : SqlKind) (w : List ℕ) → accepts (End k) w ≡ when (is_end w) k
end_accepts k [] = refl
end_accepts k (b ∷ w) = refl

-- behind a digit, digits
pub digits_accepts : (w : List ℕ) → accepts Digits w ≡ when (are_digits w) Integer
digits_accepts [] = refl
digits_accepts (b ∷ w) = elim (cases_Bool (is_digit b)) [
  | inl e ↦ rw e (digits_accepts w)
  | inr e ↦ rw e refl
]

-- behind a minus, a digit and digits
pub minus_accepts : (w : List ℕ) → accepts Minus w ≡ when (number w) Integer
minus_accepts [] = refl
minus_accepts (b ∷ w) = elim (cases_Bool (is_digit b)) [
  | inl e ↦ rw e (digits_accepts w)
  | inr e ↦ rw e refl
]

variable_accepts : (w : List ℕ) → accepts Variable w ≡ when (are_word w) Var
variable_accepts [] = refl
variable_accepts (b ∷ w) = elim (cases_Bool (is_word b)) [
  | inl e ↦ rw e (variable_accepts w)
  | inr e ↦ rw e refl
]

-- behind `?` or `$`, a word
pub sigil_accepts : (w : List ℕ) → accepts Sigil w ≡ when (word w) Var
sigil_accepts [] = refl
sigil_accepts (b ∷ w) = elim (cases_Bool (is_letter b)) [
  | inl e ↦ rw e (variable_accepts w)
  | inr e ↦ rw e refl
]

abbrev pub in_run : Bool → ScanState
in_run true = Dot
in_run false = Run

run_accepts : (dot : Bool) (w : List ℕ) → accepts (in_run dot) w ≡ when (run_rest dot w) Pname
run_accepts true [] = refl
run_accepts false [] = refl
run_accepts true (b ∷ w) = elim (cases_Bool (is_local b)) [
  | inl e ↦ rw e (run_accepts false w)
  | inr e ↦ rw e refl
]
run_accepts false (b ∷ w) = elim (cases_Bool (b == 46)) [
  | inl d ↦ rw d (run_accepts true w)
  | inr d ↦ elim (cases_Bool (is_local b)) [
    | inl e ↦ rw (d, e) (run_accepts false w)
    | inr e ↦ rw (d, e) refl
  ]
]

-- behind a colon, a run
pub colon_accepts : (w : List ℕ) → accepts Colon w ≡ when (is_run w) Pname
colon_accepts [] = refl
colon_accepts (b ∷ w) = elim (cases_Bool (is_local b)) [
  | inl e ↦ rw e (run_accepts false w)
  | inr e ↦ rw e refl
]

-- a word, or a word with a colon and a run
abbrev pub name_kind : Bool → Bool → Option SqlKind
name_kind true pname = Some Word
name_kind false pname = when pname Pname

-- a colon is no part of a word
pub colon_no_word : (b : ℕ) → (b == 58) ≡ true → is_word b ≡ false
unfolding is_word
colon_no_word b e = subst (λ x. is_word x ≡ false) (sym (is_byte b 58 e)) refl

-- behind a letter, the rest of a word or of a Pname
pub name_accepts : (w : List ℕ) → accepts Name w ≡ name_kind (are_word w) (pname_rest w)
name_accepts [] = refl
name_accepts (b ∷ w) = elim (cases_Bool (b == 58)) [
  | inl d ↦ rw (d, colon_no_word b d) (colon_accepts w)
  | inr d ↦ elim (cases_Bool (is_word b)) [
    | inl e ↦ rw (d, e) (name_accepts w)
    | inr e ↦ rw (d, e) refl
  ]
]

inside_accepts : (w : List ℕ) → accepts Inside w ≡ when (iri_chars w) Iri
inside_accepts [] = refl
inside_accepts (b ∷ w) = elim (cases_Bool (b == 62)) [
  | inl d ↦ rw d (end_accepts Iri w)
  | inr d ↦ elim (cases_Bool (is_iri b)) [
    | inl e ↦ rw (d, e) (inside_accepts w)
    | inr e ↦ rw (d, e) refl
  ]
]

scheme_accepts : (w : List ℕ) → accepts Scheme w ≡ when (scheme_rest w) Iri
scheme_accepts [] = refl
scheme_accepts (b ∷ w) = elim (cases_Bool (b == 58)) [
  | inl d ↦ rw d (inside_accepts w)
  | inr d ↦ elim (cases_Bool (is_scheme b)) [
    | inl e ↦ rw (d, e) (scheme_accepts w)
    | inr e ↦ rw (d, e) refl
  ]
]

abbrev pub in_quotes : Bool → ScanState
in_quotes true = Closed
in_quotes false = Quote

-- inside single quotes, the rest of them
pub quoted_accepts : (quote : Bool) (w : List ℕ) → accepts (in_quotes quote) w ≡ when (quoted_rest quote w) Quoted
quoted_accepts true [] = refl
quoted_accepts false [] = refl
quoted_accepts true (b ∷ w) = elim (cases_Bool (b == 39)) [
  | inl e ↦ rw e (quoted_accepts false w)
  | inr e ↦ rw e refl
]
quoted_accepts false (b ∷ w) = elim (cases_Bool (b == 39)) [
  | inl e ↦ rw e (quoted_accepts true w)
  | inr e ↦ rw e (quoted_accepts false w)
]

abbrev pub in_chars : Bool → ScanState
in_chars true = Escape
in_chars false = Chars

-- inside double quotes, the rest of them
pub doubled_accepts : (escaped : Bool) (w : List ℕ) → accepts (in_chars escaped) w ≡ when (doubled_rest escaped w) Doubled
doubled_accepts true [] = refl
doubled_accepts false [] = refl
doubled_accepts true (b ∷ w) = elim (cases_Bool (b == 34 || b == 92)) [
  | inl e ↦ rw e (doubled_accepts false w)
  | inr e ↦ rw e refl
]
doubled_accepts false (b ∷ w) = elim (cases_Bool (b == 34)) [
  | inl d ↦ rw d (end_accepts Doubled w)
  | inr d ↦ elim (cases_Bool (b == 92)) [
    | inl e ↦ rw (d, e) (doubled_accepts true w)
    | inr e ↦ rw (d, e) (doubled_accepts false w)
  ]
]

-- what stands behind `<`: an IRI or the rest of a sign
abbrev pub less_kind : Bool → Bool → Option SqlKind
less_kind true iri = Some Sign
less_kind false iri = when iri Iri

sign_no_alpha : (b : ℕ) → (b == 62 || b == 61) ≡ true → is_alpha b ≡ false
unfolding is_alpha
sign_no_alpha b e = elim (cases_Bool (b == 62)) [
  | inl d ↦ subst (λ x. is_alpha x ≡ false) (sym (is_byte b 62 d)) refl
  | inr d ↦ subst (λ x. is_alpha x ≡ false) (sym (is_byte b 61 (rw d at e))) refl
]

-- behind `<`, the rest of a sign or of an IRI
pub less_accepts : (w : List ℕ) → accepts Less w ≡ less_kind (is_sign 60 w) (iri_rest w)
unfolding is_single
less_accepts [] = refl
less_accepts (b ∷ w) = elim (cases_Bool (b == 62 || b == 61)) [
  | inl d ↦ rw (d, sign_no_alpha b d) (end_accepts Sign w ∙ last (is_end w))
  | inr d ↦ elim (cases_Bool (is_alpha b)) [
    | inl e ↦ rw (d, e) (scheme_accepts w)
    | inr e ↦ rw (d, e) refl
  ]
]
  where
    last : (end : Bool) → when end Sign ≡ less_kind end false
    last true = refl
    last false = refl

-- behind `>`, the rest of a sign
pub greater_accepts : (w : List ℕ) → accepts Greater w ≡ when (is_sign 62 w) Sign
unfolding is_single
greater_accepts [] = refl
greater_accepts (b ∷ w) = elim (cases_Bool (b == 61)) [
  | inl e ↦ rw e (end_accepts Sign w)
  | inr e ↦ rw e refl
]

-- behind `!`, the rest of a sign
pub bang_accepts : (w : List ℕ) → accepts Bang w ≡ when (is_sign 33 w) Sign
unfolding is_single
bang_accepts [] = refl
bang_accepts (b ∷ w) = elim (cases_Bool (b == 61)) [
  | inl e ↦ rw e (end_accepts Sign w)
  | inr e ↦ rw e refl
]

-- behind `^`, the rest of a sign
pub caret_accepts : (w : List ℕ) → accepts Caret w ≡ when (is_sign 94 w) Sign
unfolding is_single
caret_accepts [] = refl
caret_accepts (b ∷ w) = elim (cases_Bool (b == 94)) [
  | inl e ↦ rw e (end_accepts Sign w)
  | inr e ↦ rw e refl
]
