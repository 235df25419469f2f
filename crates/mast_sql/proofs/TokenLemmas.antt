-- The machine accepts exactly the forms of tokens.
use Rattle.std.proofs.Common.{◌≡◌, ◌⊎◌, inl, inr, ℕ, ◌==◌, ◌&&◌, ◌||◌, Bool, true, false, List, ◌∷◌, [], refl, ap, sym, ◌∙◌, subst, arith}
use Rattle.std.specs.Prelude.{Option, Some, None}
use Rattle.std.proofs.lemmas.Bool.Decides.{nat_tests}
use Rattle.std.proofs.lemmas.Bool.{and_parts, cases_Bool}
use Rattle.mast_sql.specs.declared.token.SqlKind.{SqlKind}
use Rattle.mast_sql.specs.declared.token.SqlKind.TheVariants.{Word, Pname, Var, Iri, Integer, Quoted, Doubled, Sign}
use Rattle.mast_sql.specs.declared.scanner.ScanState.{ScanState}
use Rattle.mast_sql.specs.declared.scanner.ScanState.TheVariants.{Start, Name, Colon, Sigil, Less, Minus, Digits, Quote, Chars, Greater, Bang, Caret, End}
use Rattle.mast_sql.specs.Tokens.{is_alpha, is_digit, is_letter, is_word, is_single, is_end, are_digits, are_word, number, word, is_run, pname_rest, scheme_rest, iri_rest, quoted_rest, doubled_rest, is_sign, is_token}
use Rattle.mast_sql.specs.inside.Scanner.{when, start, on_step, accepts}
use Rattle.mast_source.proofs.ByteLemmas.{is_byte, other_byte}
use Rattle.mast_sql.proofs.ScannerLemmas.{colon_no_word, end_accepts, digits_accepts, minus_accepts, sigil_accepts, colon_accepts, name_kind, name_accepts, quoted_accepts, doubled_accepts, less_kind, less_accepts, greater_accepts, bang_accepts, caret_accepts}

-- a first byte leads to a state, and what it accepts is what the state accepts of the rest

forth : (b : ℕ) (w : List ℕ) (s : ScanState) → start b ≡ Some s → accepts Start (b ∷ w) ≡ accepts s w
forth b w s e = ap (λ x. on_step x None (λ t. accepts t w)) e

at_byte : (b n : ℕ) (s : ScanState) → (b == n) ≡ true → start n ≡ Some s → start b ≡ Some s
at_byte b n s e h = subst (λ x. start x ≡ Some s) (sym (is_byte b n e)) h

at_58 : start 58 ≡ Some Colon
unfolding is_letter is_digit is_single
at_58 = refl

at_63 : start 63 ≡ Some Sigil
unfolding is_letter is_digit is_single
at_63 = refl

at_36 : start 36 ≡ Some Sigil
unfolding is_letter is_digit is_single
at_36 = refl

at_60 : start 60 ≡ Some Less
unfolding is_letter is_digit is_single
at_60 = refl

at_62 : start 62 ≡ Some Greater
unfolding is_letter is_digit is_single
at_62 = refl

at_33 : start 33 ≡ Some Bang
unfolding is_letter is_digit is_single
at_33 = refl

at_94 : start 94 ≡ Some Caret
unfolding is_letter is_digit is_single
at_94 = refl

at_45 : start 45 ≡ Some Minus
unfolding is_letter is_digit is_single
at_45 = refl

at_39 : start 39 ≡ Some Quote
unfolding is_letter is_digit is_single
at_39 = refl

at_34 : start 34 ≡ Some Chars
unfolding is_letter is_digit is_single
at_34 = refl

letter_colon : (b : ℕ) → is_letter b ≡ true → (b == 58) ≡ false
unfolding is_letter
letter_colon b e = other_byte is_letter b 58 e refl

digit_minus : (b : ℕ) → is_digit b ≡ true → (b == 45) ≡ false
unfolding is_digit
digit_minus b e = other_byte is_digit b 45 e refl

letter_start : (b : ℕ) → is_letter b ≡ true → start b ≡ Some Name
letter_start b e = rw e refl

-- a digit is no letter, and a sign by itself is neither

digit_letter : (b : ℕ) → is_digit b ≡ true → is_letter b ≡ true → ⊥
unfolding is_letter is_digit
digit_letter b e h = grind (arith, nat_tests)

single_letter : (b : ℕ) → is_single b ≡ true → is_letter b ≡ true → ⊥
unfolding is_letter is_single
single_letter b e h = grind (arith, nat_tests)

single_digit : (b : ℕ) → is_single b ≡ true → is_digit b ≡ true → ⊥
unfolding is_digit is_single
single_digit b e h = grind (arith, nat_tests)

no : (t : Bool) → (t ≡ true → ⊥) → t ≡ false
no true h = absurd (h refl)
no false h = refl

digit_start : (b : ℕ) → is_digit b ≡ true → start b ≡ Some Digits
digit_start b e = rw (no (is_letter b) (λ h. digit_letter b e h), e) refl

single_start : (b : ℕ) → is_single b ≡ true → start b ≡ Some (End Sign)
single_start b e = rw (no (is_letter b) (λ h. single_letter b e h), no (is_digit b) (λ h. single_digit b e h), e) refl

-- a form is accepted

pname_no_word : (w : List ℕ) → pname_rest w ≡ true → are_word w ≡ false
pname_no_word [] h = absurd (cc)
pname_no_word (b ∷ w) h = elim (cases_Bool (b == 58)) [
  | inl e ↦ rw (colon_no_word b e) refl
  | inr e ↦
      let g : (is_word b && pname_rest w) ≡ true = rw e at h in
      let p = and_parts (is_word b) (pname_rest w) g in
      rw p.0 (pname_no_word w p.1)
]

iri_no_sign : (w : List ℕ) → iri_rest w ≡ true → is_sign 60 w ≡ false
unfolding is_alpha
iri_no_sign [] g = absurd (cc)
iri_no_sign (c ∷ w) g =
    let p = and_parts (is_alpha c) (scheme_rest w) g in
    rw (other_byte is_alpha c 62 p.0 refl, other_byte is_alpha c 61 p.0 refl) refl

mark_start : (b : ℕ) → (b == 63 || b == 36) ≡ true → start b ≡ Some Sigil
mark_start b e = elim (cases_Bool (b == 63)) [
  | inl d ↦ at_byte b 63 Sigil d at_63
  | inr d ↦ at_byte b 36 Sigil (rw d at e) at_36
]

single_accepted : (b : ℕ) (w : List ℕ) → (b == 60) ≡ false → (b == 62) ≡ false → (b == 33) ≡ false → (b == 94) ≡ false → is_sign b w ≡ true → accepts Start (b ∷ w) ≡ Some Sign
single_accepted b [] e60 e62 e33 e94 h = forth b [] (End Sign) (single_start b (single (is_single b) (rw (e60, e62) at h)))
  where
    single : (t : Bool) → (t || false || false) ≡ true → t ≡ true
    single true h = refl
    single false h = absurd (cc)
single_accepted b (c ∷ w) e60 e62 e33 e94 h = absurd (let g : false ≡ true = rw (e60, e62, e33, e94) at h in cc)

-- each token is accepted, with its kind
pub token_accepted : (k : SqlKind) (w : List ℕ) → is_token k w ≡ true → accepts Start w ≡ Some k
token_accepted k [] h = absurd (cc)
token_accepted Word (b ∷ w) h =
    let p = and_parts (is_letter b) (are_word w) h in
    forth b w Name (letter_start b p.0) ∙ name_accepts w ∙ ap (λ x. name_kind x (pname_rest w)) p.1
token_accepted Pname (b ∷ w) h = elim (cases_Bool (b == 58)) [
  | inl e ↦ forth b w Colon (at_byte b 58 Colon e at_58) ∙ colon_accepts w ∙ ap (λ x. when x Pname) (rw e at h)
  | inr e ↦
      let g : (is_letter b && pname_rest w) ≡ true = rw e at h in
      let p = and_parts (is_letter b) (pname_rest w) g in
      forth b w Name (letter_start b p.0) ∙ name_accepts w ∙ ap (λ x. name_kind x (pname_rest w)) (pname_no_word w p.1) ∙ ap (λ x. when x Pname) p.1
]
token_accepted Var (b ∷ w) h =
    let p = and_parts (b == 63 || b == 36) (word w) h in
    forth b w Sigil (mark_start b p.0) ∙ sigil_accepts w ∙ ap (λ x. when x Var) p.1
token_accepted Iri (b ∷ w) h =
    let p = and_parts (b == 60) (iri_rest w) h in
    forth b w Less (at_byte b 60 Less p.0 at_60) ∙ less_accepts w ∙ ap (λ x. less_kind x (iri_rest w)) (iri_no_sign w p.1) ∙ ap (λ x. when x Iri) p.1
token_accepted Integer (b ∷ w) h = elim (cases_Bool (b == 45)) [
  | inl e ↦ forth b w Minus (at_byte b 45 Minus e at_45) ∙ minus_accepts w ∙ ap (λ x. when x Integer) (rw e at h)
  | inr e ↦
      let g : (is_digit b && are_digits w) ≡ true = rw e at h in
      let p = and_parts (is_digit b) (are_digits w) g in
      forth b w Digits (digit_start b p.0) ∙ digits_accepts w ∙ ap (λ x. when x Integer) p.1
]
token_accepted Quoted (b ∷ w) h =
    let p = and_parts (b == 39) (quoted_rest false w) h in
    forth b w Quote (at_byte b 39 Quote p.0 at_39) ∙ quoted_accepts false w ∙ ap (λ x. when x Quoted) p.1
token_accepted Doubled (b ∷ w) h =
    let p = and_parts (b == 34) (doubled_rest false w) h in
    forth b w Chars (at_byte b 34 Chars p.0 at_34) ∙ doubled_accepts false w ∙ ap (λ x. when x Doubled) p.1
token_accepted Sign (b ∷ w) h = elim (cases_Bool (b == 60)) [
  | inl e ↦ forth b w Less (at_byte b 60 Less e at_60) ∙ less_accepts w ∙ ap (λ x. less_kind x (iri_rest w)) (subst (λ x. is_sign x w ≡ true) (is_byte b 60 e) h)
  | inr e60 ↦ elim (cases_Bool (b == 62)) [
    | inl e ↦ forth b w Greater (at_byte b 62 Greater e at_62) ∙ greater_accepts w ∙ ap (λ x. when x Sign) (subst (λ x. is_sign x w ≡ true) (is_byte b 62 e) h)
    | inr e62 ↦ elim (cases_Bool (b == 33)) [
      | inl e ↦ forth b w Bang (at_byte b 33 Bang e at_33) ∙ bang_accepts w ∙ ap (λ x. when x Sign) (subst (λ x. is_sign x w ≡ true) (is_byte b 33 e) h)
      | inr e33 ↦ elim (cases_Bool (b == 94)) [
        | inl e ↦ forth b w Caret (at_byte b 94 Caret e at_94) ∙ caret_accepts w ∙ ap (λ x. when x Sign) (subst (λ x. is_sign x w ≡ true) (is_byte b 94 e) h)
        | inr e94 ↦ single_accepted b w e60 e62 e33 e94 h
      ]
    ]
  ]
]

-- what is accepted has its form

when_some : (t : Bool) (j k : SqlKind) → when t j ≡ Some k → (t ≡ true) × (j ≡ k)
when_some true j k h = (refl, cc)
when_some false j k h = absurd (cc)

name_some : (x y : Bool) (k : SqlKind) → name_kind x y ≡ Some k → ((x ≡ true) × (Word ≡ k)) ⊎ ((y ≡ true) × (Pname ≡ k))
name_some true y k h = inl (refl, cc)
name_some false y k h = inr (when_some y Pname k h)

less_some : (x y : Bool) (k : SqlKind) → less_kind x y ≡ Some k → ((x ≡ true) × (Sign ≡ k)) ⊎ ((y ≡ true) × (Iri ≡ k))
less_some true y k h = inl (refl, cc)
less_some false y k h = inr (when_some y Iri k h)

-- from the state that a first byte leads to
behind : (b : ℕ) (w : List ℕ) (s : ScanState) (k : SqlKind) (o : Option SqlKind) → start b ≡ Some s → accepts s w ≡ o → accepts Start (b ∷ w) ≡ Some k → o ≡ Some k
behind b w s k o e a h = sym a ∙ sym (forth b w s e) ∙ h

has_form : (j k : SqlKind) (w : List ℕ) → j ≡ k → is_token j w ≡ true → is_token k w ≡ true
has_form j k w e h = subst (λ x. is_token x w ≡ true) e h

letter_form : (k : SqlKind) (b : ℕ) (w : List ℕ) → is_letter b ≡ true → accepts Start (b ∷ w) ≡ Some k → is_token k (b ∷ w) ≡ true
letter_form k b w e h = elim (name_some (are_word w) (pname_rest w) k (behind b w Name k (name_kind (are_word w) (pname_rest w)) (letter_start b e) (name_accepts w) h)) [
  | inl t ↦ has_form Word k (b ∷ w) t.1 (rw e t.0)
  | inr t ↦ has_form Pname k (b ∷ w) t.1 (rw (letter_colon b e, e) t.0)
]

less_form : (k : SqlKind) (b : ℕ) (w : List ℕ) → (b == 60) ≡ true → accepts Start (b ∷ w) ≡ Some k → is_token k (b ∷ w) ≡ true
less_form k b w e h = elim (less_some (is_sign 60 w) (iri_rest w) k (behind b w Less k (less_kind (is_sign 60 w) (iri_rest w)) (at_byte b 60 Less e at_60) (less_accepts w) h)) [
  | inl t ↦ has_form Sign k (b ∷ w) t.1 (subst (λ x. is_sign x w ≡ true) (sym (is_byte b 60 e)) t.0)
  | inr t ↦ has_form Iri k (b ∷ w) t.1 (rw e t.0)
]

-- a state that accepts tokens of one kind alone
alone : (j k : SqlKind) (b : ℕ) (w : List ℕ) (s : ScanState) (t : Bool) → start b ≡ Some s → accepts s w ≡ when t j → accepts Start (b ∷ w) ≡ Some k → (t ≡ true → is_token j (b ∷ w) ≡ true) → is_token k (b ∷ w) ≡ true
alone j k b w s t e a h f = let r = when_some t j k (behind b w s k (when t j) e a h) in has_form j k (b ∷ w) r.1 (f r.0)

single_form : (b : ℕ) (w : List ℕ) → is_single b ≡ true → is_end w ≡ true → is_sign b w ≡ true
single_form b [] e h = rw e refl
single_form b (c ∷ w) e h = absurd (cc)

sign_at : (n b : ℕ) (w : List ℕ) → (b == n) ≡ true → is_sign n w ≡ true → is_token Sign (b ∷ w) ≡ true
sign_at n b w e h = subst (λ x. is_sign x w ≡ true) (sym (is_byte b n e)) h

-- what is accepted is a token of that kind
pub accepted_token : (k : SqlKind) (w : List ℕ) → accepts Start w ≡ Some k → is_token k w ≡ true
accepted_token k [] h = absurd (cc)
accepted_token k (b ∷ w) h = elim (cases_Bool (is_letter b)) [
  | inl e ↦ letter_form k b w e h
  | inr el ↦ elim (cases_Bool (is_digit b)) [
    | inl e ↦ alone Integer k b w Digits (are_digits w) (digit_start b e) (digits_accepts w) h (λ t. rw (digit_minus b e, e) t)
    | inr ed ↦ elim (cases_Bool (is_single b)) [
      | inl e ↦ alone Sign k b w (End Sign) (is_end w) (rw (el, ed, e) refl) (end_accepts Sign w) h (λ t. single_form b w e t)
      | inr es ↦ elim (cases_Bool (b == 58)) [
        | inl e ↦ alone Pname k b w Colon (is_run w) (at_byte b 58 Colon e at_58) (colon_accepts w) h (λ t. rw e t)
        | inr e58 ↦ elim (cases_Bool (b == 63 || b == 36)) [
          | inl e ↦ alone Var k b w Sigil (word w) (rw (el, ed, es, e58, e) refl) (sigil_accepts w) h (λ t. rw e t)
          | inr em ↦ elim (cases_Bool (b == 60)) [
            | inl e ↦ less_form k b w e h
            | inr e60 ↦ elim (cases_Bool (b == 62)) [
              | inl e ↦ alone Sign k b w Greater (is_sign 62 w) (at_byte b 62 Greater e at_62) (greater_accepts w) h (λ t. sign_at 62 b w e t)
              | inr e62 ↦ elim (cases_Bool (b == 33)) [
                | inl e ↦ alone Sign k b w Bang (is_sign 33 w) (at_byte b 33 Bang e at_33) (bang_accepts w) h (λ t. sign_at 33 b w e t)
                | inr e33 ↦ elim (cases_Bool (b == 94)) [
                  | inl e ↦ alone Sign k b w Caret (is_sign 94 w) (at_byte b 94 Caret e at_94) (caret_accepts w) h (λ t. sign_at 94 b w e t)
                  | inr e94 ↦ elim (cases_Bool (b == 45)) [
                    | inl e ↦ alone Integer k b w Minus (number w) (at_byte b 45 Minus e at_45) (minus_accepts w) h (λ t. rw e t)
                    | inr e45 ↦ elim (cases_Bool (b == 39)) [
                      | inl e ↦ alone Quoted k b w Quote (quoted_rest false w) (at_byte b 39 Quote e at_39) (quoted_accepts false w) h (λ t. rw e t)
                      | inr e39 ↦ elim (cases_Bool (b == 34)) [
                        | inl e ↦ alone Doubled k b w Chars (doubled_rest false w) (at_byte b 34 Chars e at_34) (doubled_accepts false w) h (λ t. rw e t)
                        | inr e34 ↦ absurd (let g : None ≡ Some k = rw (el, ed, es, e58, em, e60, e62, e33, e94, e45, e39, e34) at h in cc)
                      ]
                    ]
                  ]
                ]
              ]
            ]
          ]
        ]
      ]
    ]
  ]
]
