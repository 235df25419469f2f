-- Reading token by token gives exactly the tokens of a text, or its first breach.
use Rattle.std.proofs.Common.{◌≡◌, inl, inr, ℕ, zero, suc, ◌+◌, ◌≤◌, ◌==◌, ◌&&◌, ◌||◌, Bool, true, false, List, ◌∷◌, [], ◌++◌, length, drop, refl, ap, sym, ◌∙◌, subst, arith}
use Rattle.std.specs.Prelude.{Option, Some, None}
use Rattle.std.proofs.lemmas.List.{length-append}
use Rattle.std.proofs.lemmas.Bool.{and_parts, cases_Bool}
use Rattle.mast_source.proofs.ByteLemmas.{is_byte, other_byte}
use Rattle.mast_source.proofs.ListLemmas.{drop_split}
use Rattle.std.proofs.Math.ListN.{drop_of_length-le}
use Rattle.std.proofs.Math.Seq.{drop-append_seam}
use Rattle.mast_sql.specs.declared.token.SqlToken.{SqlToken}
use Rattle.mast_sql.specs.declared.token.SqlKind.{SqlKind}
use Rattle.mast_sql.specs.declared.token.SqlKind.TheVariants.{Word, Pname, Var, Iri, Integer, Quoted, Doubled, Sign}
use Rattle.mast_sql.specs.declared.scanner.Scanned.{Scanned}
use Rattle.mast_sql.specs.declared.scanner.Gap.TheVariants.{Plain}
use Rattle.mast_sql.specs.declared.scanner.ScanState.TheVariants.{Start}
use Rattle.mast_sql.specs.Tokens.{is_letter, is_digit, is_single, is_blank, are_gap, is_token, are_word, are_digits, pname_rest, word, iri_rest, number, quoted_rest, doubled_rest, is_sign}
use Rattle.mast_sql.specs.inside.Scanner.{longest, gap_scan}
use Rattle.mast_sql.specs.Source.{IsLongest, Lexes, NoGap, Stops}
use Rattle.mast_sql.specs.inside.Lexed.{Lexed, read, wrong, added, on_scanned, on_rest, lexed}
use Rattle.mast_sql.proofs.FrontLemmas.{ScannedTells, front_tells, front_of_token, front_of_none, word_some}
use Rattle.mast_sql.proofs.GapLemmas.{gap_told, gap_whole, gap_ends}

-- what is read is right
abbrev pub Told : ℕ → List ℕ → Lexed → Type 0
Told at bytes (read tokens) = Lexes at bytes tokens
Told at bytes (wrong n) = Stops bytes n

-- a token begins no blank and no comment

abbrev pub Clear : ℕ → Type 0
Clear b = (is_blank b ≡ false) × ((b == 35) ≡ false) × ((b == 45) ≡ false)

clear_byte : (b n : ℕ) → (b == n) ≡ true → Clear n → Clear b
clear_byte b n e h = subst (λ x. Clear x) (sym (is_byte b n e)) h

-- a byte of a class that holds none of these
clear_class : (test : ℕ → Bool) (b : ℕ) → test b ≡ true → test 32 ≡ false → test 9 ≡ false → test 13 ≡ false → test 10 ≡ false → test 35 ≡ false → test 45 ≡ false → Clear b
unfolding is_blank
clear_class test b h t32 t9 t13 t10 t35 t45 = (rw (other_byte test b 32 h t32, other_byte test b 9 h t9, other_byte test b 13 h t13, other_byte test b 10 h t10) refl, other_byte test b 35 h t35, other_byte test b 45 h t45)

letter_clear : (b : ℕ) → is_letter b ≡ true → Clear b
unfolding is_letter
letter_clear b h = clear_class is_letter b h refl refl refl refl refl refl

digit_clear : (b : ℕ) → is_digit b ≡ true → Clear b
unfolding is_digit
digit_clear b h = clear_class is_digit b h refl refl refl refl refl refl

single_clear : (b : ℕ) → is_single b ≡ true → Clear b
unfolding is_single
single_clear b h = clear_class is_single b h refl refl refl refl refl refl

clear_gap : (b : ℕ) (bs : List ℕ) → Clear b → NoGap (b ∷ bs)
clear_gap b bs h = (h.0, rw (h.1, h.2) refl)

sigil_clear : (b : ℕ) → (b == 63 || b == 36) ≡ true → Clear b
unfolding is_blank
sigil_clear b h = elim (cases_Bool (b == 63)) [
  | inl e ↦ clear_byte b 63 e (refl, refl, refl)
  | inr e ↦ clear_byte b 36 (rw e at h) (refl, refl, refl)
]

sign_clear : (b : ℕ) (w : List ℕ) → is_sign b w ≡ true → Clear b
unfolding is_blank
sign_clear b w h = elim (cases_Bool (b == 60)) [
  | inl e ↦ clear_byte b 60 e (refl, refl, refl)
  | inr e60 ↦ elim (cases_Bool (b == 62)) [
    | inl e ↦ clear_byte b 62 e (refl, refl, refl)
    | inr e62 ↦ elim (cases_Bool (b == 33)) [
      | inl e ↦ clear_byte b 33 e (refl, refl, refl)
      | inr e33 ↦ elim (cases_Bool (b == 94)) [
        | inl e ↦ clear_byte b 94 e (refl, refl, refl)
        | inr e94 ↦ single w e60 e62 e33 e94 h
      ]
    ]
  ]
]
  where
    first : (t : Bool) → (t || false || false) ≡ true → t ≡ true
    first true h = refl
    first false h = absurd (cc)

    single : (w : List ℕ) → (b == 60) ≡ false → (b == 62) ≡ false → (b == 33) ≡ false → (b == 94) ≡ false → is_sign b w ≡ true → Clear b
    single [] e60 e62 e33 e94 h = single_clear b (first (is_single b) (rw (e60, e62) at h))
    single (c ∷ w) e60 e62 e33 e94 h = absurd (let g : false ≡ true = rw (e60, e62, e33, e94) at h in cc)

-- a minus stands before a digit
minus_gap : (b : ℕ) (w rest : List ℕ) → (b == 45) ≡ true → number w ≡ true → NoGap (b ∷ (w ++ rest))
unfolding is_blank is_digit
minus_gap b [] rest e h = absurd (cc)
minus_gap b (c ∷ w) rest e h =
    let p = and_parts (is_digit c) (are_digits w) h in
    subst (λ x. NoGap (x ∷ (c ∷ (w ++ rest)))) (sym (is_byte b 45 e)) (refl, other_byte is_digit c 45 p.0 refl)

token_no_gap : (k : SqlKind) (w rest : List ℕ) → is_token k w ≡ true → NoGap (w ++ rest)
unfolding is_blank
token_no_gap k [] rest h = absurd (cc)
token_no_gap Word (b ∷ w) rest h = let p = and_parts (is_letter b) (are_word w) h in clear_gap b (w ++ rest) (letter_clear b p.0)
token_no_gap Pname (b ∷ w) rest h = elim (cases_Bool (b == 58)) [
  | inl e ↦ clear_gap b (w ++ rest) (clear_byte b 58 e (refl, refl, refl))
  | inr e ↦
      let g : (is_letter b && pname_rest w) ≡ true = rw e at h in
      let p = and_parts (is_letter b) (pname_rest w) g in
      clear_gap b (w ++ rest) (letter_clear b p.0)
]
token_no_gap Var (b ∷ w) rest h = let p = and_parts (b == 63 || b == 36) (word w) h in clear_gap b (w ++ rest) (sigil_clear b p.0)
token_no_gap Iri (b ∷ w) rest h = let p = and_parts (b == 60) (iri_rest w) h in clear_gap b (w ++ rest) (clear_byte b 60 p.0 (refl, refl, refl))
token_no_gap Integer (b ∷ w) rest h = elim (cases_Bool (b == 45)) [
  | inl e ↦ minus_gap b w rest e (rw e at h)
  | inr e ↦
      let g : (is_digit b && are_digits w) ≡ true = rw e at h in
      let p = and_parts (is_digit b) (are_digits w) g in
      clear_gap b (w ++ rest) (digit_clear b p.0)
]
token_no_gap Quoted (b ∷ w) rest h = let p = and_parts (b == 39) (quoted_rest false w) h in clear_gap b (w ++ rest) (clear_byte b 39 p.0 (refl, refl, refl))
token_no_gap Doubled (b ∷ w) rest h = let p = and_parts (b == 34) (doubled_rest false w) h in clear_gap b (w ++ rest) (clear_byte b 34 p.0 (refl, refl, refl))
token_no_gap Sign (b ∷ w) rest h = clear_gap b (w ++ rest) (sign_clear b w h)

-- what is read is right

cons_told : (at : ℕ) (bs gap word rest : List ℕ) (t : SqlToken) (l : Lexed) → bs ≡ gap ++ (word ++ rest) → are_gap false gap ≡ true → IsLongest t.kind word rest → t.from ≡ at + length gap → t.to ≡ t.from + length word → Told t.to rest l → Told at bs (added (t ∷ []) l)
cons_told at bs gap word rest t (read ts) e b i f o h = (gap, word, rest, e, b, i, f, o, h)
cons_told at bs gap word rest t (wrong n) e b i f o h =
    let more : suc n ≡ length (t ∷ []) + n = omega arith in
    subst (λ m. Stops bs m) more (gap, word, rest, t.kind, e, b, i, h)

front_told : (turns at : ℕ) (bs gap after : List ℕ) (f : Option Scanned) → bs ≡ gap ++ after → are_gap false gap ≡ true → NoGap after → ScannedTells after f → length bs ≤ suc turns → ((from : ℕ) (rest : List ℕ) → length rest ≤ turns → Told from rest (lexed turns from rest)) → Told at bs (on_scanned f (at + length gap) after (lexed turns))
front_told turns at bs gap after None e b no_gap t size more = (gap, after, e, b, no_gap, t)
front_told turns at bs gap after (Some f) e b no_gap t size more =
    let word = t.0 in
    let rest = t.1 in
    let from = at + length gap in
    let token : SqlToken = record { kind = f.kind; from = from; to = from + f.size } in
    let some = word_some f.kind word t.3.form in
    let size_all : length bs ≡ length gap + length after = ap length e ∙ length-append gap after in
    let size_after : length after ≡ length word + length rest = ap length t.2 ∙ length-append word rest in
    let told : Told (from + f.size) rest (lexed turns (from + f.size) rest) = more (from + f.size) rest (omega arith) in
    let whole : Told at bs (added (token ∷ []) (lexed turns (from + f.size) rest)) = cons_told at bs gap word rest token (lexed turns (from + f.size) rest) (e ∙ ap (λ x. gap ++ x) t.2) b t.3 refl (ap (λ x. from + x) (sym t.4)) told in
    subst (λ x. Told at bs (added (token ∷ []) (lexed turns (from + f.size) x))) (sym (drop_split word rest after f.size t.2 t.4)) whole

rest_told : (turns at : ℕ) (bs gap after : List ℕ) → bs ≡ gap ++ after → are_gap false gap ≡ true → NoGap after → length bs ≤ suc turns → ((from : ℕ) (rest : List ℕ) → length rest ≤ turns → Told from rest (lexed turns from rest)) → Told at bs (on_rest (at + length gap) after (lexed turns))
rest_told turns at bs gap [] e b no_gap size more = absurd no_gap
rest_told turns at bs gap (c ∷ after) e b no_gap size more = front_told turns at bs gap (c ∷ after) (longest Start 0 None (c ∷ after)) e b no_gap (front_tells (c ∷ after)) size more

-- what is read is right
pub lexed_told : (turns at : ℕ) (bs : List ℕ) → length bs ≤ turns → Told at bs (lexed turns at bs)
lexed_told zero at [] h = refl
lexed_told zero at (b ∷ bs) h = absurd (omega arith)
lexed_told (suc turns) at bs h = elim (gap_told bs) [
  | inl t ↦
      let l = t.1 in
      let none : drop (gap_scan 0 Plain bs) bs ≡ [] = drop_of_length-le bs (omega arith) in
      subst (λ x. Told at bs (on_rest (at + gap_scan 0 Plain bs) x (lexed turns))) (sym none) t.0
  | inr t ↦
      let told : Told at bs (on_rest (at + length t.0) t.1 (lexed turns)) = rest_told turns at bs t.0 t.1 t.2 t.3 t.5 h (λ from rest small. lexed_told turns from rest small) in
      subst (λ x. Told at bs (on_rest (at + x) (drop (gap_scan 0 Plain bs) bs) (lexed turns))) t.4
      (subst (λ x. Told at bs (on_rest (at + length t.0) x (lexed turns))) (sym (drop_split t.0 t.1 bs (gap_scan 0 Plain bs) t.2 t.4)) told)
]

-- what is right is read

gap_turn : (turns at : ℕ) (bs gap after : List ℕ) → bs ≡ gap ++ after → are_gap false gap ≡ true → NoGap after → lexed (suc turns) at bs ≡ on_rest (at + length gap) after (lexed turns)
gap_turn turns at bs gap after e b no_gap =
    let size : length gap ≡ gap_scan 0 Plain bs = sym (ap (λ x. gap_scan 0 Plain x) e ∙ gap_whole gap after b no_gap) in
    ap (λ x. on_rest (at + x) (drop (gap_scan 0 Plain bs) bs) (lexed turns)) (sym size)
    ∙ ap (λ x. on_rest (at + length gap) x (lexed turns)) (drop_split gap after bs (gap_scan 0 Plain bs) e size)

rest_front : (from : ℕ) (after : List ℕ) (more : ℕ → List ℕ → Lexed) → NoGap after → on_rest from after more ≡ on_scanned (longest Start 0 None after) from after more
rest_front from [] more h = absurd h
rest_front from (b ∷ after) more h = refl

token_is : (t : SqlToken) (from to : ℕ) → t.from ≡ from → t.to ≡ to → ◌≡◌ {A = SqlToken} (record { kind = t.kind; from = from; to = to }) t
token_is t from to f o = λ i. record { kind = t.kind; from = sym f i; to = sym o i }

token_turn : (turns at : ℕ) (bs gap word rest : List ℕ) (k : SqlKind) → bs ≡ gap ++ (word ++ rest) → are_gap false gap ≡ true → IsLongest k word rest → lexed (suc turns) at bs ≡ added (record { kind = k; from = at + length gap; to = at + length gap + length word } ∷ []) (lexed turns (at + length gap + length word) rest)
token_turn turns at bs gap word rest k e b i =
    let from = at + length gap in
    let token : SqlToken = record { kind = k; from = from; to = from + length word } in
    let no_gap = token_no_gap k word rest i.form in
    gap_turn turns at bs gap (word ++ rest) e b no_gap
    ∙ rest_front from (word ++ rest) (lexed turns) no_gap
    ∙ ap (λ f. on_scanned f from (word ++ rest) (lexed turns)) (front_of_token k word rest i)
    ∙ ap (λ x. added (token ∷ []) (lexed turns (from + length word) x)) (drop-append_seam word rest)

-- the same turn, with the token as it is given
given_turn : (turns at : ℕ) (bs gap word rest : List ℕ) (t : SqlToken) → bs ≡ gap ++ (word ++ rest) → are_gap false gap ≡ true → IsLongest t.kind word rest → t.from ≡ at + length gap → t.to ≡ t.from + length word → lexed (suc turns) at bs ≡ added (t ∷ []) (lexed turns t.to rest)
given_turn turns at bs gap word rest t e b i f o =
    let to : t.to ≡ at + length gap + length word = o ∙ ap (λ x. x + length word) f in
    token_turn turns at bs gap word rest t.kind e b i
    ∙ ap (λ x. added (x ∷ []) (lexed turns (at + length gap + length word) rest)) (token_is t (at + length gap) (at + length gap + length word) f to)
    ∙ ap (λ x. added (t ∷ []) (lexed turns x rest)) (sym to)

smaller : (turns : ℕ) (bs gap word rest : List ℕ) (k : SqlKind) → bs ≡ gap ++ (word ++ rest) → is_token k word ≡ true → length bs ≤ suc turns → length rest ≤ turns
smaller turns bs gap word rest k e i h =
    let some = word_some k word i in
    let size : length bs ≡ length gap + length (word ++ rest) = ap length e ∙ length-append gap (word ++ rest) in
    let more = length-append word rest in
    omega arith

not_empty : (bs gap word rest : List ℕ) (k : SqlKind) → bs ≡ gap ++ (word ++ rest) → is_token k word ≡ true → length bs ≤ 0 → ⊥
not_empty bs gap word rest k e i h =
    let some = word_some k word i in
    let size : length bs ≡ length gap + length (word ++ rest) = ap length e ∙ length-append gap (word ++ rest) in
    let more = length-append word rest in
    omega arith

-- the tokens of bytes are read
pub lexes_read : (turns at : ℕ) (bs : List ℕ) (ts : List SqlToken) → length bs ≤ turns → Lexes at bs ts → lexed turns at bs ≡ read ts
lexes_read zero at bs [] h t = refl
lexes_read zero at bs (u ∷ ts) h t = absurd (not_empty bs t.0 t.1 t.2 u.kind t.3 t.5.form h)
lexes_read (suc turns) at bs [] h t =
    let l = gap_ends bs t in
    let none : drop (gap_scan 0 Plain bs) bs ≡ [] = drop_of_length-le bs (omega arith) in
    ap (λ x. on_rest (at + gap_scan 0 Plain bs) x (lexed turns)) none
lexes_read (suc turns) at bs (u ∷ ts) h t =
    given_turn turns at bs t.0 t.1 t.2 u t.3 t.4 t.5 t.6 t.7
    ∙ ap (λ x. added (u ∷ []) x) (lexes_read turns u.to t.2 ts (smaller turns bs t.0 t.1 t.2 u.kind t.3 t.5.form h) t.8)

-- the first breach of bytes is read
pub stops_wrong : (turns at : ℕ) (bs : List ℕ) (n : ℕ) → length bs ≤ turns → Stops bs n → lexed turns at bs ≡ wrong n
stops_wrong zero at bs zero h t = absurd (nothing t.1 t.4 (let l = ap length t.2 ∙ length-append t.0 t.1 in omega arith))
  where
    nothing : (rest : List ℕ) → NoGap rest → length rest ≤ 0 → ⊥
    nothing [] n h = n
    nothing (c ∷ rest) n h = omega arith
stops_wrong zero at bs (suc n) h t = absurd (not_empty bs t.0 t.1 t.2 t.3 t.4 t.6.form h)
stops_wrong (suc turns) at bs zero h t =
    gap_turn turns at bs t.0 t.1 t.2 t.3 t.4
    ∙ rest_front (at + length t.0) t.1 (lexed turns) t.4
    ∙ ap (λ f. on_scanned f (at + length t.0) t.1 (lexed turns)) (front_of_none t.1 t.5)
stops_wrong (suc turns) at bs (suc n) h t =
    let from = at + length t.0 in
    let to = from + length t.1 in
    let token : SqlToken = record { kind = t.3; from = from; to = to } in
    let more : length (token ∷ []) + n ≡ suc n = omega arith in
    token_turn turns at bs t.0 t.1 t.2 t.3 t.4 t.5 t.6
    ∙ ap (λ x. added (token ∷ []) x) (stops_wrong turns to t.2 n (smaller turns bs t.0 t.1 t.2 t.3 t.4 t.6.form h) t.7)
    ∙ ap (λ m. wrong m) more
