-- Reading token by token gives exactly the tokens of a source, or its first breach.
use Rattle.std.proofs.Common.{◌≡◌, inl, inr, ℕ, zero, suc, ◌+◌, ◌<◌, ◌≤◌, ◌==◌, ◌&&◌, true, false, List, ◌∷◌, [], ◌++◌, length, take, drop, refl, ap, sym, ◌∙◌, subst, arith}
use Rattle.std.proofs.lemmas.List.{length-append}
use Rattle.std.proofs.lemmas.Bool.{and_parts}
use Rattle.std.proofs.Math.ListN.{drop_of_length-le}
use Rattle.std.proofs.Math.Seq.{take-append_seam, drop-append_seam}
use Rattle.mast_source.proofs.ByteLemmas.{is_byte, other_byte}
use Rattle.mast_source.proofs.ListLemmas.{take_split, drop_split}
use Rattle.mast_tree.specs.declared.token.Token.{Token}
use Rattle.mast_tree.specs.declared.token.TokenKind.{TokenKind}
use Rattle.mast_tree.specs.declared.token.TokenKind.TheVariants.{Open, Close, Equals, Carets, Lang, Iri, Name, Str}
use Rattle.mast_tree.specs.declared.token.LexBreach.{LexBreach}
use Rattle.mast_tree.specs.declared.scanner.Scanned.{Scanned}
use Rattle.mast_tree.specs.declared.scanner.Scanned.TheVariants as scanned
use Rattle.mast_tree.specs.Empty.{is_empty}
use Rattle.mast_tree.specs.Tokens.{is_name, is_blank, are_blank, is_token, iri_rest, str_rest, are_name, are_lang, is_lang, feeds}
use Rattle.mast_tree.specs.inside.Scanner.{blank_scan, longest_token}
use Rattle.mast_tree.specs.Source.{IsLongest, Lexes, NoBlank, Stops}
use Rattle.mast_tree.specs.inside.Lexed.{Lexed, read, wrong, added, on_scanned, on_rest, lexed}
use Rattle.mast_tree.proofs.ScanLemmas.{blank_told, blank_whole, ends_scan}
use Rattle.mast_tree.proofs.LongestLemmas.{ScannedTells, scanned_tells, longest_of_token, longest_of_wrong}

-- what is read is right
abbrev pub Told : ℕ → ℕ → List ℕ → Lexed → Type 0
Told at line bytes (read tokens) = Lexes at line bytes tokens
Told at line bytes (wrong breach) = (before : List Token) × Stops at bytes before breach

-- a token has a byte at least, and begins no blank and no comment

-- a token has a byte at least
pub word_some : (k : TokenKind) (w : List ℕ) → is_token k w ≡ true → 0 < length w
word_some k [] h = absurd (cc)
word_some k (b ∷ w) h = omega arith

blank_byte : (b n : ℕ) → (b == n) ≡ true → is_blank n ≡ false → (n == 35) ≡ false → (is_blank b ≡ false) × ((b == 35) ≡ false)
blank_byte b n e h g = let s = is_byte b n e in (subst (λ x. is_blank x ≡ false) (sym s) h, subst (λ x. (x == 35) ≡ false) (sym s) g)

name_no_blank : (b : ℕ) → is_name b ≡ true → (is_blank b ≡ false) × ((b == 35) ≡ false)
unfolding is_name is_blank
name_no_blank b h = (rw (other_byte is_name b 32 h refl, other_byte is_name b 9 h refl, other_byte is_name b 13 h refl, other_byte is_name b 10 h refl) refl, other_byte is_name b 35 h refl)

token_no_blank : (k : TokenKind) (w rest : List ℕ) → is_token k w ≡ true → NoBlank (w ++ rest)
unfolding is_blank
token_no_blank k [] rest h = absurd (cc)
token_no_blank Open (b ∷ w) rest h = let p = and_parts (b == 40) (is_empty w) h in blank_byte b 40 p.0 refl refl
token_no_blank Close (b ∷ w) rest h = let p = and_parts (b == 41) (is_empty w) h in blank_byte b 41 p.0 refl refl
token_no_blank Equals (b ∷ w) rest h = let p = and_parts (b == 61) (is_empty w) h in blank_byte b 61 p.0 refl refl
token_no_blank Carets (b ∷ []) rest h = absurd (cc)
token_no_blank Carets (b ∷ c ∷ w) rest h = let p = and_parts (b == 94 && c == 94) (is_empty w) h in let q = and_parts (b == 94) (c == 94) p.0 in blank_byte b 94 q.0 refl refl
token_no_blank Lang (b ∷ []) rest h = absurd (cc)
token_no_blank Lang (b ∷ c ∷ w) rest h = let p = and_parts (b == 64 && is_lang c) (are_lang w) h in let q = and_parts (b == 64) (is_lang c) p.0 in blank_byte b 64 q.0 refl refl
token_no_blank Iri (b ∷ w) rest h = let p = and_parts (b == 60) (iri_rest w) h in blank_byte b 60 p.0 refl refl
token_no_blank Name (b ∷ w) rest h = let p = and_parts (is_name b) (are_name w) h in name_no_blank b p.0
token_no_blank Str (b ∷ w) rest h = let p = and_parts (b == 34) (str_rest false w) h in blank_byte b 34 p.0 refl refl

-- what is read is right

cons_told : (at line : ℕ) (bs gap word rest : List ℕ) (t : Token) (l : Lexed) → bs ≡ gap ++ (word ++ rest) → are_blank false gap ≡ true → IsLongest t.kind word rest → t.from ≡ at + length gap → t.to ≡ t.from + length word → t.line ≡ line + feeds gap → Told t.to (t.line + feeds word) rest l → Told at line bs (added (t ∷ []) l)
cons_told at line bs gap word rest t (read ts) e b i f o n h = (gap, word, rest, e, b, i, f, o, n, h)
cons_told at line bs gap word rest t (wrong breach) e b i f o n h = (t ∷ h.0, (gap, word, rest, e, b, i, f, o, h.1))

scanned_told : (turns at line : ℕ) (bs gap after : List ℕ) (f : Scanned) → bs ≡ gap ++ after → are_blank false gap ≡ true → NoBlank after → ScannedTells after f → length bs ≤ suc turns → ((from line : ℕ) (rest : List ℕ) → length rest ≤ turns → Told from line rest (lexed turns from line rest)) → Told at line bs (on_scanned f (at + length gap) (line + feeds gap) after (lexed turns))
scanned_told turns at line bs gap after (scanned.Wrong k n) e b no_blank t size more = ([], (gap, after, n, e, b, no_blank, t.0, t.1, refl))
scanned_told turns at line bs gap after (scanned.Token k n) e b no_blank t size more =
    let word = t.0 in
    let rest = t.1 in
    let from = at + length gap in
    let here = line + feeds gap in
    let token : Token = record { kind = k; from = from; to = from + n; line = here } in
    let some = word_some k word t.3.form in
    let size_all : length bs ≡ length gap + length after = ap length e ∙ length-append gap after in
    let size_after : length after ≡ length word + length rest = ap length t.2 ∙ length-append word rest in
    let told : Told (from + n) (here + feeds word) rest (lexed turns (from + n) (here + feeds word) rest) = more (from + n) (here + feeds word) rest (omega arith) in
    let whole : Told at line bs (added (token ∷ []) (lexed turns (from + n) (here + feeds word) rest)) = cons_told at line bs gap word rest token (lexed turns (from + n) (here + feeds word) rest) (e ∙ ap (λ x. gap ++ x) t.2) b t.3 refl (ap (λ x. from + x) (sym t.4)) refl told in
    subst (λ x. Told at line bs (added (token ∷ []) (lexed turns (from + n) (here + feeds x) (drop n after)))) (sym (take_split word rest after n t.2 t.4))
    (subst (λ x. Told at line bs (added (token ∷ []) (lexed turns (from + n) (here + feeds word) x))) (sym (drop_split word rest after n t.2 t.4)) whole)

rest_told : (turns at line : ℕ) (bs gap after : List ℕ) → bs ≡ gap ++ after → are_blank false gap ≡ true → NoBlank after → length bs ≤ suc turns → ((from line : ℕ) (rest : List ℕ) → length rest ≤ turns → Told from line rest (lexed turns from line rest)) → Told at line bs (on_rest (at + length gap) (line + feeds gap) after (lexed turns))
rest_told turns at line bs gap [] e b no_blank size more = absurd no_blank
rest_told turns at line bs gap (c ∷ after) e b no_blank size more = scanned_told turns at line bs gap (c ∷ after) (longest_token (c ∷ after)) e b no_blank (scanned_tells (c ∷ after)) size more

-- what bytes read as is right
pub lexed_told : (turns at line : ℕ) (bs : List ℕ) → length bs ≤ turns → Told at line bs (lexed turns at line bs)
lexed_told zero at line [] h = refl
lexed_told zero at line (b ∷ bs) h = absurd (omega arith)
lexed_told (suc turns) at line bs h = elim (blank_told bs 0 false) [
  | inl t ↦
      let l = t.1 in
      let none : drop (blank_scan 0 false bs) bs ≡ [] = drop_of_length-le bs (omega arith) in
      subst (λ x. Told at line bs (on_rest (at + length (take (blank_scan 0 false bs) bs)) (line + feeds (take (blank_scan 0 false bs) bs)) x (lexed turns))) (sym none) t.0
  | inr t ↦
      let l = t.4 in
      let size : length t.0 ≡ blank_scan 0 false bs = omega arith in
      let told : Told at line bs (on_rest (at + length t.0) (line + feeds t.0) t.1 (lexed turns)) = rest_told turns at line bs t.0 t.1 t.2 t.3 t.5 h (λ from here rest small. lexed_told turns from here rest small) in
      subst (λ x. Told at line bs (on_rest (at + length x) (line + feeds x) (drop (blank_scan 0 false bs) bs) (lexed turns))) (sym (take_split t.0 t.1 bs (blank_scan 0 false bs) t.2 size))
      (subst (λ x. Told at line bs (on_rest (at + length t.0) (line + feeds t.0) x (lexed turns))) (sym (drop_split t.0 t.1 bs (blank_scan 0 false bs) t.2 size)) told)
]

-- what is right is read

gap_turn : (turns at line : ℕ) (bs gap after : List ℕ) → bs ≡ gap ++ after → are_blank false gap ≡ true → NoBlank after → lexed (suc turns) at line bs ≡ on_rest (at + length gap) (line + feeds gap) after (lexed turns)
gap_turn turns at line bs gap after e b no_blank =
    let size : length gap ≡ blank_scan 0 false bs = sym (ap (λ x. blank_scan 0 false x) e ∙ blank_whole gap after 0 false b no_blank ∙ add_zero (length gap)) in
    ap (λ x. on_rest (at + length x) (line + feeds x) (drop (blank_scan 0 false bs) bs) (lexed turns)) (take_split gap after bs (blank_scan 0 false bs) e size)
    ∙ ap (λ x. on_rest (at + length gap) (line + feeds gap) x (lexed turns)) (drop_split gap after bs (blank_scan 0 false bs) e size)
  where
    add_zero : (n : ℕ) → 0 + n ≡ n
    add_zero n = omega arith

rest_scanned : (from line : ℕ) (after : List ℕ) (more : ℕ → ℕ → List ℕ → Lexed) → NoBlank after → on_rest from line after more ≡ on_scanned (longest_token after) from line after more
rest_scanned from line [] more h = absurd h
rest_scanned from line (b ∷ after) more h = refl

token_turn : (turns at line : ℕ) (bs gap word rest : List ℕ) (k : TokenKind) → bs ≡ gap ++ (word ++ rest) → are_blank false gap ≡ true → IsLongest k word rest → lexed (suc turns) at line bs ≡ added (record { kind = k; from = at + length gap; to = at + length gap + length word; line = line + feeds gap } ∷ []) (lexed turns (at + length gap + length word) (line + feeds gap + feeds word) rest)
token_turn turns at line bs gap word rest k e b i =
    let from = at + length gap in
    let here = line + feeds gap in
    let token : Token = record { kind = k; from = from; to = from + length word; line = here } in
    let no_blank = token_no_blank k word rest i.form in
    gap_turn turns at line bs gap (word ++ rest) e b no_blank
    ∙ rest_scanned from here (word ++ rest) (lexed turns) no_blank
    ∙ ap (λ f. on_scanned f from here (word ++ rest) (lexed turns)) (longest_of_token k word rest i)
    ∙ ap (λ x. added (token ∷ []) (lexed turns (from + length word) (here + feeds x) (drop (length word) (word ++ rest)))) (take-append_seam word rest)
    ∙ ap (λ x. added (token ∷ []) (lexed turns (from + length word) (here + feeds word) x)) (drop-append_seam word rest)

token_is : (t : Token) (from to line : ℕ) → t.from ≡ from → t.to ≡ to → t.line ≡ line → ◌≡◌ {A = Token} (record { kind = t.kind; from = from; to = to; line = line }) t
token_is t from to line f o l = λ i. record { kind = t.kind; from = sym f i; to = sym o i; line = sym l i }

-- the same turn, with the token as it is given
given_turn : (turns at line : ℕ) (bs gap word rest : List ℕ) (t : Token) → bs ≡ gap ++ (word ++ rest) → are_blank false gap ≡ true → IsLongest t.kind word rest → t.from ≡ at + length gap → t.to ≡ t.from + length word → t.line ≡ line + feeds gap → lexed (suc turns) at line bs ≡ added (t ∷ []) (lexed turns t.to (t.line + feeds word) rest)
given_turn turns at line bs gap word rest t e b i f o l =
    let to : t.to ≡ at + length gap + length word = o ∙ ap (λ x. x + length word) f in
    token_turn turns at line bs gap word rest t.kind e b i
    ∙ ap (λ x. added (x ∷ []) (lexed turns (at + length gap + length word) (line + feeds gap + feeds word) rest)) (token_is t (at + length gap) (at + length gap + length word) (line + feeds gap) f to l)
    ∙ ap (λ x. added (t ∷ []) (lexed turns x (line + feeds gap + feeds word) rest)) (sym to)
    ∙ ap (λ x. added (t ∷ []) (lexed turns t.to (x + feeds word) rest)) (sym l)

smaller : (turns : ℕ) (bs gap word rest : List ℕ) (k : TokenKind) → bs ≡ gap ++ (word ++ rest) → is_token k word ≡ true → length bs ≤ suc turns → length rest ≤ turns
smaller turns bs gap word rest k e i h =
    let some = word_some k word i in
    let size : length bs ≡ length gap + length (word ++ rest) = ap length e ∙ length-append gap (word ++ rest) in
    let more = length-append word rest in
    omega arith

not_empty : (bs gap word rest : List ℕ) (k : TokenKind) → bs ≡ gap ++ (word ++ rest) → is_token k word ≡ true → length bs ≤ 0 → ⊥
not_empty bs gap word rest k e i h =
    let some = word_some k word i in
    let size : length bs ≡ length gap + length (word ++ rest) = ap length e ∙ length-append gap (word ++ rest) in
    let more = length-append word rest in
    omega arith

-- bytes read as the tokens that they are
pub lexes_read : (turns at line : ℕ) (bs : List ℕ) (ts : List Token) → length bs ≤ turns → Lexes at line bs ts → lexed turns at line bs ≡ read ts
lexes_read zero at line bs [] h t = refl
lexes_read zero at line bs (u ∷ ts) h t = absurd (not_empty bs t.0 t.1 t.2 u.kind t.3 t.5.form h)
lexes_read (suc turns) at line bs [] h t =
    let l = ends_scan bs 0 false t in
    let none : drop (blank_scan 0 false bs) bs ≡ [] = drop_of_length-le bs (omega arith) in
    ap (λ x. on_rest (at + length (take (blank_scan 0 false bs) bs)) (line + feeds (take (blank_scan 0 false bs) bs)) x (lexed turns)) none
lexes_read (suc turns) at line bs (u ∷ ts) h t =
    given_turn turns at line bs t.0 t.1 t.2 u t.3 t.4 t.5 t.6 t.7 t.8
    ∙ ap (λ x. added (u ∷ []) x) (lexes_read turns u.to (u.line + feeds t.1) t.2 ts (smaller turns bs t.0 t.1 t.2 u.kind t.3 t.5.form h) t.9)

breach_is : (b : LexBreach) (n : ℕ) → b.at ≡ n → ◌≡◌ {A = LexBreach} (record { at = n; kind = b.kind }) b
breach_is b n e = λ i. record { at = sym e i; kind = b.kind }

-- bytes read up to the breach that they have
pub stops_wrong : (turns at line : ℕ) (bs : List ℕ) (before : List Token) (b : LexBreach) → length bs ≤ turns → Stops at bs before b → lexed turns at line bs ≡ wrong b
stops_wrong zero at line bs [] b h t = absurd (nothing t.1 t.5 (let l = ap length t.3 ∙ length-append t.0 t.1 in omega arith))
  where
    nothing : (rest : List ℕ) → NoBlank rest → length rest ≤ 0 → ⊥
    nothing [] n h = n
    nothing (c ∷ rest) n h = omega arith
stops_wrong zero at line bs (u ∷ ts) b h t = absurd (not_empty bs t.0 t.1 t.2 u.kind t.3 t.5.form h)
stops_wrong (suc turns) at line bs [] b h t =
    gap_turn turns at line bs t.0 t.1 t.3 t.4 t.5
    ∙ rest_scanned (at + length t.0) (line + feeds t.0) t.1 (lexed turns) t.5
    ∙ ap (λ f. on_scanned f (at + length t.0) (line + feeds t.0) t.1 (lexed turns)) (longest_of_wrong b.kind t.2 t.1 t.6 t.7)
    ∙ ap (λ x. wrong x) (breach_is b (at + length t.0 + t.2) t.8)
stops_wrong (suc turns) at line bs (u ∷ ts) b h t =
    let token : Token = record { kind = u.kind; from = u.from; to = u.to; line = line + feeds t.0 } in
    given_turn turns at line bs t.0 t.1 t.2 token t.3 t.4 t.5 t.6 t.7 refl
    ∙ ap (λ x. added (token ∷ []) x) (stops_wrong turns u.to (line + feeds t.0 + feeds t.1) t.2 ts b (smaller turns bs t.0 t.1 t.2 u.kind t.3 t.5.form h) t.8)
