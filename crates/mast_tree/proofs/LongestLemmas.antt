-- What stands at the front: exactly the longest token, or what is wrong.
use Rattle.std.proofs.Common.{◌≡◌, inl, inr, ℕ, ◌+◌, ◌≤◌, ◌==◌, ◌&&◌, Bool, true, false, List, ◌∷◌, [], ◌++◌, length, refl, ap, sym, ◌∙◌, subst, arith, append_assoc}
use Rattle.std.proofs.lemmas.List.{append-nil, length-append}
use Rattle.std.proofs.lemmas.Bool.{and_parts, cases_Bool}
use Rattle.std.proofs.lemmas.Bool.Decides.{nat_tests}
use Rattle.mast_source.proofs.ByteLemmas.{is_byte}
use Rattle.mast_source.proofs.ListLemmas.{split_within}
use Rattle.mast_tree.specs.declared.scanner.Enclosed.{Enclosed}
use Rattle.mast_tree.specs.declared.scanner.Enclosed.TheVariants.{Whole, Endless, Bad}
use Rattle.mast_tree.specs.declared.token.TokenKind.{TokenKind}
use Rattle.mast_tree.specs.declared.token.TokenKind.TheVariants.{Open, Close, Equals, Carets, Lang, Iri, Name, Str}
use Rattle.mast_tree.specs.declared.token.LexKind.{LexKind}
use Rattle.mast_tree.specs.declared.token.LexKind.TheVariants.{NotUtf8, Character, OpenString, Escape, OpenIri}
use Rattle.mast_tree.specs.declared.scanner.Scanned.{Scanned}
use Rattle.mast_tree.specs.declared.scanner.Scanned.TheVariants.{Token, Wrong}
use Rattle.mast_tree.specs.Empty.{is_empty}
use Rattle.mast_tree.specs.Tokens.{is_name, is_lang, are_name, are_lang, iri_rest, str_rest, is_token}
use Rattle.mast_tree.specs.inside.Scanner.{name_scan, lang_scan, iri_scan, str_scan, scanned_iri, scanned_str, scanned_carets, scanned_lang, longest_token}
use Rattle.mast_tree.specs.Source.{IsLongest, NoToken, BeginsWith, IsWrong}
use Rattle.mast_tree.proofs.ScanLemmas.{name_at_least, name_split, lang_at_least, lang_split, iri_whole, iri_found, str_whole, str_found, chars_endless, endless_chars, chars_bad, bad_found}

-- an answer is at least a token: of the same kind, and no shorter
abbrev pub AtLeast : Scanned → TokenKind → ℕ → Type 0
AtLeast (Token k n) j m = (j ≡ k) × (m ≤ n)
AtLeast (Wrong k n) j m = ⊥

abbrev pub NameByte : ℕ → Type 0
NameByte b = ((b == 40) ≡ false) × ((b == 41) ≡ false) × ((b == 61) ≡ false) × ((b == 94) ≡ false) × ((b == 64) ≡ false) × ((b == 60) ≡ false) × ((b == 34) ≡ false)

name_byte : (b n : ℕ) → is_name b ≡ true → is_name n ≡ false → (b == n) ≡ false
name_byte b n h q = elim (cases_Bool (b == n)) [
  | inl e ↦ absurd (let s = is_byte b n e in let f : is_name n ≡ true = subst (λ x. is_name x ≡ true) s h in cc)
  | inr e ↦ e
]

name_bytes : (b : ℕ) → is_name b ≡ true → NameByte b
unfolding is_name
name_bytes b h = (name_byte b 40 h refl, name_byte b 41 h refl, name_byte b 61 h refl, name_byte b 94 h refl, name_byte b 64 h refl, name_byte b 60 h refl, name_byte b 34 h refl)

one_byte : (b : ℕ) (w : List ℕ) → is_empty w ≡ true → length (b ∷ w) ≡ 1
one_byte b [] h = omega arith
one_byte b (c ∷ w) h = absurd (cc)

-- a language of one byte at least
lang_least : (c : ℕ) (w rest : List ℕ) (n : ℕ) → n ≡ lang_scan 0 (c ∷ (w ++ rest)) → is_lang c ≡ true → are_lang w ≡ true → AtLeast (scanned_lang n) Lang (length (64 ∷ c ∷ w))
lang_least c w rest n e h g = elim (cases_Bool (n == 0)) [
  | inl z ↦ absurd (let m = is_byte n 0 z in let f = lang_at_least (c ∷ w) rest 0 (rw h g) in omega arith)
  | inr z ↦ rw z (refl, (let f = lang_at_least (c ∷ w) rest 0 (rw h g) in omega arith))
]

pub token_least : (k : TokenKind) (w rest : List ℕ) → is_token k w ≡ true → AtLeast (longest_token (w ++ rest)) k (length w)
token_least k [] rest h = absurd (cc)
token_least Open (b ∷ w) rest h = let p = and_parts (b == 40) (is_empty w) h in rw p.0 (refl, (let o = one_byte b w p.1 in omega arith))
token_least Close (b ∷ w) rest h = let p = and_parts (b == 41) (is_empty w) h in let s = is_byte b 41 p.0 in subst (λ x. AtLeast (longest_token (x ∷ (w ++ rest))) Close (length (x ∷ w))) (sym s) (refl, (let o = one_byte b w p.1 in omega arith))
token_least Equals (b ∷ w) rest h = let p = and_parts (b == 61) (is_empty w) h in let s = is_byte b 61 p.0 in subst (λ x. AtLeast (longest_token (x ∷ (w ++ rest))) Equals (length (x ∷ w))) (sym s) (refl, (let o = one_byte b w p.1 in omega arith))
token_least Carets (b ∷ []) rest h = absurd (cc)
token_least Carets (b ∷ c ∷ w) rest h =
    let p = and_parts (b == 94 && c == 94) (is_empty w) h in
    let q = and_parts (b == 94) (c == 94) p.0 in
    let s = is_byte b 94 q.0 in
    let t = is_byte c 94 q.1 in
    subst (λ x. AtLeast (longest_token (x ∷ c ∷ (w ++ rest))) Carets (length (x ∷ c ∷ w))) (sym s) (subst (λ x. AtLeast (longest_token (94 ∷ x ∷ (w ++ rest))) Carets (length (94 ∷ x ∷ w))) (sym t) (refl, (let o = one_byte c w p.1 in omega arith)))
token_least Lang (b ∷ []) rest h = absurd (cc)
token_least Lang (b ∷ c ∷ w) rest h =
    let p = and_parts (b == 64 && is_lang c) (are_lang w) h in
    let q = and_parts (b == 64) (is_lang c) p.0 in
    let s = is_byte b 64 q.0 in
    subst (λ x. AtLeast (longest_token (x ∷ c ∷ (w ++ rest))) Lang (length (x ∷ c ∷ w))) (sym s) (lang_least c w rest (lang_scan 0 (c ∷ (w ++ rest))) refl q.1 p.1)
token_least Iri (b ∷ w) rest h =
    let p = and_parts (b == 60) (iri_rest w) h in
    let s = is_byte b 60 p.0 in
    subst (λ x. AtLeast (longest_token (x ∷ (w ++ rest))) Iri (length (x ∷ w))) (sym s) (rw (iri_whole w rest 0 p.1) (refl, omega arith))
token_least Str (b ∷ w) rest h =
    let p = and_parts (b == 34) (str_rest false w) h in
    let s = is_byte b 34 p.0 in
    subst (λ x. AtLeast (longest_token (x ∷ (w ++ rest))) Str (length (x ∷ w))) (sym s) (rw (str_whole w rest 0 false p.1) (refl, omega arith))
token_least Name (b ∷ w) rest h =
    let p = and_parts (is_name b) (are_name w) h in
    let o = name_bytes b p.0 in
    rw (o.0, o.1, o.2, o.3, o.4, o.5, o.6, p.0) (refl, (let f = name_at_least w rest 0 p.1 in omega arith))

-- what is found has its form

abbrev pub HasForm : List ℕ → Scanned → Type 0
HasForm bytes (Token k n) = (w rest : List ℕ) × (bytes ≡ w ++ rest) × (is_token k w ≡ true) × (length w ≡ n)
HasForm bytes (Wrong k n) = IsWrong k n bytes

carets_form : (b : ℕ) (bs : List ℕ) → (b == 94) ≡ true → (BeginsWith 60 (b ∷ bs) → ⊥) → (BeginsWith 34 (b ∷ bs) → ⊥) → HasForm (b ∷ bs) (scanned_carets bs)
carets_form b [] e x y = (refl, x, y)
carets_form b (c ∷ bs) e x y = elim (cases_Bool (c == 94)) [
  | inl f ↦ rw f (b ∷ c ∷ [], bs, refl, rw (e, f) refl, refl)
  | inr f ↦ rw f (refl, x, y)
]

lang_form : (b : ℕ) (bs : List ℕ) (n : ℕ) → n ≡ lang_scan 0 bs → (b == 64) ≡ true → (BeginsWith 60 (b ∷ bs) → ⊥) → (BeginsWith 34 (b ∷ bs) → ⊥) → HasForm (b ∷ bs) (scanned_lang n)
lang_form b bs n h e x y = elim (cases_Bool (n == 0)) [
  | inl z ↦ rw z (refl, x, y)
  | inr z ↦ rw z (let r = lang_split 0 bs in let l = r.4 in go r.0 r.1 r.2 r.3 (omega arith) z)
]
  where
    head : (c : ℕ) (w : List ℕ) → are_lang (c ∷ w) ≡ true → is_token Lang (b ∷ c ∷ w) ≡ true
    head c w g = let p = and_parts (is_lang c) (are_lang w) g in rw (e, p.0) p.1

    go : (w rest : List ℕ) → bs ≡ w ++ rest → are_lang w ≡ true → length w ≡ n → (n == 0) ≡ false → HasForm (b ∷ bs) (Token Lang (n + 1))
    go [] rest s g l z = absurd (grind (arith, nat_tests))
    go (c ∷ w) rest s g l z = (b ∷ c ∷ w, rest, ap (λ x. b ∷ x) s, head c w g, omega arith)

iri_form : (b : ℕ) (bs : List ℕ) (r : Enclosed) → iri_scan 0 bs ≡ r → (b == 60) ≡ true → HasForm (b ∷ bs) (scanned_iri r)
iri_form b bs (Whole n) h e = let t = iri_found bs 0 n h in (b ∷ t.0, t.1, ap (λ x. b ∷ x) t.2, rw e t.3, (let l = t.4 in omega arith))
iri_form b bs Endless h e = (refl, e)
iri_form b bs (Bad n) h e = (refl, e)

str_form : (b : ℕ) (bs : List ℕ) (r : Enclosed) → str_scan 0 false bs ≡ r → (b == 34) ≡ true → HasForm (b ∷ bs) (scanned_str r)
str_form b bs (Whole n) h e = let t = str_found bs 0 n false h in (b ∷ t.0, t.1, ap (λ x. b ∷ x) t.2, rw e t.3, (let l = t.4 in omega arith))
str_form b bs Endless h e = (refl, bs, ap (λ x. x ∷ bs) (is_byte b 34 e), endless_chars bs 0 false h)
str_form b bs (Bad n) h e =
    let t = bad_found bs 0 n false h in
    let l = t.5 in
    (t.0, t.1, ap (λ x. x ∷ bs) (is_byte b 34 e) ∙ ap (λ x. 34 ∷ x) t.2, t.3, t.4, omega arith)

name_form : (b : ℕ) (bs : List ℕ) → is_name b ≡ true → HasForm (b ∷ bs) (Token Name (name_scan 0 bs + 1))
name_form b bs e = let r = name_split 0 bs in (b ∷ r.0, r.1, ap (λ x. b ∷ x) r.2, rw e r.3, (let l = r.3 in let m = r.4 in omega arith))

not_true : (x : Bool) → x ≡ false → x ≡ true → ⊥
not_true x h g = cc

other_byte : (b m n : ℕ) → (b == m) ≡ true → (m == n) ≡ false → (b == n) ≡ true → ⊥
other_byte b m n e h g = let s = is_byte b m e in let f : (m == n) ≡ true = subst (λ x. (x == n) ≡ true) s g in cc

pub scanned_form : (bs : List ℕ) → HasForm bs (longest_token bs)
scanned_form [] = (refl, (λ x. x), (λ x. x))
scanned_form (b ∷ bs) = elim (cases_Bool (b == 40)) [
  | inl e ↦ rw e (b ∷ [], bs, refl, rw e refl, refl)
  | inr e40 ↦ elim (cases_Bool (b == 41)) [
    | inl e ↦ rw (e40, e) (b ∷ [], bs, refl, rw e refl, refl)
    | inr e41 ↦ elim (cases_Bool (b == 61)) [
      | inl e ↦ rw (e40, e41, e) (b ∷ [], bs, refl, rw e refl, refl)
      | inr e61 ↦ elim (cases_Bool (b == 94)) [
        | inl e ↦ rw (e40, e41, e61, e) (carets_form b bs e (other_byte b 94 60 e refl) (other_byte b 94 34 e refl))
        | inr e94 ↦ elim (cases_Bool (b == 64)) [
          | inl e ↦ rw (e40, e41, e61, e94, e) (lang_form b bs (lang_scan 0 bs) refl e (other_byte b 64 60 e refl) (other_byte b 64 34 e refl))
          | inr e64 ↦ elim (cases_Bool (b == 60)) [
            | inl e ↦ rw (e40, e41, e61, e94, e64, e) (iri_form b bs (iri_scan 0 bs) refl e)
            | inr e60 ↦ elim (cases_Bool (b == 34)) [
              | inl e ↦ rw (e40, e41, e61, e94, e64, e60, e) (str_form b bs (str_scan 0 false bs) refl e)
              | inr e34 ↦ elim (cases_Bool (is_name b)) [
                | inl e ↦ rw (e40, e41, e61, e94, e64, e60, e34, e) (name_form b bs e)
                | inr e ↦ rw (e40, e41, e61, e94, e64, e60, e34, e) (refl, not_true (b == 60) e60, not_true (b == 34) e34)
              ]
            ]
          ]
        ]
      ]
    ]
  ]
]

-- the longest_token tells exactly

-- what is found is the longest token, or what is wrong
abbrev pub ScannedTells : List ℕ → Scanned → Type 0
ScannedTells bytes (Token k n) = (w rest : List ℕ) × (bytes ≡ w ++ rest) × IsLongest k w rest × (length w ≡ n)
ScannedTells bytes (Wrong k n) = NoToken bytes × IsWrong k n bytes

empty_of : (more w : List ℕ) → length (w ++ more) ≤ length w → more ≡ []
empty_of [] w h = refl
empty_of (b ∷ more) w h = absurd (let l = length-append w (b ∷ more) in omega arith)

longest : (k : TokenKind) (n : ℕ) (w rest : List ℕ) → longest_token (w ++ rest) ≡ Token k n → length w ≡ n → (other : TokenKind) (more after : List ℕ) → rest ≡ more ++ after → is_token other (w ++ more) ≡ true → more ≡ []
longest k n w rest f l other more after e i =
    let whole : longest_token ((w ++ more) ++ after) ≡ Token k n = ap longest_token (append_assoc w more after ∙ ap (λ x. w ++ x) (sym e)) ∙ f in
    let least : AtLeast (Token k n) other (length (w ++ more)) = subst (λ x. AtLeast x other (length (w ++ more))) whole (token_least other (w ++ more) after i) in
    let m = least.1 in
    empty_of more w (omega arith)

-- so it is
pub scanned_tells : (bs : List ℕ) → ScannedTells bs (longest_token bs)
scanned_tells bs = go (longest_token bs) refl (scanned_form bs)
  where
    go : (f : Scanned) → longest_token bs ≡ f → HasForm bs f → ScannedTells bs f
    go (Token k n) h t = (t.0, t.1, t.2, record { form = t.3; longest = longest k n t.0 t.1 (ap longest_token (sym t.2) ∙ h) t.4 }, t.4)
    go (Wrong k n) h t = ((λ j w rest e i. subst (λ x. AtLeast x j (length w)) (ap longest_token (sym e) ∙ h) (token_least j w rest i)), t)

-- the longest token is found
pub longest_of_token : (k : TokenKind) (w rest : List ℕ) → IsLongest k w rest → longest_token (w ++ rest) ≡ Token k (length w)
longest_of_token k w rest l = go (longest_token (w ++ rest)) (token_least k w rest l.form) (scanned_form (w ++ rest))
  where
    go : (f : Scanned) → AtLeast f k (length w) → HasForm (w ++ rest) f → f ≡ Token k (length w)
    go (Wrong j n) a t = absurd a
    go (Token j n) a t =
        let m = a.1 in
        let len = t.4 in
        let s = split_within w rest t.0 t.1 t.2 (omega arith) in
        let none : s.0 ≡ [] = l.longest j s.0 t.1 s.2 (subst (λ x. is_token j x ≡ true) s.1 t.3) in
        let size : length t.0 ≡ length w = ap length (s.1 ∙ ap (λ x. w ++ x) none ∙ append-nil w) in
        let same : n ≡ length w = omega arith in
        ap (λ x. Token x n) (sym a.0) ∙ ap (λ x. Token k x) same

-- no token stands there: the reason is the one there is
no_token_wrong : (bs : List ℕ) (f : Scanned) → longest_token bs ≡ f → NoToken bs → (j : LexKind) × (n : ℕ) × (f ≡ Wrong j n) × IsWrong j n bs
no_token_wrong bs (Token k n) h no_one = let t = subst (λ x. HasForm bs x) h (scanned_form bs) in absurd (no_one k t.0 t.1 t.2 t.3)
no_token_wrong bs (Wrong j n) h no_one = (j, n, refl, subst (λ x. HasForm bs x) h (scanned_form bs))

begins : (c : ℕ) (bs chars : List ℕ) → bs ≡ c ∷ chars → (c == c) ≡ true → BeginsWith c bs
begins c bs chars e h = subst (λ x. BeginsWith c x) (sym e) h

quote_not_angle : (bs : List ℕ) → BeginsWith 60 bs → BeginsWith 34 bs → ⊥
quote_not_angle [] h g = h
quote_not_angle (b ∷ bs) h g = other_byte b 60 34 h refl g

character_only : (bs : List ℕ) (j : LexKind) (n : ℕ) → IsWrong j n bs → (BeginsWith 60 bs → ⊥) → (BeginsWith 34 bs → ⊥) → ◌≡◌ {A = Scanned} (Wrong j n) (Wrong Character 0)
character_only bs NotUtf8 n w x y = absurd w
character_only bs Character n w x y = ap (λ m. Wrong Character m) w.0
character_only bs OpenIri n w x y = absurd (x w.1)
character_only bs OpenString n w x y = absurd (y (begins 34 bs w.1 w.2 refl))
character_only bs Escape n w x y = absurd (y (begins 34 bs (w.0 ++ (92 ∷ w.1)) w.2 refl))

iri_only : (bs : List ℕ) (j : LexKind) (n : ℕ) → IsWrong j n bs → BeginsWith 60 bs → ◌≡◌ {A = Scanned} (Wrong j n) (Wrong OpenIri 0)
iri_only bs NotUtf8 n w x = absurd w
iri_only bs Character n w x = absurd (w.1 x)
iri_only bs OpenIri n w x = ap (λ m. Wrong OpenIri m) w.0
iri_only bs OpenString n w x = absurd (quote_not_angle bs x (begins 34 bs w.1 w.2 refl))
iri_only bs Escape n w x = absurd (quote_not_angle bs x (begins 34 bs (w.0 ++ (92 ∷ w.1)) w.2 refl))

-- what is wrong is found
pub longest_of_wrong : (j : LexKind) (n : ℕ) (bs : List ℕ) → NoToken bs → IsWrong j n bs → longest_token bs ≡ Wrong j n
longest_of_wrong NotUtf8 n bs no_one w = absurd w
longest_of_wrong Character n bs no_one w =
    let t = no_token_wrong bs (longest_token bs) refl no_one in
    t.2 ∙ character_only bs t.0 t.1 t.3 w.1 w.2 ∙ ap (λ m. Wrong Character m) (sym w.0)
longest_of_wrong OpenIri n bs no_one w =
    let t = no_token_wrong bs (longest_token bs) refl no_one in
    t.2 ∙ iri_only bs t.0 t.1 t.3 w.1 ∙ ap (λ m. Wrong OpenIri m) (sym w.0)
longest_of_wrong OpenString n bs no_one w =
    ap longest_token w.2 ∙ ap scanned_str (chars_endless w.1 0 false w.3) ∙ ap (λ m. Wrong OpenString m) (sym w.0)
longest_of_wrong Escape n bs no_one w =
    let l = w.5 in
    let same : 0 + length w.0 + 1 ≡ n = omega arith in
    ap longest_token w.2 ∙ ap scanned_str (chars_bad w.0 w.1 0 false w.3 w.4) ∙ ap (λ m. Wrong Escape m) same
