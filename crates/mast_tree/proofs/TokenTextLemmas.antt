-- Each token of a text is a text.
use Rattle.std.proofs.Common.{◌≡◌, ◌⊎◌, inl, inr, ℕ, zero, suc, ◌+◌, ◌-◌, ◌<◌, ◌≤◌, ◌==◌, ◌&&◌, ◌||◌, Bool, true, false, List, ◌∷◌, [], ◌++◌, length, take, drop, refl, ap, sym, ◌∙◌, subst, arith}
use Rattle.std.specs.Prelude.{not, nat_le, Some, slice_get}
use Rattle.std.specs.Str.{IsUtf8}
use Rattle.std.proofs.lemmas.Str.{IsUtf8-nil}
use Rattle.std.proofs.lemmas.List.{append-nil, length-append, length-drop}
use Rattle.std.proofs.lemmas.Bool.{and_parts, cases_Bool}
use Rattle.std.proofs.lemmas.Bool.Decides.{nat_tests}
use Rattle.std.proofs.Math.Seq.{take-append_seam, drop-append_seam}
use Rattle.mast_source.specs.Bom.{bom_length}
use Rattle.mast_source.specs.Escapes.{escaped}
use Rattle.mast_source.proofs.BomLemmas.{bom_within, behind_text}
use Rattle.mast_source.proofs.EscapeLemmas.{escaped_special, escaped_plain}
use Rattle.mast_source.proofs.Utf8Lemmas.{EndsAscii, ends_more, cut_last, cut_before}
use Rattle.mast_tree.specs.declared.token.Token.{Token}
use Rattle.mast_tree.specs.declared.token.TokenKind.{TokenKind}
use Rattle.mast_tree.specs.declared.token.TokenKind.TheVariants.{Open, Close, Equals, Carets, Lang, Iri, Name, Str}
use Rattle.mast_tree.specs.Empty.{is_empty}
use Rattle.mast_tree.specs.Tokens.{is_name, is_lang, is_iri, feeds, is_blank, are_name, are_lang, are_blank, iri_rest, str_rest, is_token}
use Rattle.mast_tree.specs.Source.{IsLongest, Lexes, AreTokens}
use Rattle.mast_tree.specs.Words.{span}
use Rattle.mast_source.proofs.ByteLemmas.{is_byte}

ends_one : (b n : ℕ) (w : List ℕ) → b ≡ n → n < 128 → is_empty w ≡ true → EndsAscii (b ∷ w)
ends_one b n [] e l h = ([], b, refl, omega arith)
ends_one b n (c ∷ w) e l h = absurd (cc)

-- gaps

blank_small : (b : ℕ) → is_blank b ≡ true → b < 128
unfolding is_blank
blank_small b h = grind (arith, nat_tests)

blank_last : (w : List ℕ) (comment : Bool) → are_blank comment w ≡ true → (w ≡ []) ⊎ EndsAscii w
blank_last [] comment h = inl refl
blank_last (b ∷ w) true h = elim (blank_last w (not (b == 10)) h) [
  | inl e ↦ elim (cases_Bool (b == 10)) [
    | inl f ↦ let s = is_byte b 10 f in inr ([], b, ap (λ x. b ∷ x) e, omega arith)
    | inr f ↦ absurd (let g : are_blank true w ≡ true = rw f at h in let k : are_blank true [] ≡ true = subst (λ x. are_blank true x ≡ true) e g in cc)
  ]
  | inr t ↦ inr (ends_more b w t)
]
blank_last (b ∷ w) false h = elim (cases_Bool (b == 35)) [
  | inl f ↦ comment_last (λ g. blank_last w true g) (rw f at h)
  | inr f ↦
      let g : (is_blank b && are_blank false w) ≡ true = rw f at h in
      let p = and_parts (is_blank b) (are_blank false w) g in
      elim (blank_last w false p.1) [
        | inl e ↦ inr ([], b, ap (λ x. b ∷ x) e, blank_small b p.0)
        | inr t ↦ inr (ends_more b w t)
      ]
]
  where
    comment_last : (are_blank true w ≡ true → (w ≡ []) ⊎ EndsAscii w) → are_blank true w ≡ true → (b ∷ w ≡ []) ⊎ EndsAscii (b ∷ w)
    comment_last last g = elim (last g) [
      | inl e ↦ absurd (let k : are_blank true [] ≡ true = subst (λ x. are_blank true x ≡ true) e g in cc)
      | inr t ↦ inr (ends_more b w t)
    ]

pub gap_cut : (gap rest : List ℕ) → are_blank false gap ≡ true → IsUtf8 (gap ++ rest) → IsUtf8 rest
gap_cut gap rest h u = elim (blank_last gap false h) [
  | inl e ↦ subst (λ x. IsUtf8 (x ++ rest)) e u
  | inr t ↦ (cut_last gap rest t u).1
]

-- tokens

lang_small : (b : ℕ) → is_lang b ≡ true → b < 128
unfolding is_lang
lang_small b h = grind (arith, nat_tests)

lang_last : (b : ℕ) (w : List ℕ) → is_lang b ≡ true → are_lang w ≡ true → EndsAscii (b ∷ w)
lang_last b [] h g = ([], b, refl, lang_small b h)
lang_last b (c ∷ w) h g = let p = and_parts (is_lang c) (are_lang w) g in ends_more b (c ∷ w) (lang_last c w p.0 p.1)

-- what stands behind `<` ends with `>`
pub iri_inside : (w : List ℕ) → iri_rest w ≡ true → (inner : List ℕ) × (w ≡ inner ++ (62 ∷ []))
iri_inside [] h = absurd (cc)
iri_inside (b ∷ w) h = elim (cases_Bool (b == 62)) [
  | inl e ↦ only w (rw e at h) (is_byte b 62 e)
  | inr e ↦
      let g : (is_iri b && iri_rest w) ≡ true = rw e at h in
      let p = and_parts (is_iri b) (iri_rest w) g in
      let t = iri_inside w p.1 in
      (b ∷ t.0, ap (λ x. b ∷ x) t.1)
]
  where
    only : (w : List ℕ) → is_empty w ≡ true → b ≡ 62 → (inner : List ℕ) × (b ∷ w ≡ inner ++ (62 ∷ []))
    only [] h s = ([], ap (λ x. x ∷ []) s)
    only (c ∷ w) h s = absurd (cc)

abbrev pub StrInside : Bool → List ℕ → Type 0
StrInside true w = (c : ℕ) × (text : List ℕ) × ((c == 34 || c == 92) ≡ true) × (w ≡ c ∷ (escaped text ++ (34 ∷ [])))
StrInside false w = (text : List ℕ) × (w ≡ escaped text ++ (34 ∷ []))

-- what stands behind a quote is an escaped text and a quote
pub str_inside : (w : List ℕ) (esc : Bool) → str_rest esc w ≡ true → StrInside esc w
str_inside [] true h = absurd (cc)
str_inside [] false h = absurd (cc)
str_inside (b ∷ w) true h =
    let p = and_parts (b == 34 || b == 92) (str_rest false w) h in
    let t = str_inside w false p.1 in
    (b, t.0, p.0, ap (λ x. b ∷ x) t.1)
str_inside (b ∷ w) false h = elim (cases_Bool (b == 34)) [
  | inl e ↦ only w (rw e at h) (is_byte b 34 e)
  | inr e ↦ go (b == 92) refl (str_inside w (b == 92) (rw e at h)) e
]
  where
    only : (w : List ℕ) → is_empty w ≡ true → b ≡ 34 → StrInside false (b ∷ w)
    only [] h s = ([], ap (λ x. x ∷ []) s)
    only (c ∷ w) h s = absurd (cc)

    go : (esc : Bool) → (b == 92) ≡ esc → StrInside esc w → (b == 34) ≡ false → StrInside false (b ∷ w)
    go true s t e = (t.0 ∷ t.1, ap (λ x. x ∷ w) (is_byte b 92 s) ∙ ap (λ x. 92 ∷ x) t.3 ∙ ap (λ x. x ++ (34 ∷ [])) (sym (escaped_special t.0 t.1 t.2)))
    go false s t e = (b ∷ t.0, ap (λ x. b ∷ x) t.1 ∙ ap (λ x. x ++ (34 ∷ [])) (sym (escaped_plain b t.0 e s)))

token_last : (k : TokenKind) (w : List ℕ) → is_token k w ≡ true → (k ≡ Name) ⊎ EndsAscii w
token_last k [] h = absurd (cc)
token_last Open (b ∷ w) h = let p = and_parts (b == 40) (is_empty w) h in inr (ends_one b 40 w (is_byte b 40 p.0) (omega arith) p.1)
token_last Close (b ∷ w) h = let p = and_parts (b == 41) (is_empty w) h in inr (ends_one b 41 w (is_byte b 41 p.0) (omega arith) p.1)
token_last Equals (b ∷ w) h = let p = and_parts (b == 61) (is_empty w) h in inr (ends_one b 61 w (is_byte b 61 p.0) (omega arith) p.1)
token_last Carets (b ∷ []) h = absurd (cc)
token_last Carets (b ∷ c ∷ w) h =
    let p = and_parts (b == 94 && c == 94) (is_empty w) h in
    let q = and_parts (b == 94) (c == 94) p.0 in
    inr (ends_more b (c ∷ w) (ends_one c 94 w (is_byte c 94 q.1) (omega arith) p.1))
token_last Lang (b ∷ []) h = absurd (cc)
token_last Lang (b ∷ c ∷ w) h =
    let p = and_parts (b == 64 && is_lang c) (are_lang w) h in
    let q = and_parts (b == 64) (is_lang c) p.0 in
    inr (ends_more b (c ∷ w) (lang_last c w q.1 p.1))
token_last Iri (b ∷ w) h =
    let p = and_parts (b == 60) (iri_rest w) h in
    let t = iri_inside w p.1 in
    inr (b ∷ t.0, 62, ap (λ x. b ∷ x) t.1, omega arith)
token_last Name (b ∷ w) h = inl refl
token_last Str (b ∷ w) h =
    let p = and_parts (b == 34) (str_rest false w) h in
    let t = str_inside w false p.1 in
    inr (b ∷ escaped t.0, 34, ap (λ x. b ∷ x) t.1, omega arith)

names_append : (w v : List ℕ) → are_name w ≡ true → are_name v ≡ true → are_name (w ++ v) ≡ true
names_append [] v h g = g
names_append (b ∷ w) v h g = let p = and_parts (is_name b) (are_name w) h in rw p.0 (names_append w v p.1 g)

name_longer : (w : List ℕ) (b : ℕ) → is_token Name w ≡ true → is_name b ≡ true → is_token Name (w ++ (b ∷ [])) ≡ true
name_longer [] b h g = absurd (cc)
name_longer (c ∷ w) b h g = let p = and_parts (is_name c) (are_name w) h in rw p.0 (names_append w (b ∷ []) p.1 (rw g refl))

not_name_small : (b : ℕ) → is_name b ≡ false → b < 128
unfolding is_name
not_name_small b h = elim (cases_Bool (nat_le 128 b)) [
  | inl e ↦ absurd (let g : true ≡ false = all_true e in cc)
  | inr e ↦ grind (arith, nat_tests)
]
  where
    or_true : (x : Bool) → (x || true) ≡ true
    or_true true = refl
    or_true false = refl

    all_true : nat_le 128 b ≡ true → true ≡ false
    all_true e = sym (or_true ((nat_le 97 b && nat_le b 122) || (nat_le 65 b && nat_le b 90) || (nat_le 48 b && nat_le b 57) || b == 95 || b == 45 || b == 46 || b == 58 || b == 37 || b == 63)) ∙ (rw e at h)

-- behind the longest name stands nothing, or a byte of ASCII
name_cut : (w rest : List ℕ) → IsLongest Name w rest → IsUtf8 (w ++ rest) → IsUtf8 w × IsUtf8 rest
name_cut w [] l u = (subst IsUtf8 (append-nil w) u, IsUtf8-nil)
name_cut w (b ∷ rest) l u = elim (cases_Bool (is_name b)) [
  | inl e ↦ absurd (let none : b ∷ [] ≡ [] = l.longest Name (b ∷ []) rest refl (name_longer w b l.form e) in cc)
  | inr e ↦
      cut_before w rest b (not_name_small b e) u
]

word_cut : (k : TokenKind) (w rest : List ℕ) → IsLongest k w rest → IsUtf8 (w ++ rest) → IsUtf8 w × IsUtf8 rest
word_cut k w rest l u = elim (token_last k w l.form) [
  | inl e ↦ name_cut w rest (subst (λ x. IsLongest x w rest) e l) u
  | inr t ↦ cut_last w rest t u
]

-- each token of a source

pub record IsWord (source : List ℕ) (t : Token) : Type 0 where
  pub order : t.from ≤ t.to
  pub within : t.to ≤ length source
  pub form : is_token t.kind (span source t) ≡ true
  pub text : IsUtf8 (span source t)

drop_none : (k : ℕ) → ◌≡◌ {A = List ℕ} (drop k []) []
drop_none zero = refl
drop_none (suc k) = refl

drop_more : (n m : ℕ) (source rest : List ℕ) → drop n source ≡ rest → drop (n + m) source ≡ drop m rest
drop_more zero m source rest e = let sum : 0 + m ≡ m = omega arith in ap (λ k. drop k source) sum ∙ ap (λ x. drop m x) e
drop_more (suc n) m [] rest e = drop_none (suc n + m) ∙ sym (drop_none m) ∙ ap (λ x. drop m x) e
drop_more (suc n) m (b ∷ source) rest e = let sum : suc n + m ≡ suc (n + m) = omega arith in ap (λ k. drop k (b ∷ source)) sum ∙ drop_more n m source rest e

-- offsets in a source: what follows `at` is there
abbrev pub At : List ℕ → ℕ → List ℕ → Type 0
At source at bytes = (drop at source ≡ bytes) × (at + length bytes ≡ length source)

at_more : (source : List ℕ) (at : ℕ) (w rest : List ℕ) → At source at (w ++ rest) → At source (at + length w) rest
at_more source at w rest a =
    let l = length-append w rest in
    let s = a.1 in
    (drop_more at (length w) source (w ++ rest) a.0 ∙ drop-append_seam w rest, omega arith)

lexed_word : (source : List ℕ) (ts : List Token) (at line : ℕ) (bs : List ℕ) (i : ℕ) (t : Token) → At source at bs → IsUtf8 bs → Lexes at line bs ts → slice_get ts i ≡ Some t → IsWord source t
lexed_word source [] at line bs zero t a u l s = absurd (cc)
lexed_word source [] at line bs (suc i) t a u l s = absurd (cc)
lexed_word source (v ∷ ts) at line bs i t a u l s =
    let gap = l.0 in
    let word = l.1 in
    let rest = l.2 in
    let text : IsUtf8 (word ++ rest) = gap_cut gap (word ++ rest) l.4 (subst IsUtf8 l.3 u) in
    let cut = word_cut v.kind word rest l.5 text in
    let here : At source v.from (word ++ rest) = subst (λ n. At source n (word ++ rest)) (sym l.6) (at_more source at gap (word ++ rest) (subst (λ x. At source at x) l.3 a)) in
    let next : At source v.to rest = subst (λ n. At source n rest) (sym l.7) (at_more source v.from word rest here) in
    go i s cut here next (λ j f n u. lexed_word source ts v.to (v.line + feeds word) rest j t n u l.9 f)
  where
    go : (i : ℕ) → slice_get (v ∷ ts) i ≡ Some t → IsUtf8 l.1 × IsUtf8 l.2 → At source v.from (l.1 ++ l.2) → At source v.to l.2 → ((j : ℕ) → slice_get ts j ≡ Some t → At source v.to l.2 → IsUtf8 l.2 → IsWord source t) → IsWord source t
    go zero s cut here next more =
        let same : v ≡ t = cc in
        let to = l.7 in
        let size : v.to - v.from ≡ length l.1 = omega arith in
        let is : span source v ≡ l.1 = ap (λ x. take (v.to - v.from) x) here.0 ∙ ap (λ n. take n (l.1 ++ l.2)) size ∙ take-append_seam l.1 l.2 in
        let length_of = next.1 in
        subst (λ x. IsWord source x) same (record {
          order = omega arith;
          within = omega arith;
          form = subst (λ x. is_token v.kind x ≡ true) (sym is) l.5.form;
          text = subst IsUtf8 (sym is) cut.0;
        })
    go (suc i) s cut here next more = more i s next cut.1

-- each token of a source stands in it, and is a text of its form
pub token_word : (source : List ℕ) (tokens : List Token) (i : ℕ) (t : Token) → AreTokens source tokens → slice_get tokens i ≡ Some t → IsWord source t
token_word source tokens i t a s =
    let w = bom_within source in
    let l = length-drop (bom_length source) source in
    lexed_word source tokens (bom_length source) 1 (drop (bom_length source) source) i t (refl, omega arith) (behind_text source a.0) a.1 s
