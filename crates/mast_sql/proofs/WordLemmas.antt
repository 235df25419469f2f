-- What the tokens of a text stand for: there is one symbol for each.
use Rattle.std.proofs.Common.{◌≡◌, ◌⊎◌, inl, inr, ℕ, ◌-◌, ◌<◌, ◌==◌, Bool, true, false, List, ◌∷◌, [], ◌++◌, take, drop, refl, ap, sym, ◌∙◌, subst, arith, append_assoc}
use Rattle.std.specs.Prelude.{Result, Ok, Err, IfOk}
use Rattle.std.specs.Str.{IsUtf8}
use Rattle.std.proofs.lemmas.Str.{IsUtf8-append, IsUtf8-nil}
use Rattle.std.proofs.lemmas.List.{take-append-drop}
use Rattle.std.proofs.lemmas.Bool.{and_parts, cases_Bool}
use Rattle.std.proofs.lemmas.Bool.Decides.{nat_tests}
use Rattle.mast_source.proofs.ByteLemmas.{is_byte}
use Rattle.mast_source.proofs.SliceLemmas.{inside_of}
use Rattle.mast_source.proofs.Utf8Lemmas.{after_ascii, before_ascii, ascii_one}
use Rattle.mast_sql.specs.declared.token.SqlKind.TheVariants as kind
use Rattle.mast_sql.specs.declared.token.SqlToken.{SqlToken}
use Rattle.mast_sql.specs.declared.symbol.Symbol.{Symbol}
use Rattle.mast_sql.specs.Tokens.{is_token, is_letter, is_word, are_word, quoted_rest}
use Rattle.mast_sql.specs.Symbols.{span, IsPlaced, keyword_of, word, doubled, single_quoted, IsQuoted, IsSymbol}
use Rattle.mast_sql.specs.inside.Quotes.{undoubled, unquoted}

-- words are ASCII

letter_small : (b : ℕ) → is_letter b ≡ true → b < 128
unfolding is_letter
letter_small b h = grind (arith, nat_tests)

word_small : (b : ℕ) → is_word b ≡ true → b < 128
unfolding is_word
word_small b h = grind (arith, nat_tests)

words_text : (w : List ℕ) → are_word w ≡ true → IsUtf8 w
words_text [] h = IsUtf8-nil
words_text (b ∷ w) h =
    let p = and_parts (is_word b) (are_word w) h in
    IsUtf8-append (b ∷ []) w (ascii_one b (word_small b p.0)) (words_text w p.1)

word_text : (w : List ℕ) → is_token kind.Word w ≡ true → IsUtf8 w
word_text [] h = absurd (cc)
word_text (b ∷ w) h =
    let p = and_parts (is_letter b) (are_word w) h in
    IsUtf8-append (b ∷ []) w (ascii_one b (letter_small b p.0)) (words_text w p.1)

-- texts in single quotes

doubled_quote : (x : List ℕ) → doubled (39 ∷ x) ≡ 39 ∷ (39 ∷ doubled x)
doubled_quote x = refl

doubled_plain : (b : ℕ) (x : List ℕ) → (b == 39) ≡ false → doubled (b ∷ x) ≡ b ∷ doubled x
doubled_plain b x h = rw h refl

abbrev pub Inside : Bool → List ℕ → Type 0
Inside false w = (x : List ℕ) × (w ≡ doubled x ++ (39 ∷ []))
Inside true w = (w ≡ []) ⊎ ((x : List ℕ) × (w ≡ 39 ∷ (doubled x ++ (39 ∷ []))))

quoted_inside : (w : List ℕ) (quote : Bool) → quoted_rest quote w ≡ true → Inside quote w
quoted_inside [] true h = inl refl
quoted_inside [] false h = absurd (cc)
quoted_inside (b ∷ w) true h =
    let p = and_parts (b == 39) (quoted_rest false w) h in
    let t = quoted_inside w false p.1 in
    inr (t.0, ap (λ x. x ∷ w) (is_byte b 39 p.0) ∙ ap (λ x. 39 ∷ x) t.1)
quoted_inside (b ∷ w) false h = go (b == 39) refl (quoted_inside w (b == 39) h)
  where
    go : (quote : Bool) → (b == 39) ≡ quote → Inside quote w → Inside false (b ∷ w)
    go true s (inl e) = ([], ap (λ x. x ∷ w) (is_byte b 39 s) ∙ ap (λ x. 39 ∷ x) e)
    go true s (inr t) = (39 ∷ t.0, ap (λ x. x ∷ w) (is_byte b 39 s) ∙ ap (λ x. 39 ∷ x) t.1)
    go false s t = (b ∷ t.0, ap (λ x. b ∷ x) t.1 ∙ ap (λ x. x ++ (39 ∷ [])) (sym (doubled_plain b t.0 s)))

-- what has the form of a text in single quotes is one
pub quoted_form : (w : List ℕ) → is_token kind.Quoted w ≡ true → (x : List ℕ) × (w ≡ single_quoted x)
quoted_form [] h = absurd (cc)
quoted_form (b ∷ w) h =
    let p = and_parts (b == 39) (quoted_rest false w) h in
    let t = quoted_inside w false p.1 in
    (t.0, ap (λ x. x ∷ w) (is_byte b 39 p.0) ∙ ap (λ x. 39 ∷ x) t.1)

undoubled_of : (x : List ℕ) → undoubled false (doubled x) ≡ x
undoubled_of [] = refl
undoubled_of (b ∷ x) = elim (cases_Bool (b == 39)) [
  | inl e ↦ rw e (ap (λ y. y ∷ undoubled false (doubled x)) (sym (is_byte b 39 e)) ∙ ap (λ y. b ∷ y) (undoubled_of x))
  | inr e ↦ rw (e, e) (ap (λ y. b ∷ y) (undoubled_of x))
]

-- and it is one of one text alone
pub unquoted_of : (w x : List ℕ) → w ≡ single_quoted x → unquoted w ≡ x
unquoted_of w x e = ap unquoted e ∙ ap (λ y. undoubled false y) (inside_of 39 39 (doubled x)) ∙ undoubled_of x

-- dropping second quotes keeps a text one
undoubled_text : (front x : List ℕ) → IsUtf8 (front ++ doubled x) → IsUtf8 (front ++ x)
undoubled_text front [] u = u
undoubled_text front (b ∷ x) u = elim (cases_Bool (b == 39)) [
  | inl e ↦ subst (λ y. IsUtf8 (front ++ (y ∷ x))) (sym (is_byte b 39 e)) (special (λ v. undoubled_text (front ++ (39 ∷ [])) x v) (rw e at u))
  | inr e ↦ on (λ v. undoubled_text (front ++ (b ∷ [])) x v) (rw e at u)
]
  where
    on : (IsUtf8 ((front ++ (b ∷ [])) ++ doubled x) → IsUtf8 ((front ++ (b ∷ [])) ++ x)) → IsUtf8 (front ++ (b ∷ doubled x)) → IsUtf8 (front ++ (b ∷ x))
    on more v = subst IsUtf8 (append_assoc front (b ∷ []) x) (more (subst IsUtf8 (sym (append_assoc front (b ∷ []) (doubled x))) v))

    special : (IsUtf8 ((front ++ (39 ∷ [])) ++ doubled x) → IsUtf8 ((front ++ (39 ∷ [])) ++ x)) → IsUtf8 (front ++ (39 ∷ (39 ∷ doubled x))) → IsUtf8 (front ++ (39 ∷ x))
    special more v =
        let before = before_ascii front (39 ∷ doubled x) 39 (omega arith) v in
        let behind = after_ascii front (39 ∷ doubled x) 39 (omega arith) v in
        subst IsUtf8 (append_assoc front (39 ∷ []) x) (more (subst IsUtf8 (sym (append_assoc front (39 ∷ []) (doubled x))) (IsUtf8-append front (39 ∷ doubled x) before behind)))

-- the text of a token in single quotes is one
quoted_text : (text : List ℕ) (t : SqlToken) → IsUtf8 text → is_token kind.Quoted (span text t) ≡ true → IsUtf8 (unquoted (span text t))
quoted_text text t u h =
    let f = quoted_form (span text t) h in
    let front = take t.from text in
    let more = drop (t.to - t.from) (drop t.from text) in
    let parts : text ≡ front ++ (span text t ++ more) = sym (take-append-drop t.from text) ∙ ap (λ x. front ++ x) (sym (take-append-drop (t.to - t.from) (drop t.from text))) in
    let whole : front ++ (span text t ++ more) ≡ front ++ (39 ∷ (doubled f.0 ++ (39 ∷ more))) = ap (λ x. front ++ (x ++ more)) f.1 ∙ ap (λ x. front ++ (39 ∷ x)) (append_assoc (doubled f.0) (39 ∷ []) more) in
    let behind : IsUtf8 (doubled f.0 ++ (39 ∷ more)) = after_ascii front (doubled f.0 ++ (39 ∷ more)) 39 (omega arith) (subst IsUtf8 (parts ∙ whole) u) in
    let chars : IsUtf8 (doubled f.0) = before_ascii (doubled f.0) more 39 (omega arith) behind in
    subst IsUtf8 (sym (unquoted_of (span text t) f.0 f.1)) (undoubled_text [] f.0 chars)

-- the symbol of a word, as the call gives it
pub word_symbol : (text bytes : List ℕ) (t : SqlToken) (s : Symbol) → t.kind ≡ kind.Word → bytes ≡ span text t → (IsUtf8 bytes → s ≡ word (keyword_of bytes) bytes) → IsPlaced text t → IsSymbol t.kind (span text t) s
word_symbol text bytes t s k e h p =
    let form : is_token kind.Word (span text t) ≡ true = subst (λ x. is_token x (span text t) ≡ true) k p.form in
    let is : s ≡ word (keyword_of bytes) bytes = h (subst IsUtf8 (sym e) (word_text (span text t) form)) in
    subst (λ x. IsSymbol x (span text t) s) (sym k) (is ∙ ap (λ x. word (keyword_of x) x) e)

-- the symbol of a text in quotes, as the call gives it
pub quoted_symbol : (text bytes : List ℕ) (t : SqlToken) (s : Symbol) → t.kind ≡ kind.Quoted → bytes ≡ span text t → (IsUtf8 (unquoted bytes) → IsQuoted (unquoted bytes) s) → IsUtf8 text → IsPlaced text t → IsSymbol t.kind (span text t) s
quoted_symbol text bytes t s k e h u p =
    let form : is_token kind.Quoted (span text t) ≡ true = subst (λ x. is_token x (span text t) ≡ true) k p.form in
    let f = quoted_form (span text t) form in
    let is : IsQuoted (unquoted bytes) s = h (subst (λ x. IsUtf8 (unquoted x)) (sym e) (quoted_text text t u form)) in
    subst (λ x. IsSymbol x (span text t) s) (sym k) (f.0, f.1, subst (λ x. IsQuoted x s) (ap unquoted e ∙ unquoted_of (span text t) f.0 f.1) is)

-- what is so of each value is so of an answer
pub if_ok_each : {T E : Type 0} {P Q : T → Type 0} (r : Result T E) → ((x : T) → P x → Q x) → IfOk r P → IfOk r Q
if_ok_each (Ok x) f p = f x p
if_ok_each (Err e) f p = tt
