-- The words and texts of tokens.
use Rattle.std.proofs.Common.{◌≡◌, ℕ, ◌==◌, true, false, List, ◌∷◌, [], ◌++◌, refl, ap, sym, ◌∙◌, subst, arith}
use Rattle.std.specs.Prelude.{Some, slice_get}
use Rattle.std.specs.Str.{IsUtf8}
use Rattle.std.proofs.lemmas.Bool.{and_parts}
use Rattle.mast_source.specs.Bytes.{less, greater, quote}
use Rattle.mast_source.specs.Escapes.{escaped, quoted, unescaped}
use Rattle.mast_source.specs.Slices.{inside}
use Rattle.mast_source.proofs.ByteLemmas.{is_byte}
use Rattle.mast_source.proofs.EscapeLemmas.{unescaped_quoted, quoted_text}
use Rattle.mast_source.proofs.SliceLemmas.{inside_of}
use Rattle.mast_source.proofs.Utf8Lemmas.{between_ascii}
use Rattle.mast_tree.specs.declared.token.Token.{Token}
use Rattle.mast_tree.specs.declared.token.TokenKind.{TokenKind}
use Rattle.mast_tree.specs.declared.token.TokenKind.TheVariants.{Iri, Name, Str}
use Rattle.mast_tree.specs.Tokens.{is_token, iri_rest, str_rest}
use Rattle.mast_tree.specs.Source.{AreTokens}
use Rattle.mast_tree.specs.Words.{span, word_bytes, word_at, word_of, text_bytes, text_at, text_of, IsWordOf, IsTextOf, HasWord, HasText}
use Rattle.mast_tree.proofs.TokenTextLemmas.{token_word, iri_inside, str_inside}

iri_form : (w : List ℕ) → is_token Iri w ≡ true → (x : List ℕ) × (w ≡ less ∷ (x ++ (greater ∷ [])))
iri_form [] h = absurd (cc)
iri_form (b ∷ w) h =
    let p = and_parts (b == less) (iri_rest w) h in
    let t = iri_inside w p.1 in
    (t.0, ap (λ y. y ∷ w) (is_byte b less p.0) ∙ ap (λ y. less ∷ y) t.1)

str_form : (w : List ℕ) → is_token Str w ≡ true → (x : List ℕ) × (w ≡ quoted x)
str_form [] h = absurd (cc)
str_form (b ∷ w) h =
    let p = and_parts (b == quote) (str_rest false w) h in
    let t = str_inside w false p.1 in
    (t.0, ap (λ y. y ∷ w) (is_byte b quote p.0) ∙ ap (λ y. quote ∷ y) t.1)

-- the token of that number
pub record Taken (source : List ℕ) (tokens : List Token) (i : ℕ) (u : Token) : Type 0 where
  pub tokens_of : AreTokens source tokens
  pub found : slice_get tokens i ≡ Some u

word_found : (source : List ℕ) (tokens : List Token) (i : ℕ) (u : Token) → slice_get tokens i ≡ Some u → word_of source tokens i ≡ word_bytes u.kind (span source u)
word_found source tokens i u f = ap (λ x. word_at source x) f

text_found : (source : List ℕ) (tokens : List Token) (i : ℕ) (u : Token) → slice_get tokens i ≡ Some u → text_of source tokens i ≡ text_bytes u.kind (span source u)
text_found source tokens i u f = ap (λ x. text_at source x) f

-- the bytes of a token that is no IRI are its word
pub word_default : (source : List ℕ) (tokens : List Token) (i : ℕ) (u : Token) (bytes word : List ℕ) → Taken source tokens i u → (u.kind ≡ Iri → ⊥) → bytes ≡ span source u → (IsUtf8 bytes → word ≡ bytes) → word ≡ word_of source tokens i
word_default source tokens i u bytes word k other e text =
    let w = token_word source tokens i u k.tokens_of k.found in
    text (subst IsUtf8 (sym e) w.text) ∙ e ∙ go u.kind other ∙ sym (word_found source tokens i u k.found)
  where
    go : (k : TokenKind) → (k ≡ Iri → ⊥) → span source u ≡ word_bytes k (span source u)
    go Iri h = absurd (h refl)
    go _ h = refl

-- what stands between the brackets of an IRI is its word
pub word_iri : (source : List ℕ) (tokens : List Token) (i : ℕ) (u : Token) (bytes inner word : List ℕ) → Taken source tokens i u → u.kind ≡ Iri → bytes ≡ span source u → inner ≡ inside bytes → (IsUtf8 inner → word ≡ inner) → word ≡ word_of source tokens i
word_iri source tokens i u bytes inner word k kind e n text =
    let w = token_word source tokens i u k.tokens_of k.found in
    let f = iri_form (span source u) (subst (λ x. is_token x (span source u) ≡ true) kind w.form) in
    let is : inner ≡ f.0 = n ∙ ap inside (e ∙ f.1) ∙ inside_of less greater f.0 in
    let utf8 : IsUtf8 f.0 = between_ascii less greater f.0 (omega arith) (omega arith) (subst IsUtf8 f.1 w.text) in
    text (subst IsUtf8 (sym is) utf8) ∙ n ∙ ap inside e ∙ ap (λ x. word_bytes x (span source u)) (sym kind) ∙ sym (word_found source tokens i u k.found)

-- what stands between the quotes of a string, and what it stands for
pub record IsString (source : List ℕ) (u : Token) (inner : List ℕ) : Type 0 where
  pub utf8 : IsUtf8 inner
  pub plain : IsUtf8 (unescaped inner)

-- both are texts
pub string_is : (source : List ℕ) (tokens : List Token) (i : ℕ) (u : Token) (bytes inner : List ℕ) → Taken source tokens i u → u.kind ≡ Str → bytes ≡ span source u → inner ≡ inside bytes → IsString source u inner
string_is source tokens i u bytes inner k kind e n =
    let w = token_word source tokens i u k.tokens_of k.found in
    let f = str_form (span source u) (subst (λ x. is_token x (span source u) ≡ true) kind w.form) in
    let is : inner ≡ inside (quoted f.0) = n ∙ ap inside (e ∙ f.1) in
    let whole : IsUtf8 (quoted f.0) = subst IsUtf8 f.1 w.text in
    record {
      utf8 = subst IsUtf8 (sym (is ∙ inside_of quote quote (escaped f.0))) (between_ascii quote quote (escaped f.0) (omega arith) (omega arith) whole);
      plain = subst IsUtf8 (sym (ap unescaped is ∙ unescaped_quoted f.0)) (quoted_text f.0 whole);
    }

-- what stands for it is the string's text
pub text_string : (source : List ℕ) (tokens : List Token) (i : ℕ) (u : Token) (bytes inner : List ℕ) → slice_get tokens i ≡ Some u → u.kind ≡ Str → bytes ≡ span source u → inner ≡ inside bytes → unescaped inner ≡ text_of source tokens i
text_string source tokens i u bytes inner found kind e n = ap unescaped (n ∙ ap inside e) ∙ ap (λ x. text_bytes x (span source u)) (sym kind) ∙ sym (text_found source tokens i u found)

-- a token that is no string has no text
pub text_none : (source : List ℕ) (tokens : List Token) (i : ℕ) (u : Token) → slice_get tokens i ≡ Some u → (u.kind ≡ Str → ⊥) → [] ≡ text_of source tokens i
text_none source tokens i u found other = go u.kind other ∙ sym (text_found source tokens i u found)
  where
    go : (k : TokenKind) → (k ≡ Str → ⊥) → [] ≡ text_bytes k (span source u)
    go Str h = absurd (h refl)
    go _ h = refl

-- the word of a token is what its form says
pub has_word : (source : List ℕ) (tokens : List Token) (i : ℕ) → AreTokens source tokens → HasWord source tokens i (word_of source tokens i)
has_word source tokens i a t s = subst (λ x. IsWordOf t.kind (span source t) x) (sym (word_found source tokens i t s)) (go t.kind refl)
  where
    go : (k : TokenKind) → t.kind ≡ k → IsWordOf k (span source t) (word_bytes k (span source t))
    go Name h = refl
    go Iri h =
        let w = token_word source tokens i t a s in
        let f = iri_form (span source t) (subst (λ x. is_token x (span source t) ≡ true) h w.form) in
        let is : inside (span source t) ≡ f.0 = ap inside f.1 ∙ inside_of less greater f.0 in
        f.1 ∙ ap (λ x. less ∷ (x ++ (greater ∷ []))) (sym is)
    go _ h = tt

-- the text of a token is what its form says
pub has_text : (source : List ℕ) (tokens : List Token) (i : ℕ) → AreTokens source tokens → HasText source tokens i (text_of source tokens i)
has_text source tokens i a t s = subst (λ x. IsTextOf t.kind (span source t) x) (sym (text_found source tokens i t s)) (go t.kind refl)
  where
    go : (k : TokenKind) → t.kind ≡ k → IsTextOf k (span source t) (text_bytes k (span source t))
    go Str h =
        let w = token_word source tokens i t a s in
        let f = str_form (span source t) (subst (λ x. is_token x (span source t) ≡ true) h w.form) in
        f.1 ∙ ap quoted (sym (ap (λ x. unescaped (inside x)) f.1 ∙ unescaped_quoted f.0))
    go _ h = tt
