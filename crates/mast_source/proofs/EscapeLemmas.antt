-- Escapes and what they stand for.
use Rattle.std.proofs.Common.{◌≡◌, inl, inr, ℕ, ◌==◌, ◌||◌, Bool, true, false, List, ◌∷◌, [], ◌++◌, refl, ap, sym, ◌∙◌, subst, arith, append_assoc}
use Rattle.std.specs.Str.{IsUtf8}
use Rattle.std.proofs.lemmas.Str.{IsUtf8-append}
use Rattle.std.proofs.lemmas.Bool.{cases_Bool}
use Rattle.mast_source.specs.Bytes.{quote, backslash}
use Rattle.mast_source.specs.Escapes.{escaped, quoted, has_escape, unescaped}
use Rattle.mast_source.specs.Slices.{inside}
use Rattle.mast_source.proofs.SliceLemmas.{inside_of}
use Rattle.mast_source.proofs.Utf8Lemmas.{before_ascii, after_ascii, between_ascii}

or_false : (x y : Bool) → (x || y) ≡ false → y ≡ false
or_false true y h = absurd (cc)
or_false false y h = h

-- a quote or a backslash is escaped
pub escaped_special : (b : ℕ) (t : List ℕ) → (b == quote || b == backslash) ≡ true → escaped (b ∷ t) ≡ backslash ∷ (b ∷ escaped t)
escaped_special b t h = rw h refl

-- any other byte is not
pub escaped_plain : (b : ℕ) (t : List ℕ) → (b == quote) ≡ false → (b == backslash) ≡ false → escaped (b ∷ t) ≡ b ∷ escaped t
escaped_plain b t h g = rw (h, g) refl

-- a text comes back of its escapes
pub unescaped_of : (x : List ℕ) → unescaped (escaped x) ≡ x
unescaped_of [] = refl
unescaped_of (b ∷ x) = elim (cases_Bool (b == quote || b == backslash)) [
  | inl e ↦ rw e (ap (λ y. b ∷ y) (unescaped_of x))
  | inr e ↦ rw e (plain (unescaped_of x) (b == backslash) refl e)
]
  where
    plain : unescaped (escaped x) ≡ x → (s : Bool) → (b == backslash) ≡ s → (b == quote || b == backslash) ≡ false → unescaped (b ∷ escaped x) ≡ b ∷ x
    plain i true g e = absurd (let h = or_false (b == quote) (b == backslash) e in cc)
    plain i false g e = rw g (ap (λ y. b ∷ y) i)

-- a text in quotes comes back of what stands inside
pub unescaped_quoted : (x : List ℕ) → unescaped (inside (quoted x)) ≡ x
unescaped_quoted x = ap unescaped (inside_of quote quote (escaped x)) ∙ unescaped_of x

escaped_text : (front x : List ℕ) → IsUtf8 (front ++ escaped x) → IsUtf8 (front ++ x)
escaped_text front [] u = u
escaped_text front (b ∷ x) u = elim (cases_Bool (b == quote || b == backslash)) [
  | inl e ↦ special (λ v. escaped_text (front ++ (b ∷ [])) x v) (rw e at u)
  | inr e ↦ on (λ v. escaped_text (front ++ (b ∷ [])) x v) (rw e at u)
]
  where
    on : (IsUtf8 ((front ++ (b ∷ [])) ++ escaped x) → IsUtf8 ((front ++ (b ∷ [])) ++ x)) → IsUtf8 (front ++ (b ∷ escaped x)) → IsUtf8 (front ++ (b ∷ x))
    on more v = subst IsUtf8 (append_assoc front (b ∷ []) x) (more (subst IsUtf8 (sym (append_assoc front (b ∷ []) (escaped x))) v))

    special : (IsUtf8 ((front ++ (b ∷ [])) ++ escaped x) → IsUtf8 ((front ++ (b ∷ [])) ++ x)) → IsUtf8 (front ++ (backslash ∷ (b ∷ escaped x))) → IsUtf8 (front ++ (b ∷ x))
    special more v = on more (IsUtf8-append front (b ∷ escaped x) (before_ascii front (b ∷ escaped x) backslash (omega arith) v) (after_ascii front (b ∷ escaped x) backslash (omega arith) v))

-- what a text in quotes stands for is a text
pub quoted_text : (x : List ℕ) → IsUtf8 (quoted x) → IsUtf8 x
quoted_text x u = escaped_text [] x (between_ascii quote quote (escaped x) (omega arith) (omega arith) u)

-- with no backslash a text is its own escaped form
pub no_escape : (x : List ℕ) → has_escape (escaped x) ≡ false → escaped x ≡ x
no_escape [] h = refl
no_escape (b ∷ x) h = elim (cases_Bool (b == quote || b == backslash)) [
  | inl e ↦ absurd (let g : true ≡ false = rw e at h in cc)
  | inr e ↦ rw e (ap (λ y. b ∷ y) (no_escape x (or_false (b == backslash) (has_escape (escaped x)) (rw e at h))))
]

-- bytes with no backslash are what they stand for
pub unescaped_same : (bytes : List ℕ) → has_escape bytes ≡ false → unescaped bytes ≡ bytes
unescaped_same [] h = refl
unescaped_same (b ∷ bytes) h = elim (cases_Bool (b == backslash)) [
  | inl e ↦ absurd (let g : true ≡ false = rw e at h in cc)
  | inr e ↦ rw e (ap (λ y. b ∷ y) (unescaped_same bytes (or_false (b == backslash) (has_escape bytes) h)))
]
