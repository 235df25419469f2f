-- The byte order mark of a text.
use Rattle.std.proofs.Common.{◌≡◌, ◌⊎◌, inl, inr, ℕ, ◌≤◌, ◌==◌, ◌&&◌, true, List, ◌∷◌, [], length, take, drop, refl, ap, sym, ◌∙◌, subst, arith}
use Rattle.std.specs.Str.{IsUtf8, is_utf8, chars}
use lib.Utf8.{encode}
use Rattle.std.proofs.lemmas.Str.{IsUtf8-nil, IsUtf8-drop, IsUtf8-from_is_utf8, IsCharBoundary-from_take}
use Rattle.std.proofs.lemmas.Bool.{and_parts, cases_Bool}
use Rattle.mast_source.specs.Bom.{bom, bom_length}
use Rattle.mast_source.proofs.ByteLemmas.{is_byte}

-- what it takes is within the text
pub bom_within : (source : List ℕ) → bom_length source ≤ length source
bom_within [] = omega arith
bom_within (a ∷ []) = omega arith
bom_within (a ∷ b ∷ []) = omega arith
bom_within (a ∷ b ∷ c ∷ bs) = elim (cases_Bool (a == 0xEF && b == 0xBB && c == 0xBF)) [
  | inl e ↦ rw e (omega arith)
  | inr e ↦ rw e (omega arith)
]

-- what it takes is the mark, or nothing
pub bom_taken : (source : List ℕ) → (take (bom_length source) source ≡ bom) ⊎ (take (bom_length source) source ≡ [])
bom_taken [] = inr refl
bom_taken (a ∷ []) = inr refl
bom_taken (a ∷ b ∷ []) = inr refl
bom_taken (a ∷ b ∷ c ∷ bs) = elim (cases_Bool (a == 0xEF && b == 0xBB && c == 0xBF)) [
  | inl e ↦ rw e (inl (marked e))
  | inr e ↦ rw e (inr refl)
]
  where
    marked : (a == 0xEF && b == 0xBB && c == 0xBF) ≡ true → a ∷ b ∷ c ∷ [] ≡ bom
    marked e =
        let p = and_parts (a == 0xEF && b == 0xBB) (c == 0xBF) e in
        let q = and_parts (a == 0xEF) (b == 0xBB) p.0 in
        ap (λ x. x ∷ b ∷ c ∷ []) (is_byte a 0xEF q.0) ∙ ap (λ x. 0xEF ∷ x ∷ c ∷ []) (is_byte b 0xBB q.1) ∙ ap (λ x. 0xEF ∷ 0xBB ∷ x ∷ []) (is_byte c 0xBF p.1)

bom_text : IsUtf8 bom
unfolding is_utf8 chars encode
bom_text = IsUtf8-from_is_utf8 bom refl

-- behind it stands a text
pub behind_text : (source : List ℕ) → IsUtf8 source → IsUtf8 (drop (bom_length source) source)
behind_text source u = elim (bom_taken source) [
  | inl e ↦ IsUtf8-drop source (bom_length source) u (IsCharBoundary-from_take source (bom_length source) u (bom_within source) (subst IsUtf8 (sym e) bom_text))
  | inr e ↦ IsUtf8-drop source (bom_length source) u (IsCharBoundary-from_take source (bom_length source) u (bom_within source) (subst IsUtf8 (sym e) nothing))
]
  where
    nothing : IsUtf8 []
    nothing = IsUtf8-nil
