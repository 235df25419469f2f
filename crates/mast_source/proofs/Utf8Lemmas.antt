-- Texts that are cut beside a byte of ASCII.
use Rattle.std.proofs.Common.{◌≡◌, ℕ, zero, suc, ◌+◌, ◌<◌, List, ◌∷◌, [], ◌++◌, length, refl, ap, sym, ◌∙◌, subst, arith, append_assoc}
use Rattle.std.specs.Prelude.{slice_index}
use Rattle.std.specs.Str.{IsUtf8, IsAscii}
use Rattle.std.proofs.lemmas.Str.{IsUtf8-take, IsUtf8-drop, IsUtf8-append, IsUtf8-from_ascii, IsCharBoundary-after_ascii, IsCharBoundary-before_ascii}
use Rattle.std.proofs.lemmas.List.{length-append}
use Rattle.std.proofs.Math.ListN.{get_or}
use Rattle.std.proofs.Math.Seq.{take-append_seam, drop-append-add}

get_seam : (a b : List ℕ) (c : ℕ) → get_or (a ++ (c ∷ b)) (length a) 0 ≡ c
get_seam [] b c = refl
get_seam (x ∷ a) b c = get_seam a b c

seam_size : (a b : List ℕ) (c : ℕ) → length a < length (a ++ (c ∷ b))
seam_size a b c = let l = length-append a (c ∷ b) in omega arith

-- what stands behind a byte of ASCII is a text
pub after_ascii : (a b : List ℕ) (c : ℕ) → c < 128 → IsUtf8 (a ++ (c ∷ b)) → IsUtf8 b
after_ascii a b c l u =
    let small : get_or (a ++ (c ∷ b)) (length a) 0 < 128 = subst (λ x. x < 128) (sym (get_seam a b c)) l in
    let boundary = IsCharBoundary-after_ascii (a ++ (c ∷ b)) (length a) u (seam_size a b c) small in
    subst IsUtf8 (drop-append-add a (c ∷ b) 1) (IsUtf8-drop (a ++ (c ∷ b)) (length a + 1) u boundary)

-- what stands before a byte of ASCII is a text
pub before_ascii : (a b : List ℕ) (c : ℕ) → c < 128 → IsUtf8 (a ++ (c ∷ b)) → IsUtf8 a
before_ascii a b c l u =
    let small : get_or (a ++ (c ∷ b)) (length a) 0 < 128 = subst (λ x. x < 128) (sym (get_seam a b c)) l in
    let boundary = IsCharBoundary-before_ascii (a ++ (c ∷ b)) (length a) (seam_size a b c) small in
    subst IsUtf8 (take-append_seam a (c ∷ b)) (IsUtf8-take (a ++ (c ∷ b)) (length a) u boundary)

-- what stands between two bytes of ASCII is a text
pub between_ascii : (a b : ℕ) (x : List ℕ) → a < 128 → b < 128 → IsUtf8 (a ∷ (x ++ (b ∷ []))) → IsUtf8 x
between_ascii a b x l m u = before_ascii x [] b m (after_ascii [] (x ++ (b ∷ [])) a l u)

-- a byte of ASCII is a text
pub ascii_one : (c : ℕ) → c < 128 → IsUtf8 (c ∷ [])
ascii_one c l = IsUtf8-from_ascii (c ∷ []) (small c l)
  where
    small : (c : ℕ) → c < 128 → IsAscii (c ∷ [])
    small c l zero = l
    small c l (suc i) = past i
      where
        past : (i : ℕ) → slice_index (c ∷ []) (suc i) < 128
        past i = omega arith

-- bytes that end with a byte of ASCII
abbrev pub EndsAscii : List ℕ → Type 0
EndsAscii w = (front : List ℕ) × (last : ℕ) × (w ≡ front ++ (last ∷ [])) × (last < 128)

-- with a byte more before them they still do
pub ends_more : (b : ℕ) (w : List ℕ) → EndsAscii w → EndsAscii (b ∷ w)
ends_more b w t = (b ∷ t.0, t.1, ap (λ x. b ∷ x) t.2, t.3)

-- a text is cut behind such bytes into two texts
pub cut_last : (w rest : List ℕ) → EndsAscii w → IsUtf8 (w ++ rest) → IsUtf8 w × IsUtf8 rest
cut_last w rest t u =
    let whole : w ++ rest ≡ t.0 ++ (t.1 ∷ rest) = ap (λ x. x ++ rest) t.2 ∙ append_assoc t.0 (t.1 ∷ []) rest in
    let v : IsUtf8 (t.0 ++ (t.1 ∷ rest)) = subst IsUtf8 whole u in
    let front = before_ascii t.0 rest t.1 t.3 v in
    (subst IsUtf8 (sym t.2) (IsUtf8-append t.0 (t.1 ∷ []) front (ascii_one t.1 t.3)), after_ascii t.0 rest t.1 t.3 v)

-- a text is cut before a byte of ASCII into two texts
pub cut_before : (w rest : List ℕ) (b : ℕ) → b < 128 → IsUtf8 (w ++ (b ∷ rest)) → IsUtf8 w × IsUtf8 (b ∷ rest)
cut_before w rest b l u = (before_ascii w rest b l u, IsUtf8-append (b ∷ []) rest (ascii_one b l) (after_ascii w rest b l u))
