-- Slices of bytes.
use Rattle.std.proofs.Common.{◌≡◌, ℕ, ◌+◌, ◌-◌, List, ◌∷◌, [], ◌++◌, length, take, drop, ap, ◌∙◌, arith}
use Rattle.std.proofs.lemmas.List.{length-append}
use Rattle.std.proofs.Math.Seq.{take-append_seam, drop-append_seam}
use Rattle.mast_source.specs.Slices.{between, inside}

-- the bytes between the ends of a middle part are that part
pub between_of : (front w rest : List ℕ) (from to : ℕ) → from ≡ length front → to ≡ from + length w → between (front ++ (w ++ rest)) from to ≡ w
between_of front w rest from to f t =
    let size : to - from ≡ length w = omega arith in
    ap (λ n. take n (drop from (front ++ (w ++ rest)))) size
    ∙ ap (λ n. take (length w) (drop n (front ++ (w ++ rest)))) f
    ∙ ap (λ x. take (length w) x) (drop-append_seam front (w ++ rest))
    ∙ take-append_seam w rest

-- without its first and last byte a text between two bytes is that text
pub inside_of : (a b : ℕ) (x : List ℕ) → inside (a ∷ (x ++ (b ∷ []))) ≡ x
inside_of a b x =
    let l = length-append x (b ∷ []) in
    let size : length (a ∷ (x ++ (b ∷ []))) - 2 ≡ length x = omega arith in
    ap (λ n. take n (x ++ (b ∷ []))) size ∙ take-append_seam x (b ∷ [])
