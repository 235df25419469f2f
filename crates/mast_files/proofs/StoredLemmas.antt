-- The first file of a name, and the file at a place.
use Rattle.std.proofs.Common.{◌≡◌, ℕ, zero, suc, List, [], ◌∷◌, drop, true, subst, refl}
use Rattle.std.specs.Prelude.{Some, slice_get, nat_eq}
use Rattle.std.specs.Cmp.Lexicographic.{pointwise}
use Rattle.mast_files.specs.Stored.{content_of}
use Rattle.mast_files.specs.inside.Places.{entry_content}

-- the file at a place that has the name is the first one from there
pub content_of-drop : (files : List (List ℕ × List ℕ)) (place : ℕ) (entry : List ℕ × List ℕ) (name : List ℕ) → slice_get files place ≡ Some entry → pointwise nat_eq entry.0 name ≡ true → content_of (drop place files) name ≡ entry_content (slice_get files place)
content_of-drop [] place entry name there same = absurd (cc)
content_of-drop (file ∷ files) zero entry name there same = let e : entry ≡ file = cc in rw (subst (λ (f : List ℕ × List ℕ). pointwise nat_eq f.0 name ≡ true) e same) refl
content_of-drop (file ∷ files) (suc place) entry name there same = content_of-drop files place entry name there same
