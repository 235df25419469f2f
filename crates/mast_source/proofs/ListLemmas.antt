-- Lists in two parts.
use Rattle.std.proofs.Common.{◌≡◌, ℕ, zero, suc, ◌≤◌, List, ◌∷◌, [], ◌++◌, length, take, drop, refl, ap, sym, ◌∙◌, arith}
use Rattle.std.proofs.Math.Seq.{take-append_seam, drop-append_seam}

-- of two splits of one list, the first no longer than the second, the second part of the first begins with what the second has more
pub split_within : {A : Type 0} (w rest v after : List A) → w ++ rest ≡ v ++ after → length w ≤ length v → (more : List A) × (v ≡ w ++ more) × (rest ≡ more ++ after)
split_within [] rest v after e h = (v, refl, e)
split_within (b ∷ w) rest [] after e h = absurd (omega arith)
split_within (b ∷ w) rest (c ∷ v) after e h =
    let s : w ++ rest ≡ v ++ after = cc in
    let t = split_within w rest v after s (omega arith) in
    let same : c ≡ b = cc in
    (t.0, ap (λ x. x ∷ v) same ∙ ap (λ x. b ∷ x) t.1, t.2)

-- the first part of a list is what one takes of it
pub take_split : {A : Type 0} (w rest bs : List A) (n : ℕ) → bs ≡ w ++ rest → length w ≡ n → take n bs ≡ w
take_split w rest bs n e l = ap (λ m. take m bs) (sym l) ∙ ap (λ x. take (length w) x) e ∙ take-append_seam w rest

-- the second part of a list is what is left behind the first
pub drop_split : {A : Type 0} (w rest bs : List A) (n : ℕ) → bs ≡ w ++ rest → length w ≡ n → drop n bs ≡ rest
drop_split w rest bs n e l = ap (λ m. drop m bs) (sym l) ∙ ap (λ x. drop (length w) x) e ∙ drop-append_seam w rest

-- of a longer list all is taken
pub take_all : {A : Type 0} (bs : List A) (k : ℕ) → length bs ≤ k → take k bs ≡ bs
take_all [] zero h = refl
take_all [] (suc k) h = refl
take_all (b ∷ bs) zero h = absurd (omega arith)
take_all (b ∷ bs) (suc k) h = ap (λ x. b ∷ x) (take_all bs k (omega arith))

-- what is taken first and what more of it is taken
pub take_more : {A : Type 0} (ks : List A) (m n : ℕ) → m ≤ n → (rest : List A) × (take n ks ≡ take m ks ++ rest)
take_more [] zero n h = (take n [], refl)
take_more [] (suc m) zero h = absurd (omega arith)
take_more [] (suc m) (suc n) h = ([], refl)
take_more (k ∷ ks) zero n h = (take n (k ∷ ks), refl)
take_more (k ∷ ks) (suc m) zero h = absurd (omega arith)
take_more (k ∷ ks) (suc m) (suc n) h = let t = take_more ks m n (omega arith) in (t.0, ap (λ z. k ∷ z) t.1)
