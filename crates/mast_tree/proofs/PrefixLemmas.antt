-- Prefixes: the table's entries, and where a name is split.
use Rattle.std.proofs.Common.{◌≡◌, inl, inr, ℕ, suc, ◌+◌, ◌<◌, ◌==◌, List, ◌∷◌, [], ◌++◌, length, take, drop, refl, ap, sym, ◌∙◌, arith, Bor}
use Rattle.std.specs.Prelude.{Option, Some, None, MatchOption, string_bytes}
use Rattle.std.specs.Str.{bytes_eq}
use Rattle.std.specs.Map.{lookup}
use Rattle.std.specs.String.{string_eq}
use Rattle.std.specs.List.{position_or_len, before_first, after_first}
use Rattle.std.specs.declared.string.String.{String}
use Rattle.indexmap.specs.IndexMap.{insert_entry}
use Rattle.std.proofs.lemmas.Bool.{cases_Bool}
use Rattle.mast_tree.specs.inside.Prologue.{parts_of}
use Rattle.mast_tree.specs.Prefixes.{namespace_of, colon_split, after_byte}
use Rattle.mast_tree.specs.Tables.{shown}

-- what a map gives at a prefix is what the table gives
pub find_shown : {Z : Type 0} (q : List ℕ) (es : List (String Z × List ℕ)) → lookup (λ k. bytes_eq q (string_bytes k)) es ≡ namespace_of q (shown es)
find_shown q [] = refl
find_shown q (e ∷ es) = elim (cases_Bool (bytes_eq q (string_bytes e.0))) [
  | inl h ↦ rw h refl
  | inr h ↦ rw h (find_shown q es)
]

-- a new entry of a map stands at the end of the table
pub put_shown : {Z : Type 0} (k : String Z) (v : List ℕ) (es : List (String Z × List ℕ)) → namespace_of (string_bytes k) (shown es) ≡ None → shown (insert_entry string_eq es k v) ≡ shown es ++ (string_bytes k, v) ∷ []
put_shown k v [] h = refl
put_shown k v (e ∷ es) h = elim (cases_Bool (bytes_eq (string_bytes k) (string_bytes e.0))) [
  | inl g ↦ absurd (let f : ◌≡◌ {A = Option (List ℕ)} (Some e.1) None = rw g at h in cc)
  | inr g ↦ rw g (ap (λ x. (string_bytes e.0, e.1) ∷ x) (put_shown k v es (rw g at h)))
]

-- the first colon

shifted : (b : ℕ) (bs : List ℕ) (n m k : ℕ) → m ≡ suc n → k ≡ suc (n + 1) → ◌≡◌ {A = Option (List ℕ × List ℕ)} (Some (b ∷ take n bs, drop (n + 1) bs)) (Some (take m (b ∷ bs), drop k (b ∷ bs)))
shifted b bs n m k e f = ap (λ x. Some (take x (b ∷ bs), drop (n + 1) bs)) (sym e) ∙ ap (λ x. Some (take m (b ∷ bs), drop x (b ∷ bs))) (sym f)

colon_at : (bs : List ℕ) → position_or_len (λ b. b == 58) bs < length bs → colon_split bs ≡ Some (before_first (λ b. b == 58) bs, after_first (λ b. b == 58) bs)
colon_at [] h = absurd (omega arith)
colon_at (b ∷ bs) h = elim (cases_Bool (b == 58)) [
  | inl e ↦ rw e refl
  | inr e ↦ rw e (go (position_or_len (λ b. b == 58) bs) (λ l. colon_at bs l) (rw e at h))
]
  where
    go : (n : ℕ) → (n < length bs → colon_split bs ≡ Some (take n bs, drop (n + 1) bs)) → 1 + n < length (b ∷ bs) → after_byte b (colon_split bs) ≡ Some (take (1 + n) (b ∷ bs), drop (1 + n + 1) (b ∷ bs))
    go n ih h = ap (λ x. after_byte b x) (ih (omega arith)) ∙ shifted b bs n (1 + n) (1 + n + 1) (omega arith) (omega arith)

no_colon : (bs : List ℕ) → position_or_len (λ b. b == 58) bs ≡ length bs → colon_split bs ≡ None
no_colon [] h = refl
no_colon (b ∷ bs) h = elim (cases_Bool (b == 58)) [
  | inl e ↦ absurd (let g : 0 ≡ length (b ∷ bs) = rw e at h in omega arith)
  | inr e ↦ rw e (go (position_or_len (λ b. b == 58) bs) (λ l. no_colon bs l) (rw e at h))
]
  where
    go : (n : ℕ) → (n ≡ length bs → colon_split bs ≡ None) → 1 + n ≡ length (b ∷ bs) → after_byte b (colon_split bs) ≡ None
    go n ih h = ap (λ x. after_byte b x) (ih (omega arith))

-- std's first colon is the first colon
pub split_is : (bs : List ℕ) (r : Option (Bor (List ℕ) × Bor (List ℕ))) → MatchOption r (position_or_len (λ b. b == 58) bs ≡ length bs) (λ x. (position_or_len (λ b. b == 58) bs < length bs) × (x.0.now ≡ before_first (λ b. b == 58) bs) × (x.1.now ≡ after_first (λ b. b == 58) bs)) → parts_of r ≡ colon_split bs
split_is bs None h = sym (no_colon bs h)
split_is bs (Some x) h = pair x.0.now x.1.now h.1 h.2 ∙ sym (colon_at bs h.0)
  where
    pair : (a b : List ℕ) → a ≡ before_first (λ b. b == 58) bs → b ≡ after_first (λ b. b == 58) bs → ◌≡◌ {A = Option (List ℕ × List ℕ)} (Some (a, b)) (Some (before_first (λ b. b == 58) bs, after_first (λ b. b == 58) bs))
    pair a b e f = ap (λ x. Some (x, b)) e ∙ ap (λ x. Some (before_first (λ b. b == 58) bs, x)) f
