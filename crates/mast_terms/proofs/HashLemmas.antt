-- What a hasher is fed tells numbers, texts and lists, and what is made of them.
use mir.Val.{of_z, to_z}
use Rattle.std.proofs.Common.{◌≡◌, ℕ, pos, ◌<◌, ◌^◌, true, List, [], ◌∷◌, ◌++◌, length, refl, ap, sym, ◌∙◌, arith, FitsSigned, w16, w32, w64}
use Rattle.std.proofs.Math.Utf8.{scalar, scalars, encode, encodes, scalar_cases}
use Rattle.std.proofs.Math.Facts.{Fits-of_z}
use Rattle.std.proofs.lemmas.Bool.{and_parts}
use Rattle.std.proofs.lemmas.Grind.{flat_map-append}
use Rattle.std.proofs.lemmas.Int.{to_z-of_z}
use Rattle.std.proofs.lemmas.List.{append_assoc, append-nil}
use Rattle.std.proofs.lemmas.Nat.{from_le_bytes-to_le_bytes_2, from_le_bytes-to_le_bytes_4, from_le_bytes-to_le_bytes_8}
use Rattle.std.proofs.lemmas.Str.{encode_same}
use Rattle.std.specs.Hash as fed
use Rattle.std.specs.Hash.{HashWrites, le_bytes}
use Rattle.std.specs.Int.{from_le_bytes}
use Rattle.std.specs.List.{AllByRecursion, flat_map}
use Rattle.std.specs.Prelude.{IsUtf8}
use Rattle.mast_terms.specs.Hashes.{fed_bytes, IsTold, TellsApart, FitsAlways, FitsList, AreTold, TellsLists}

module _ {A : Type 0} where
  -- two lists of one length at the front of one list are one
  fronts : (us vs xs ys : List A) → length us ≡ length vs → us ++ xs ≡ vs ++ ys → (us ≡ vs) × (xs ≡ ys)
  fronts [] [] xs ys l e = (refl, e)
  fronts [] (v ∷ vs) xs ys l e = absurd (omega arith)
  fronts (u ∷ us) [] xs ys l e = absurd (omega arith)
  fronts (u ∷ us) (v ∷ vs) xs ys l e =
      let first : u ≡ v = cc in
      let rest : us ++ xs ≡ vs ++ ys = cc in
      let r = fronts us vs xs ys (omega arith) rest in
      let more : us ≡ vs = r.0 in
      let both : u ∷ us ≡ v ∷ vs = cc in (both, r.1)

-- what is fed in one write of a length that all have is told, where the write tells it
pub told_word : {A : Type 0} (write : A → List ℕ) (a b : A) → length (write a) ≡ length (write b) → (write a ≡ write b → a ≡ b)
    → IsTold (λ x. write x ∷ []) a b
told_word write a b long same more others e =
    let r = fronts (write a) (write b) more others long (ap (λ w. w ++ more) (sym (append-nil (write a))) ∙ e ∙ ap (λ w. w ++ others) (append-nil (write b))) in
    (same r.0, r.1)

-- what is fed behind other writes stands behind their bytes
fed_behind : (us vs : HashWrites) (more : List ℕ) → fed_bytes (us ++ vs) ++ more ≡ fed_bytes us ++ (fed_bytes vs ++ more)
fed_behind us vs more = ap (λ l. l ++ more) (flat_map-append (λ bytes. bytes) us vs) ∙ append_assoc (fed_bytes us) (fed_bytes vs) more

-- what is fed first is told, and what follows it is fed alike
pub told_first : {A : Type 0} (F : A → HashWrites) (a c : A) → IsTold F a c → (us vs : HashWrites) (more others : List ℕ)
    → fed_bytes (F a ++ us) ++ more ≡ fed_bytes (F c ++ vs) ++ others → (a ≡ c) × (fed_bytes us ++ more ≡ fed_bytes vs ++ others)
told_first F a c f us vs more others e =
    f (fed_bytes us ++ more) (fed_bytes vs ++ others) (sym (fed_behind (F a) us more) ∙ e ∙ fed_behind (F c) vs others)

-- two things that are fed one after the other are told, where each is
pub told_then : {A B : Type 0} (F : A → HashWrites) (G : B → HashWrites) (a c : A) (b d : B) → IsTold F a c → IsTold G b d → (more others : List ℕ)
    → fed_bytes (F a ++ G b) ++ more ≡ fed_bytes (F c ++ G d) ++ others → (a ≡ c) × (b ≡ d) × (more ≡ others)
told_then F G a c b d f g more others e =
    let r = told_first F a c f (G b) (G d) more others e in
    let s = g more others r.1 in
    (r.0, s.0, s.1)

-- a byte
pub u8_tells : TellsApart FitsAlways fed.u8
u8_tells m n p q = told_word (λ x. x ∷ []) m n refl (λ s. cc)

-- a number of 16 bits
pub u16_tells : TellsApart (λ n. n < 2 ^ 16) fed.u16
unfolding le_bytes
u16_tells m n p q = told_word (le_bytes 2) m n refl (λ s. sym (from_le_bytes-to_le_bytes_2 m p) ∙ ap (from_le_bytes w16) s ∙ from_le_bytes-to_le_bytes_2 n q)

-- a number of 32 bits
pub u32_tells : TellsApart (λ n. n < 2 ^ 32) fed.u32
unfolding le_bytes
u32_tells m n p q = told_word (le_bytes 4) m n refl (λ s. sym (from_le_bytes-to_le_bytes_4 m p) ∙ ap (from_le_bytes w32) s ∙ from_le_bytes-to_le_bytes_4 n q)

-- a number of 64 bits
pub u64_tells : TellsApart (λ n. n < 2 ^ 64) fed.u64
unfolding le_bytes
u64_tells m n p q = told_word (le_bytes 8) m n refl (λ s. sym (from_le_bytes-to_le_bytes_8 m p) ∙ ap (from_le_bytes w64) s ∙ from_le_bytes-to_le_bytes_8 n q)

-- an integer of 64 bits
pub i64_tells : TellsApart (FitsSigned w64) fed.i64
i64_tells y z p q more others e =
    let r = u64_tells (of_z w64 y) (of_z w64 z) (Fits-of_z p).fits (Fits-of_z q).fits more others e in
    (sym (to_z-of_z w64 y p) ∙ ap (to_z w64) r.0 ∙ to_z-of_z w64 z q, r.1)

-- the number of a variant, and then what it holds
pub told_tag : (m n : ℕ) → m < 2 ^ 64 → n < 2 ^ 64 → (us vs : HashWrites) (more others : List ℕ)
    → fed_bytes (fed.isize (pos m) ++ us) ++ more ≡ fed_bytes (fed.isize (pos n) ++ vs) ++ others → (m ≡ n) × (fed_bytes us ++ more ≡ fed_bytes vs ++ others)
told_tag m n p q us vs = told_first fed.u64 m n (u64_tells m n p q) us vs

-- different variants are told
pub other_tag : (m n : ℕ) → m < 2 ^ 64 → n < 2 ^ 64 → (m ≡ n → ⊥) → (us vs : HashWrites) (more others : List ℕ)
    → fed_bytes (fed.isize (pos m) ++ us) ++ more ≡ fed_bytes (fed.isize (pos n) ++ vs) ++ others → ⊥
other_tag m n p q apart us vs more others e = apart (told_tag m n p q us vs more others e).0

-- variants that hold nothing, where each has a number of its own
pub variants_tell : {A : Type 0} (place : A → ℕ) (input : A → HashWrites) → ((a : A) → input a ≡ fed.isize (pos (place a)))
    → ((a : A) → place a < 2 ^ 64) → ((a b : A) → place a ≡ place b → a ≡ b) → TellsApart FitsAlways input
variants_tell place input is small same a b p q more others e =
    let r = u64_tells (place a) (place b) (small a) (small b) more others (ap (λ w. fed_bytes w ++ more) (sym (is a)) ∙ e ∙ ap (λ w. fed_bytes w ++ others) (is b)) in
    (same a b r.0, r.1)

-- the first byte of a character is never 0xFF
lead : (c : ℕ) (rest x : List ℕ) → scalar c ≡ true → 255 ∷ x ≡ encode c ++ rest → ⊥
unfolding encode
lead c rest x s e =
    let small = scalar_cases c s in
    grind (arith, small, e)

-- characters up to the byte 0xFF
ends : (cs ds x y : List ℕ) → scalars cs ≡ true → scalars ds ≡ true → encodes cs ++ 255 ∷ x ≡ encodes ds ++ 255 ∷ y → (encodes cs ≡ encodes ds) × (x ≡ y)
ends [] [] x y s t e = let r : x ≡ y = cc in (refl, r)
ends [] (d ∷ ds) x y s t e = absurd (lead d (encodes ds ++ 255 ∷ y) x (and_parts (scalar d) (scalars ds) t).0 (e ∙ append_assoc (encode d) (encodes ds) (255 ∷ y)))
ends (c ∷ cs) [] x y s t e = absurd (lead c (encodes cs ++ 255 ∷ x) y (and_parts (scalar c) (scalars cs) s).0 (sym e ∙ append_assoc (encode c) (encodes cs) (255 ∷ x)))
ends (c ∷ cs) (d ∷ ds) x y s t e =
    let h = encode_same c d (encodes cs ++ 255 ∷ x) (encodes ds ++ 255 ∷ y) (sym (append_assoc (encode c) (encodes cs) (255 ∷ x)) ∙ e ∙ append_assoc (encode d) (encodes ds) (255 ∷ y)) in
    let r = ends cs ds x y (and_parts (scalar c) (scalars cs) s).1 (and_parts (scalar d) (scalars ds) t).1 h.1 in
    (λ i. encode (h.0 i) ++ r.0 i, r.1)

-- a text in UTF-8
pub str_tells : TellsApart IsUtf8 fed.str
str_tells a b p q more others e =
    let cut : (bytes rest : List ℕ) → fed_bytes (fed.str bytes) ++ rest ≡ bytes ++ 255 ∷ rest = λ bytes rest. append_assoc bytes (255 ∷ []) rest in
    let r = ends p.0 q.0 more others p.1.0 q.1.0 (ap (λ l. l ++ 255 ∷ more) p.1.1 ∙ sym (cut a more) ∙ e ∙ cut b others ∙ ap (λ l. l ++ 255 ∷ others) (sym q.1.1)) in
    (sym p.1.1 ∙ r.0 ∙ q.1.1, r.1)

module _ {A : Type 0} (input : A → HashWrites) where
  without_first : (xs : List A) (y : A) (ys : List A) → AreTold input xs (y ∷ ys) → AreTold input xs ys
  without_first [] y ys told = tt
  without_first (x ∷ xs) y ys told = (told.0.1, without_first xs y ys told.1)

  -- elements one after another, as many as others
  told_each : (xs ys : List A) → length xs ≡ length ys → AreTold input xs ys → IsTold (flat_map input) xs ys
  told_each [] [] long told more others e = (refl, e)
  told_each [] (y ∷ ys) long told more others e = absurd (omega arith)
  told_each (x ∷ xs) [] long told more others e = absurd (omega arith)
  told_each (x ∷ xs) (y ∷ ys) long told more others e =
      let r = told_then input (flat_map input) x y xs ys told.0.0 (told_each xs ys (omega arith) (without_first xs y ys told.1)) more others e in
      (λ i. r.0 i ∷ r.1 i, r.2)

  -- a list: its length, and then each element
  pub slice_tells : TellsLists input (fed.slice input)
  slice_tells xs ys p q told more others e =
      let r = told_first fed.usize (length xs) (length ys) (u64_tells (length xs) (length ys) p q) (flat_map input xs) (flat_map input ys) more others e in
      told_each xs ys r.0 told more others r.1

  module _ (Fits : A → Type 0) (tells : TellsApart Fits input) where
    told_from : (x : A) → Fits x → (ys : List A) → AllByRecursion Fits ys → AllByRecursion (IsTold input x) ys
    told_from x fits [] all = tt
    told_from x fits (y ∷ ys) all = (tells x y fits all.0, told_from x fits ys all.1)

    told_all : (xs ys : List A) → AllByRecursion Fits xs → AllByRecursion Fits ys → AreTold input xs ys
    told_all [] ys p q = tt
    told_all (x ∷ xs) ys p q = (told_from x p.0 ys q, told_all xs ys p.1 q)

    -- lists of elements that fit
    pub list_tells : TellsApart (FitsList Fits) (fed.slice input)
    list_tells xs ys p q = slice_tells xs ys p.0 q.0 (told_all xs ys p.1 q.1)
