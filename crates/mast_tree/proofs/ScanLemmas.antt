-- The scans find exactly the forms.
use Rattle.std.proofs.Common.{◌≡◌, ◌⊎◌, inl, inr, ℕ, ◌+◌, ◌≤◌, ◌==◌, ◌&&◌, ◌||◌, Bool, true, false, List, ◌∷◌, [], ◌++◌, length, refl, ap, sym, ◌∙◌, subst, arith}
use Rattle.std.specs.Prelude.{not}
use Rattle.std.proofs.lemmas.Bool.{and_parts, cases_Bool}
use Rattle.mast_source.proofs.ByteLemmas.{is_byte}
use Rattle.mast_tree.specs.declared.scanner.Enclosed.{Enclosed}
use Rattle.mast_tree.specs.declared.scanner.Enclosed.TheVariants.{Whole, Endless, Bad}
use Rattle.mast_tree.specs.Empty.{is_empty}
use Rattle.mast_tree.specs.Tokens.{is_name, is_lang, is_iri, are_name, are_lang, iri_rest, str_rest, are_chars, is_blank, are_blank, ends_blank}
use Rattle.mast_tree.specs.inside.Scanner.{name_scan, lang_scan, iri_scan, str_scan, blank_scan}
use Rattle.mast_tree.specs.Source.{NoBlank, NoEscape}

-- names

name_from : (at : ℕ) (bs : List ℕ) → at ≤ name_scan at bs
name_from at [] = omega arith
name_from at (b ∷ bs) = elim (cases_Bool (is_name b)) [
  | inl h ↦ rw h (let r = name_from (at + 1) bs in omega arith)
  | inr h ↦ rw h (omega arith)
]

-- a scan goes at least as far as a name
pub name_at_least : (w rest : List ℕ) (at : ℕ) → are_name w ≡ true → at + length w ≤ name_scan at (w ++ rest)
name_at_least [] rest at h = let f = name_from at rest in omega arith
name_at_least (b ∷ w) rest at h =
    let p = and_parts (is_name b) (are_name w) h in
    let r = name_at_least w rest (at + 1) p.1 in
    rw p.0 (omega arith)

name_more : (b : ℕ) (w : List ℕ) → is_name b ≡ true → are_name w ≡ true → are_name (b ∷ w) ≡ true
name_more b w e h = rw e h

-- a scan ends behind the bytes of a name
pub name_split : (at : ℕ) (bs : List ℕ) → (w rest : List ℕ) × (bs ≡ w ++ rest) × (are_name w ≡ true) × (at + length w ≡ name_scan at bs)
name_split at [] = ([], [], refl, refl, omega arith)
name_split at (b ∷ bs) = elim (cases_Bool (is_name b)) [
  | inl e ↦ let r = name_split (at + 1) bs in (b ∷ r.0, r.1, ap (λ x. b ∷ x) r.2, name_more b r.0 e r.3, rw e (let l = r.4 in omega arith))
  | inr e ↦ ([], b ∷ bs, refl, refl, rw e (omega arith))
]

-- languages

lang_from : (at : ℕ) (bs : List ℕ) → at ≤ lang_scan at bs
lang_from at [] = omega arith
lang_from at (b ∷ bs) = elim (cases_Bool (is_lang b)) [
  | inl h ↦ rw h (let r = lang_from (at + 1) bs in omega arith)
  | inr h ↦ rw h (omega arith)
]

-- a scan goes at least as far as a language
pub lang_at_least : (w rest : List ℕ) (at : ℕ) → are_lang w ≡ true → at + length w ≤ lang_scan at (w ++ rest)
lang_at_least [] rest at h = let f = lang_from at rest in omega arith
lang_at_least (b ∷ w) rest at h =
    let p = and_parts (is_lang b) (are_lang w) h in
    let r = lang_at_least w rest (at + 1) p.1 in
    rw p.0 (omega arith)

lang_more : (b : ℕ) (w : List ℕ) → is_lang b ≡ true → are_lang w ≡ true → are_lang (b ∷ w) ≡ true
lang_more b w e h = rw e h

-- a scan ends behind the bytes of a language
pub lang_split : (at : ℕ) (bs : List ℕ) → (w rest : List ℕ) × (bs ≡ w ++ rest) × (are_lang w ≡ true) × (at + length w ≡ lang_scan at bs)
lang_split at [] = ([], [], refl, refl, omega arith)
lang_split at (b ∷ bs) = elim (cases_Bool (is_lang b)) [
  | inl e ↦ let r = lang_split (at + 1) bs in (b ∷ r.0, r.1, ap (λ x. b ∷ x) r.2, lang_more b r.0 e r.3, rw e (let l = r.4 in omega arith))
  | inr e ↦ ([], b ∷ bs, refl, refl, rw e (omega arith))
]

-- IRIs

-- the whole of an IRI is found
pub iri_whole : (w rest : List ℕ) (at : ℕ) → iri_rest w ≡ true → iri_scan at (w ++ rest) ≡ Whole (at + length w)
iri_whole [] rest at h = absurd (cc)
iri_whole (b ∷ bs) rest at h = elim (cases_Bool (b == 62)) [
  | inl e ↦ rw e (last bs (rw e at h))
  | inr e ↦
      let g : (is_iri b && iri_rest bs) ≡ true = rw e at h in
      let p = and_parts (is_iri b) (iri_rest bs) g in
      rw (e, p.0) (iri_whole bs rest (at + 1) p.1 ∙ ap Whole (omega arith))
]
  where
    last : (bs : List ℕ) → is_empty bs ≡ true → ◌≡◌ {A = Enclosed} (Whole (at + 1)) (Whole (at + length (b ∷ bs)))
    last [] h = ap Whole (omega arith)
    last (c ∷ cs) h = absurd (cc)

iri_more : (b : ℕ) (w : List ℕ) → (b == 62) ≡ false → is_iri b ≡ true → iri_rest w ≡ true → iri_rest (b ∷ w) ≡ true
iri_more b w e i h = rw (e, i) h

-- what is found is the whole of an IRI
pub iri_found : (bs : List ℕ) (at n : ℕ) → iri_scan at bs ≡ Whole n → (w rest : List ℕ) × (bs ≡ w ++ rest) × (iri_rest w ≡ true) × (at + length w ≡ n)
iri_found [] at n h = absurd (cc)
iri_found (b ∷ bs) at n h = elim (cases_Bool (b == 62)) [
  | inl e ↦ let g : ◌≡◌ {A = Enclosed} (Whole (at + 1)) (Whole n) = rw e at h in let s : at + 1 ≡ n = cc in (b ∷ [], bs, refl, rw e refl, omega arith)
  | inr e ↦ elim (cases_Bool (is_iri b)) [
    | inl i ↦
        let g : iri_scan (at + 1) bs ≡ Whole n = rw (e, i) at h in
        let r = iri_found bs (at + 1) n g in
        let len = r.4 in
        (b ∷ r.0, r.1, ap (λ x. b ∷ x) r.2, iri_more b r.0 e i r.3, omega arith)
    | inr i ↦ let g : ◌≡◌ {A = Enclosed} (Bad at) (Whole n) = rw (e, i) at h in absurd (cc)
  ]
]

-- strings

-- the whole of a string is found
pub str_whole : (w rest : List ℕ) (at : ℕ) (esc : Bool) → str_rest esc w ≡ true → str_scan at esc (w ++ rest) ≡ Whole (at + length w)
str_whole [] rest at true h = absurd (cc)
str_whole [] rest at false h = absurd (cc)
str_whole (b ∷ bs) rest at true h =
    let p = and_parts (b == 34 || b == 92) (str_rest false bs) h in
    rw p.0 (str_whole bs rest (at + 1) false p.1 ∙ ap Whole (omega arith))
str_whole (b ∷ bs) rest at false h = elim (cases_Bool (b == 34)) [
  | inl e ↦ rw e (last bs (rw e at h))
  | inr e ↦ rw e (str_whole bs rest (at + 1) (b == 92) (rw e at h) ∙ ap Whole (omega arith))
]
  where
    last : (bs : List ℕ) → is_empty bs ≡ true → ◌≡◌ {A = Enclosed} (Whole (at + 1)) (Whole (at + length (b ∷ bs)))
    last [] h = ap Whole (omega arith)
    last (c ∷ cs) h = absurd (cc)

-- what is found is the whole of a string
pub str_found : (bs : List ℕ) (at n : ℕ) (esc : Bool) → str_scan at esc bs ≡ Whole n → (w rest : List ℕ) × (bs ≡ w ++ rest) × (str_rest esc w ≡ true) × (at + length w ≡ n)
str_found [] at n true h = absurd (cc)
str_found [] at n false h = absurd (cc)
str_found (b ∷ bs) at n true h = elim (cases_Bool (b == 34 || b == 92)) [
  | inl e ↦
      let r = str_found bs (at + 1) n false (rw e at h) in
      let len = r.4 in
      (b ∷ r.0, r.1, ap (λ x. b ∷ x) r.2, rw e r.3, omega arith)
  | inr e ↦ let g : ◌≡◌ {A = Enclosed} (Bad at) (Whole n) = rw e at h in absurd (cc)
]
str_found (b ∷ bs) at n false h = elim (cases_Bool (b == 34)) [
  | inl e ↦ let g : ◌≡◌ {A = Enclosed} (Whole (at + 1)) (Whole n) = rw e at h in let s : at + 1 ≡ n = cc in (b ∷ [], bs, refl, rw e refl, omega arith)
  | inr e ↦
      let r = str_found bs (at + 1) n (b == 92) (rw e at h) in
      let len = r.4 in
      (b ∷ r.0, r.1, ap (λ x. b ∷ x) r.2, rw e r.3, omega arith)
]

-- a string that is not closed

-- characters without an end are found so
pub chars_endless : (bs : List ℕ) (at : ℕ) (esc : Bool) → are_chars esc bs ≡ true → str_scan at esc bs ≡ Endless
chars_endless [] at true h = absurd (cc)
chars_endless [] at false h = refl
chars_endless (b ∷ bs) at true h =
    let p = and_parts (b == 34 || b == 92) (are_chars false bs) h in
    rw p.0 (chars_endless bs (at + 1) false p.1)
chars_endless (b ∷ bs) at false h = elim (cases_Bool (b == 34)) [
  | inl e ↦ absurd (let g : false ≡ true = rw e at h in cc)
  | inr e ↦ rw e (chars_endless bs (at + 1) (b == 92) (rw e at h))
]

-- where no end is found, there are characters
pub endless_chars : (bs : List ℕ) (at : ℕ) (esc : Bool) → str_scan at esc bs ≡ Endless → are_chars esc bs ≡ true
endless_chars [] at true h = absurd (cc)
endless_chars [] at false h = refl
endless_chars (b ∷ bs) at true h = elim (cases_Bool (b == 34 || b == 92)) [
  | inl e ↦ rw e (endless_chars bs (at + 1) false (rw e at h))
  | inr e ↦ let g : ◌≡◌ {A = Enclosed} (Bad at) Endless = rw e at h in absurd (cc)
]
endless_chars (b ∷ bs) at false h = elim (cases_Bool (b == 34)) [
  | inl e ↦ let g : ◌≡◌ {A = Enclosed} (Whole (at + 1)) Endless = rw e at h in absurd (cc)
  | inr e ↦ rw e (endless_chars bs (at + 1) (b == 92) (rw e at h))
]

-- a backslash before something else than a quote or a backslash

no_escape_scan : (more : List ℕ) (at : ℕ) → NoEscape more → str_scan at true more ≡ Bad at
no_escape_scan [] at h = refl
no_escape_scan (b ∷ bs) at h = rw h refl

-- a bad escape behind characters is found
pub chars_bad : (w more : List ℕ) (at : ℕ) (esc : Bool) → are_chars esc w ≡ true → NoEscape more → str_scan at esc (w ++ (92 ∷ more)) ≡ Bad (at + length w + 1)
chars_bad [] more at true h no_escape = absurd (cc)
chars_bad [] more at false h no_escape = no_escape_scan more (at + 1) no_escape ∙ ap Bad (omega arith)
chars_bad (b ∷ bs) more at true h no_escape =
    let p = and_parts (b == 34 || b == 92) (are_chars false bs) h in
    rw p.0 (chars_bad bs more (at + 1) false p.1 no_escape ∙ ap Bad (omega arith))
chars_bad (b ∷ bs) more at false h no_escape = elim (cases_Bool (b == 34)) [
  | inl e ↦ absurd (let g : false ≡ true = rw e at h in cc)
  | inr e ↦ rw e (chars_bad bs more (at + 1) (b == 92) (rw e at h) no_escape ∙ ap Bad (omega arith))
]

abbrev pub BadLater : Bool → List ℕ → ℕ → ℕ → Type 0
BadLater esc bs at n = (w more : List ℕ) × (bs ≡ w ++ (92 ∷ more)) × (are_chars esc w ≡ true) × NoEscape more × (n ≡ at + length w + 1)

abbrev pub BadFrom : Bool → List ℕ → ℕ → ℕ → Type 0
BadFrom true bs at n = (NoEscape bs × (n ≡ at)) ⊎ BadLater true bs at n
BadFrom false bs at n = BadLater false bs at n

chars_more : (b : ℕ) (w : List ℕ) → (b == 34) ≡ false → are_chars (b == 92) w ≡ true → are_chars false (b ∷ w) ≡ true
chars_more b w e h = rw e h

-- what is found bad is a bad escape behind characters
pub bad_found : (bs : List ℕ) (at n : ℕ) (esc : Bool) → str_scan at esc bs ≡ Bad n → BadFrom esc bs at n
bad_found [] at n true h = inl (tt, cc)
bad_found [] at n false h = absurd (cc)
bad_found (b ∷ bs) at n true h = elim (cases_Bool (b == 34 || b == 92)) [
  | inl e ↦
      let r = bad_found bs (at + 1) n false (rw e at h) in
      let len = r.5 in
      inr (b ∷ r.0, r.1, ap (λ x. b ∷ x) r.2, rw e r.3, r.4, omega arith)
  | inr e ↦ let g : ◌≡◌ {A = Enclosed} (Bad at) (Bad n) = rw e at h in inl (e, cc)
]
bad_found (b ∷ bs) at n false h = elim (cases_Bool (b == 34)) [
  | inl e ↦ let g : ◌≡◌ {A = Enclosed} (Whole (at + 1)) (Bad n) = rw e at h in absurd (cc)
  | inr e ↦ go (b == 92) refl (bad_found bs (at + 1) n (b == 92) (rw e at h)) e
]
  where
    go : (esc : Bool) → (b == 92) ≡ esc → BadFrom esc bs (at + 1) n → (b == 34) ≡ false → BadLater false (b ∷ bs) at n
    go true s (inl r) e = let m = r.1 in ([], bs, ap (λ x. x ∷ bs) (is_byte b 92 s), refl, r.0, omega arith)
    go true s (inr r) e = let len = r.5 in (b ∷ r.0, r.1, ap (λ x. b ∷ x) r.2, chars_more b r.0 e (subst (λ x. are_chars x r.0 ≡ true) (sym s) r.3), r.4, omega arith)
    go false s r e = let len = r.5 in (b ∷ r.0, r.1, ap (λ x. b ∷ x) r.2, chars_more b r.0 e (subst (λ x. are_chars x r.0 ≡ true) (sym s) r.3), r.4, omega arith)

-- blanks

-- a scan of blanks ends at the end, or where no blank begins
pub blank_told : (bs : List ℕ) (at : ℕ) (comment : Bool) → ((ends_blank comment bs ≡ true) × (blank_scan at comment bs ≡ at + length bs)) ⊎ ((w rest : List ℕ) × (bs ≡ w ++ rest) × (are_blank comment w ≡ true) × (at + length w ≡ blank_scan at comment bs) × NoBlank rest)
blank_told [] at comment = inl (refl, omega arith)
blank_told (b ∷ bs) at true = elim (blank_told bs (at + 1) (not (b == 10))) [
  | inl h ↦ inl (h.0, (let e = h.1 in omega arith))
  | inr h ↦ inr (b ∷ h.0, h.1, ap (λ x. b ∷ x) h.2, h.3, (let e = h.4 in omega arith), h.5)
]
blank_told (b ∷ bs) at false = elim (cases_Bool (b == 35)) [
  | inl e ↦ rw e (elim (blank_told bs (at + 1) true) [
    | inl h ↦ inl (h.0, (let l = h.1 in omega arith))
    | inr h ↦ inr (b ∷ h.0, h.1, ap (λ x. b ∷ x) h.2, rw e h.3, (let l = h.4 in omega arith), h.5)
  ])
  | inr e ↦ elim (cases_Bool (is_blank b)) [
    | inl i ↦ rw (e, i) (elim (blank_told bs (at + 1) false) [
      | inl h ↦ inl (h.0, (let l = h.1 in omega arith))
      | inr h ↦ inr (b ∷ h.0, h.1, ap (λ x. b ∷ x) h.2, rw (e, i) h.3, (let l = h.4 in omega arith), h.5)
    ])
    | inr i ↦ rw (e, i) (inr ([], b ∷ bs, refl, refl, omega arith, (i, e)))
  ]
]

-- the whole of a gap is found
pub blank_whole : (w rest : List ℕ) (at : ℕ) (comment : Bool) → are_blank comment w ≡ true → NoBlank rest → blank_scan at comment (w ++ rest) ≡ at + length w
blank_whole [] rest at true h no_blank = absurd (cc)
blank_whole [] [] at false h no_blank = absurd no_blank
blank_whole [] (b ∷ bs) at false h no_blank = rw (no_blank.1, no_blank.0) (omega arith)
blank_whole (b ∷ w) rest at true h no_blank = blank_whole w rest (at + 1) (not (b == 10)) h no_blank ∙ omega arith
blank_whole (b ∷ w) rest at false h no_blank = elim (cases_Bool (b == 35)) [
  | inl e ↦ rw e (blank_whole w rest (at + 1) true (rw e at h) no_blank ∙ omega arith)
  | inr e ↦
      let g : (is_blank b && are_blank false w) ≡ true = rw e at h in
      let p = and_parts (is_blank b) (are_blank false w) g in
      rw (e, p.0) (blank_whole w rest (at + 1) false p.1 no_blank ∙ omega arith)
]

-- a gap up to the end is found
pub ends_scan : (bs : List ℕ) (at : ℕ) (comment : Bool) → ends_blank comment bs ≡ true → blank_scan at comment bs ≡ at + length bs
ends_scan [] at comment h = omega arith
ends_scan (b ∷ bs) at true h = ends_scan bs (at + 1) (not (b == 10)) h ∙ omega arith
ends_scan (b ∷ bs) at false h = elim (cases_Bool (b == 35)) [
  | inl e ↦ rw e (ends_scan bs (at + 1) true (rw e at h) ∙ omega arith)
  | inr e ↦
      let g : (is_blank b && ends_blank false bs) ≡ true = rw e at h in
      let p = and_parts (is_blank b) (ends_blank false bs) g in
      rw (e, p.0) (ends_scan bs (at + 1) false p.1 ∙ omega arith)
]
