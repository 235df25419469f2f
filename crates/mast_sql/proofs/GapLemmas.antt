-- Blanks and comments are read exactly.
use Rattle.std.proofs.Common.{◌≡◌, ◌⊎◌, inl, inr, ℕ, ◌+◌, ◌≤◌, ◌==◌, ◌&&◌, ◌||◌, Bool, true, false, List, ◌∷◌, [], ◌++◌, length, drop, get_or, drop-cons, suc, ◌<◌, refl, ap, sym, ◌∙◌, subst, arith}
use Rattle.std.specs.Prelude.{if◌then◌else◌, None}
use Rattle.std.proofs.lemmas.Bool.{and_parts, cases_Bool}
use Rattle.std.proofs.lemmas.List.{length-append}
use Rattle.std.proofs.Math.ListN.{drop_of_length-le}
use Rattle.mast_source.proofs.ByteLemmas.{is_byte}
use Rattle.mast_sql.specs.declared.scanner.Gap.{Gap}
use Rattle.mast_sql.specs.declared.scanner.Gap.TheVariants.{Plain, Dash, Comment}
use Rattle.mast_sql.specs.Tokens.{is_blank, begins_dash, are_gap, ends_gap}
use Rattle.mast_sql.specs.inside.Scanner.{gap_scan, between, in_comment, on_gap}
use Rattle.mast_sql.specs.Source.{NoGap}

-- how many bytes were read that are counted only once another dash stands behind
abbrev pub held : Gap → ℕ
held Plain = 0
held Dash = 1
held Comment = 0

-- what is left of a gap where so much of it is open
abbrev pub are_rest : Gap → List ℕ → Bool
are_rest Plain w = are_gap false w
are_rest Dash w = begins_dash w && are_gap true w
are_rest Comment w = are_gap true w

-- the same, where the last comment may go up to the end
abbrev pub ends_rest : Gap → List ℕ → Bool
ends_rest Plain w = ends_gap false w
ends_rest Dash w = begins_dash w && ends_gap true w
ends_rest Comment w = ends_gap true w

-- a dash is no blank, no `#` and no line feed

dash_no_blank : (b : ℕ) → (b == 45) ≡ true → is_blank b ≡ false
unfolding is_blank
dash_no_blank b e = subst (λ x. is_blank x ≡ false) (sym (is_byte b 45 e)) refl

dash_no_hash : (b : ℕ) → (b == 45) ≡ true → (b == 35) ≡ false
dash_no_hash b e = subst (λ x. (x == 35) ≡ false) (sym (is_byte b 45 e)) refl

dash_no_feed : (b : ℕ) → (b == 45) ≡ true → (b == 10) ≡ false
dash_no_feed b e = subst (λ x. (x == 10) ≡ false) (sym (is_byte b 45 e)) refl

-- one byte of a gap

hash_gap : (b : ℕ) (w : List ℕ) → (b == 35) ≡ true → are_gap false (b ∷ w) ≡ are_gap true w
hash_gap b w e = rw e refl

hash_ends : (b : ℕ) (w : List ℕ) → (b == 35) ≡ true → ends_gap false (b ∷ w) ≡ ends_gap true w
hash_ends b w e = rw e refl

chosen : (s t : Bool) → (if s then t else false) ≡ (s && t)
chosen true t = refl
chosen false t = refl

dash_gap : (b : ℕ) (w : List ℕ) → (b == 45) ≡ true → are_gap false (b ∷ w) ≡ are_rest Dash w
dash_gap b w d = rw (dash_no_hash b d, d, dash_no_blank b d) (chosen (begins_dash w) (are_gap true w))

dash_ends : (b : ℕ) (w : List ℕ) → (b == 45) ≡ true → ends_gap false (b ∷ w) ≡ ends_rest Dash w
dash_ends b w d = rw (dash_no_hash b d, d, dash_no_blank b d) (chosen (begins_dash w) (ends_gap true w))

second_gap : (b : ℕ) (w : List ℕ) → (b == 45) ≡ true → are_rest Dash (b ∷ w) ≡ are_gap true w
second_gap b w d = rw (d, dash_no_feed b d) refl

second_ends : (b : ℕ) (w : List ℕ) → (b == 45) ≡ true → ends_rest Dash (b ∷ w) ≡ ends_gap true w
second_ends b w d = rw (d, dash_no_feed b d) refl

other_gap : (b : ℕ) (w : List ℕ) → (b == 35) ≡ false → (b == 45) ≡ false → are_gap false (b ∷ w) ≡ (is_blank b && are_gap false w)
other_gap b w e d = rw (e, d) refl

other_ends : (b : ℕ) (w : List ℕ) → (b == 35) ≡ false → (b == 45) ≡ false → ends_gap false (b ∷ w) ≡ (is_blank b && ends_gap false w)
other_ends b w e d = rw (e, d) refl

blank_gap : (b : ℕ) (w : List ℕ) → (b == 35) ≡ false → (b == 45) ≡ false → is_blank b ≡ true → are_gap false (b ∷ w) ≡ are_gap false w
blank_gap b w e d i = rw (e, d, i) refl

blank_ends : (b : ℕ) (w : List ℕ) → (b == 35) ≡ false → (b == 45) ≡ false → is_blank b ≡ true → ends_gap false (b ∷ w) ≡ ends_gap false w
blank_ends b w e d i = rw (e, d, i) refl

comment_gap : (b : ℕ) (w : List ℕ) → are_gap true (b ∷ w) ≡ are_rest (in_comment b) w
comment_gap b w = elim (cases_Bool (b == 10)) [
  | inl e ↦ rw e refl
  | inr e ↦ rw e refl
]

comment_ends : (b : ℕ) (w : List ℕ) → ends_gap true (b ∷ w) ≡ ends_rest (in_comment b) w
comment_ends b w = elim (cases_Bool (b == 10)) [
  | inl e ↦ rw e refl
  | inr e ↦ rw e refl
]

-- all is blank, or a front of it is and something else stands behind
abbrev pub GapTells : Gap → ℕ → List ℕ → ℕ → Type 0
GapTells gap n bs r = ((ends_rest gap bs ≡ true) × (r ≡ n + held gap + length bs)) ⊎ ((w rest : List ℕ) × (bs ≡ w ++ rest) × (are_rest gap w ≡ true) × (n + held gap + length w ≡ r) × NoGap rest)

-- behind a dash another one may stand or not
abbrev pub Tells : Gap → ℕ → List ℕ → ℕ → Type 0
Tells Plain n bs r = GapTells Plain n bs r
Tells Dash n bs r = GapTells Dash n bs r ⊎ ((r ≡ n) × (begins_dash bs ≡ false))
Tells Comment n bs r = GapTells Comment n bs r

-- one byte more at the front
later : (b n m r : ℕ) (bs : List ℕ) (gap next : Gap) → m + held next ≡ n + held gap + 1 → ((w : List ℕ) → are_rest gap (b ∷ w) ≡ are_rest next w) → ends_rest gap (b ∷ bs) ≡ ends_rest next bs → GapTells next m bs r → GapTells gap n (b ∷ bs) r
later b n m r bs gap next e f g (inl h) = inl (g ∙ h.0, (let l = h.1 in omega arith))
later b n m r bs gap next e f g (inr h) = inr (b ∷ h.0, h.1, ap (λ x. b ∷ x) h.2, f h.0 ∙ h.3, (let l = h.4 in omega arith), h.5)

-- a dash alone
alone : (b n r : ℕ) (bs : List ℕ) → (b == 45) ≡ true → r ≡ n + 0 → begins_dash bs ≡ false → GapTells Plain n (b ∷ bs) r
alone b n r bs d e h = inr ([], b ∷ bs, refl, refl, omega arith, (dash_no_blank b d, rw (dash_no_hash b d, d) h))

dash_told : (b n r : ℕ) (bs : List ℕ) → (b == 45) ≡ true → Tells Dash (n + 0) bs r → GapTells Plain n (b ∷ bs) r
dash_told b n r bs d (inl t) = later b n (n + 0) r bs Plain Dash (omega arith) (λ w. dash_gap b w d) (dash_ends b bs d) t
dash_told b n r bs d (inr t) = alone b n r bs d t.0 t.1

comment_told : (b n r : ℕ) (bs : List ℕ) (next : Gap) → in_comment b ≡ next → Tells next (n + 1) bs r → GapTells Comment n (b ∷ bs) r
comment_told b n r bs Plain e t = later b n (n + 1) r bs Comment Plain (omega arith) (λ w. comment_gap b w ∙ ap (λ x. are_rest x w) e) (comment_ends b bs ∙ ap (λ x. ends_rest x bs) e) t
comment_told b n r bs Dash e t = absurd (never (b == 10) e)
  where
    never : (s : Bool) → (if s then Plain else Comment) ≡ Dash → ⊥
    never true h = cc
    never false h = cc
comment_told b n r bs Comment e t = later b n (n + 1) r bs Comment Comment (omega arith) (λ w. comment_gap b w ∙ ap (λ x. are_rest x w) e) (comment_ends b bs ∙ ap (λ x. ends_rest x bs) e) t

told : (bs : List ℕ) (gap : Gap) (n : ℕ) → Tells gap n bs (gap_scan n gap bs)
told [] Plain n = inl (refl, omega arith)
told [] Dash n = inr (refl, refl)
told [] Comment n = inl (refl, omega arith)
told (b ∷ bs) Comment n = comment_told b n (gap_scan (n + 1) (in_comment b) bs) bs (in_comment b) refl (told bs (in_comment b) (n + 1))
told (b ∷ bs) Dash n = elim (cases_Bool (b == 45)) [
  | inl d ↦
      let r : gap_scan n Dash (b ∷ bs) ≡ gap_scan (n + 2) Comment bs = rw d refl in
      inl (subst (λ r. GapTells Dash n (b ∷ bs) r) (sym r) (later b n (n + 2) (gap_scan (n + 2) Comment bs) bs Dash Comment (omega arith) (λ w. second_gap b w d) (second_ends b bs d) (told bs Comment (n + 2))))
  | inr d ↦ inr (rw d refl, d)
]
told (b ∷ bs) Plain n = elim (cases_Bool (b == 35)) [
  | inl e ↦
      let r : gap_scan n Plain (b ∷ bs) ≡ gap_scan (n + 1) Comment bs = rw e refl in
      subst (λ r. GapTells Plain n (b ∷ bs) r) (sym r) (later b n (n + 1) (gap_scan (n + 1) Comment bs) bs Plain Comment (omega arith) (λ w. hash_gap b w e) (hash_ends b bs e) (told bs Comment (n + 1)))
  | inr e ↦ elim (cases_Bool (b == 45)) [
    | inl d ↦
        let r : gap_scan n Plain (b ∷ bs) ≡ gap_scan (n + 0) Dash bs = rw (e, d) refl in
        subst (λ r. GapTells Plain n (b ∷ bs) r) (sym r) (dash_told b n (gap_scan (n + 0) Dash bs) bs d (told bs Dash (n + 0)))
    | inr d ↦ elim (cases_Bool (is_blank b)) [
      | inl i ↦
          let r : gap_scan n Plain (b ∷ bs) ≡ gap_scan (n + 1) Plain bs = rw (e, d, i) refl in
          subst (λ r. GapTells Plain n (b ∷ bs) r) (sym r) (later b n (n + 1) (gap_scan (n + 1) Plain bs) bs Plain Plain (omega arith) (λ w. blank_gap b w e d i) (blank_ends b bs e d i) (told bs Plain (n + 1)))
      | inr i ↦
          let r : gap_scan n Plain (b ∷ bs) ≡ n = rw (e, d, i) refl in
          subst (λ r. GapTells Plain n (b ∷ bs) r) (sym r) (inr ([], b ∷ bs, refl, refl, omega arith, (i, rw (e, d) refl)))
    ]
  ]
]

-- what the scan finds from the front on
pub gap_told : (bs : List ℕ) → ((ends_gap false bs ≡ true) × (gap_scan 0 Plain bs ≡ length bs)) ⊎ ((w rest : List ℕ) × (bs ≡ w ++ rest) × (are_gap false w ≡ true) × (length w ≡ gap_scan 0 Plain bs) × NoGap rest)
gap_told bs = elim (told bs Plain 0) [
  | inl h ↦ inl (h.0, (let l = h.1 in omega arith))
  | inr h ↦ inr (h.0, h.1, h.2, h.3, (let l = h.4 in omega arith), h.5)
]

-- what is found is within the bytes
pub gap_within : (bs : List ℕ) → gap_scan 0 Plain bs ≤ length bs
gap_within bs = elim (gap_told bs) [
  | inl h ↦ (let l = h.1 in omega arith)
  | inr h ↦ (let l = h.4 in let m = ap length h.2 ∙ length-append h.0 h.1 in omega arith)
]

-- where the scan stops, what was read for certain is within the bytes
pub stopped_within : (bs : List ℕ) (i : ℕ) (gap : Gap) (n : ℕ) → gap_scan n gap (drop i bs) ≡ gap_scan 0 Plain bs → i < length bs → between gap (get_or bs i 0) ≡ None → n ≤ length bs
stopped_within bs i gap n e h none =
    let stop : gap_scan n gap (get_or bs i 0 ∷ drop (suc i) bs) ≡ n = ap (λ o. on_gap o n (λ next more. gap_scan (n + more) next (drop (suc i) bs))) none in
    let same : n ≡ gap_scan 0 Plain bs = sym stop ∙ ap (λ x. gap_scan n gap x) (sym (drop-cons bs i 0 h)) ∙ e in
    let all = gap_within bs in
    omega arith

-- and so it is at the end of the bytes
pub ended_within : (bs : List ℕ) (i : ℕ) (gap : Gap) (n : ℕ) → gap_scan n gap (drop i bs) ≡ gap_scan 0 Plain bs → length bs ≤ i → n ≤ length bs
ended_within bs i gap n e h =
    let same : n ≡ gap_scan 0 Plain bs = ap (λ x. gap_scan n gap x) (sym (drop_of_length-le bs h)) ∙ e in
    let all = gap_within bs in
    omega arith

-- blanks and comments are read whole

in_comment_held : (b : ℕ) → held (in_comment b) ≡ 0
in_comment_held b = elim (cases_Bool (b == 10)) [
  | inl e ↦ rw e refl
  | inr e ↦ rw e refl
]

neither : (s t : Bool) → (s || t) ≡ false → (s ≡ false) × (t ≡ false)
neither true t h = absurd (cc)
neither false t h = (refl, h)

stays : (b n : ℕ) (bs : List ℕ) → NoGap (b ∷ bs) → gap_scan n Plain (b ∷ bs) ≡ n + 0 + 0
stays b n bs h =
    let o = neither (b == 35) (b == 45 && begins_dash bs) h.1 in
    elim (cases_Bool (b == 45)) [
      | inl d ↦ rw (o.0, d) (behind bs (rw d at o.1))
      | inr d ↦ rw (o.0, d, h.0) (omega arith)
    ]
  where
    behind : (bs : List ℕ) → begins_dash bs ≡ false → gap_scan (n + 0) Dash bs ≡ n + 0 + 0
    behind [] e = omega arith
    behind (c ∷ bs) e = rw e (omega arith)

whole : (w rest : List ℕ) (n : ℕ) (gap : Gap) → are_rest gap w ≡ true → NoGap rest → gap_scan n gap (w ++ rest) ≡ n + held gap + length w
whole [] rest n Dash h no_gap = absurd (cc)
whole [] rest n Comment h no_gap = absurd (cc)
whole [] [] n Plain h no_gap = absurd no_gap
whole [] (b ∷ bs) n Plain h no_gap = stays b n bs no_gap
whole (b ∷ w) rest n Comment h no_gap = let none = in_comment_held b in let g = whole w rest (n + 1) (in_comment b) (sym (comment_gap b w) ∙ h) no_gap in omega arith
whole (b ∷ w) rest n Dash h no_gap =
    let p = and_parts (b == 45) (are_gap true (b ∷ w)) h in
    rw p.0 (whole w rest (n + 2) Comment (sym (second_gap b w p.0) ∙ h) no_gap ∙ omega arith)
whole (b ∷ w) rest n Plain h no_gap = elim (cases_Bool (b == 35)) [
  | inl e ↦ rw e (whole w rest (n + 1) Comment (sym (hash_gap b w e) ∙ h) no_gap ∙ omega arith)
  | inr e ↦ elim (cases_Bool (b == 45)) [
    | inl d ↦ rw (e, d) (whole w rest (n + 0) Dash (sym (dash_gap b w d) ∙ h) no_gap ∙ omega arith)
    | inr d ↦
        let p = and_parts (is_blank b) (are_gap false w) (sym (other_gap b w e d) ∙ h) in
        rw (e, d, p.0) (whole w rest (n + 1) Plain p.1 no_gap ∙ omega arith)
  ]
]

ends : (bs : List ℕ) (n : ℕ) (gap : Gap) → ends_rest gap bs ≡ true → gap_scan n gap bs ≡ n + held gap + length bs
ends [] n Plain h = omega arith
ends [] n Dash h = absurd (cc)
ends [] n Comment h = omega arith
ends (b ∷ bs) n Comment h = let none = in_comment_held b in let g = ends bs (n + 1) (in_comment b) (sym (comment_ends b bs) ∙ h) in omega arith
ends (b ∷ bs) n Dash h =
    let p = and_parts (b == 45) (ends_gap true (b ∷ bs)) h in
    rw p.0 (ends bs (n + 2) Comment (sym (second_ends b bs p.0) ∙ h) ∙ omega arith)
ends (b ∷ bs) n Plain h = elim (cases_Bool (b == 35)) [
  | inl e ↦ rw e (ends bs (n + 1) Comment (sym (hash_ends b bs e) ∙ h) ∙ omega arith)
  | inr e ↦ elim (cases_Bool (b == 45)) [
    | inl d ↦ rw (e, d) (ends bs (n + 0) Dash (sym (dash_ends b bs d) ∙ h) ∙ omega arith)
    | inr d ↦
        let p = and_parts (is_blank b) (ends_gap false bs) (sym (other_ends b bs e d) ∙ h) in
        rw (e, d, p.0) (ends bs (n + 1) Plain p.1 ∙ omega arith)
  ]
]

-- a gap before something that is none is read whole
pub gap_whole : (w rest : List ℕ) → are_gap false w ≡ true → NoGap rest → gap_scan 0 Plain (w ++ rest) ≡ length w
gap_whole w rest h no_gap = whole w rest 0 Plain h no_gap ∙ omega arith

-- a gap up to the end is read whole
pub gap_ends : (bs : List ℕ) → ends_gap false bs ≡ true → gap_scan 0 Plain bs ≡ length bs
gap_ends bs h = ends bs 0 Plain h ∙ omega arith
