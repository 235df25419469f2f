-- Whether some row makes a condition true, found by a walk along the rows that agree.
use Rattle.std.proofs.Common.{◌≡◌, ℕ, suc, ◌-◌, ◌<◌, ◌≤◌, ◌&&◌, ◌||◌, ◌==◌, nat_eq, Bool, true, false, List, [], ◌∷◌, ◌++◌, length, get_or, refl, ap, ◌∙◌, arith}
use Rattle.std.specs.Cmp.Lexicographic.{pointwise}
use Rattle.std.specs.List.{list_any}
use Rattle.std.proofs.lemmas.Cmp.{nat_eq_equiv, nat_list_eq_equiv}
use Rattle.std.proofs.lemmas.List.Folds.{list_any_at}
use Rattle.mast_relations.specs.Lookups.{AgreesAt, IsLastOf, rows_in}
use Rattle.mast_relations.specs.Matches.{Rows}
use Rattle.mast_relations.specs.Plans.{picked}
use Rattle.mast_relations.specs.inside.Lasts.{IsLast}
use Rattle.mast_relations.proofs.LastLemmas.{IsWalked, walk_end, walk_first, walk_here, walk_next}
use Rattle.mast_relations.proofs.ListLemmas.{numbers_same}
use Rattle.mast_conditions.specs.Truth.{is_found, is_some_row_true, width_of}
use Rattle.mast_conditions.specs.declared.condition.Entry.{Entry}

-- equal lists are the same at each place
pub same_numbers : (a : List ℕ) → pointwise nat_eq a a ≡ true
same_numbers a = nat_list_eq_equiv.refl a

-- a test that no element passes
pub list_any_at_none : {X : Type 0} (p : X → Bool) (d : X) (xs : List X) → ((k : ℕ) → k < length xs → p (get_or xs k d) ≡ false) → list_any p xs ≡ false
list_any_at_none p d [] f = refl
list_any_at_none p d (x ∷ xs) f = ap (λ (b : Bool). b || list_any p xs) (f 0 (omega arith)) ∙ list_any_at_none p d xs (λ k lt. f (suc k) (omega (arith, lt)))

-- what is equal tests equal
pub equal_numbers : (a b : ℕ) → a ≡ b → (a == b) ≡ true
equal_numbers a b e = ap (λ (x : ℕ). x == b) e ∙ nat_eq_equiv.refl b

-- the sides of what is true
pub and_right : (a b : Bool) → (a && b) ≡ true → b ≡ true
and_right true b e = e
and_right false b e = absurd (cc)

-- the left one
pub and_left : (a b : Bool) → (a && b) ≡ true → a ≡ true
and_left true b e = refl
and_left false b e = absurd (cc)

-- what has two true sides
pub and_true : (a b : Bool) → a ≡ true → b ≡ true → (a && b) ≡ true
and_true a b e f = ap (λ (x : Bool). x && b) e ∙ f

pub and_false : (a b : Bool) → (a ≡ true → b ≡ false) → (a && b) ≡ false
and_false true b f = f refl
and_false false b f = refl

-- the last of some places is one, as a walk begins
pub as_last : (Here : ℕ → Type 0) (end place : ℕ) → IsLastOf Here end place → IsLast Here Here end place
as_last Here end place l = record { within = l.within; here = l.here; none = l.none }

module _ (relations : List Rows) (entry : Entry) (rest : List ℕ → Bool) (numbers : List ℕ) where
  -- the row at a place is found by the numbers
  abbrev pub Agrees : ℕ → Type 0
  Agrees place = AgreesAt (rows_in relations entry.relation) entry.columns numbers entry.places place

  -- and does not make the rest true
  abbrev pub Fails : ℕ → Type 0
  Fails place = rest (numbers ++ get_or (rows_in relations entry.relation) place []) ≡ false

  -- the walk stands at a place
  abbrev pub Walks : ℕ → Type 0
  Walks place = IsWalked Agrees Fails (length (rows_in relations entry.relation)) place

  -- it begins
  pub walks_first : (place : ℕ) → IsLastOf Agrees (length (rows_in relations entry.relation)) place → Walks place
  walks_first place l = walk_first Agrees Fails (length (rows_in relations entry.relation)) place (as_last Agrees (length (rows_in relations entry.relation)) place l)

  -- it goes on
  pub walks_next : (place next : ℕ) → Walks place → 0 < place → Fails (place - 1) → IsLastOf Agrees (place - 1) next → Walks next
  walks_next place next w some fails l =
      walk_next Agrees Fails Fails (length (rows_in relations entry.relation)) place next w some (λ p d. d) fails (as_last Agrees (place - 1) next l)

  -- at its end no row makes the rest true
  pub walks_end : (place : ℕ) → Walks place → place ≡ 0 → is_some_row_true relations entry rest numbers ≡ false
  walks_end place w e = list_any_at_none (λ row. is_found relations entry numbers row && rest (numbers ++ row)) [] (rows_in relations entry.relation) (λ k lt.
      and_false (is_found relations entry numbers (get_or (rows_in relations entry.relation) k [])) (rest (numbers ++ get_or (rows_in relations entry.relation) k []))
      (λ found. walk_end Agrees Fails (length (rows_in relations entry.relation)) place w e k lt
      (numbers_same (picked (get_or (rows_in relations entry.relation) k []) entry.columns) (picked numbers entry.places)
      (and_right (length (get_or (rows_in relations entry.relation) k []) == width_of relations entry) (pointwise nat_eq (picked (get_or (rows_in relations entry.relation) k []) entry.columns) (picked numbers entry.places)) found))))

  -- a row where it stands makes it true
  pub walks_here : (place : ℕ) → Walks place → 0 < place → length (get_or (rows_in relations entry.relation) (place - 1) []) ≡ width_of relations entry → rest (numbers ++ get_or (rows_in relations entry.relation) (place - 1) []) ≡ true → is_some_row_true relations entry rest numbers ≡ true
  walks_here place w some wide holds =
      let row = get_or (rows_in relations entry.relation) (place - 1) [] in
      let low : place - 1 < length (rows_in relations entry.relation) = below w.within in
      list_any_at (λ row. is_found relations entry numbers row && rest (numbers ++ row)) (rows_in relations entry.relation) (place - 1) [] low
      (and_true (is_found relations entry numbers row) (rest (numbers ++ row))
      (and_true (length row == width_of relations entry) (pointwise nat_eq (picked row entry.columns) (picked numbers entry.places)) (equal_numbers (length row) (width_of relations entry) wide)
      (ap (λ (a : List ℕ). pointwise nat_eq a (picked numbers entry.places)) (walk_here Agrees Fails (length (rows_in relations entry.relation)) place w some) ∙ same_numbers (picked numbers entry.places))) holds)
    where
      below : place ≤ length (rows_in relations entry.relation) → place - 1 < length (rows_in relations entry.relation)
      below le = omega (arith, le, some)
