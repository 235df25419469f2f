-- Assignments that give variables values.
use Rattle.std.proofs.Common.{◌≡◌, ℕ, suc, ◌<◌, if◌then◌else◌, List, [], ◌∷◌, ◌++◌, length, get_or, map, ◌⊎◌, inl, inr, refl, sym, ap, subst, ◌∙◌, arith}
use Rattle.std.specs.Prelude.{nat_eq}
use Rattle.std.proofs.lemmas.Bool.{cond-false, cond-true, eq-eqb, ne_eqb}
use Rattle.std.proofs.lemmas.List.{length-map, map-append}
use Rattle.mast_relations.specs.Matches.{In}
use Rattle.mast_relations.specs.Plans.{AreBelow, Once, picked}
use Rattle.mast_relations.proofs.ListLemmas.{append_split, map_same, picked_at, picked_map}

-- the assignment that gives each of the variables its value
abbrev pub assigned : List ℕ → List ℕ → ℕ → ℕ
assigned [] values variable = 0
assigned (x ∷ variables) [] variable = 0
assigned (x ∷ variables) (value ∷ values) variable = if nat_eq variable x then value else assigned variables values variable

-- it does
pub assigned_gives : (variables values : List ℕ) → Once variables → length values ≡ length variables → map (assigned variables values) variables ≡ values
assigned_gives [] [] o l = refl
assigned_gives [] (v ∷ values) o l = absurd (omega (arith, l))
assigned_gives (x ∷ variables) [] o l = absurd (omega (arith, l))
assigned_gives (x ∷ variables) (v ∷ values) o l =
    let head : assigned (x ∷ variables) (v ∷ values) x ≡ v = cond-true (nat_eq x x) v (assigned variables values x) (eq-eqb x x refl) in
    let others : map (assigned (x ∷ variables) (v ∷ values)) variables ≡ map (assigned variables values) variables =
    map_same (assigned (x ∷ variables) (v ∷ values)) (assigned variables values) variables
    (λ y i. cond-false (nat_eq y x) v (assigned variables values y) (ne_eqb y x (λ e. o.0 (subst (λ (k : ℕ). In k variables) e i)))) in
    ap (λ (k : ℕ). k ∷ map (assigned (x ∷ variables) (v ∷ values)) variables) head
    ∙ ap (λ (k : List ℕ). v ∷ k) (others ∙ assigned_gives variables values o.1 (same (length values) (length variables) l))
  where
    same : (i j : ℕ) → length (v ∷ values) ≡ length (x ∷ variables) → length values ≡ length variables
    same i j e = omega (arith, e)

-- A pattern's variables, its columns whose variables are bound, and those that are fresh.
module _ (variables bound columns places fresh : List ℕ) (below : AreBelow (length variables) columns) (within : AreBelow (length bound) places)
    (keys : picked variables columns ≡ picked bound places) (new : AreBelow (length variables) fresh)
    (all : (column : ℕ) → column < length variables → In column columns ⊎ In column fresh) where
  keys_give : (s : ℕ → ℕ) (values : List ℕ) → map s bound ≡ values → picked (map s variables) columns ≡ picked values places
  keys_give s values a =
      picked_map s variables columns below ∙ ap (map s) keys ∙ sym (picked_map s bound places within) ∙ ap (λ (k : List ℕ). picked k places) a

  -- a row that the variables become agrees with what is bound
  pub row_agrees : (s : ℕ → ℕ) (values row : List ℕ) → map s bound ≡ values → map s variables ≡ row → picked row columns ≡ picked values places
  row_agrees s values row a b = ap (λ (k : List ℕ). picked k columns) (sym b) ∙ keys_give s values a

  -- and then more is bound
  pub row_binds : (s : ℕ → ℕ) (values row : List ℕ) → map s bound ≡ values → map s variables ≡ row → map s (bound ++ picked variables fresh) ≡ values ++ picked row fresh
  row_binds s values row a b =
      map-append s bound (picked variables fresh)
      ∙ ap (λ (k : List ℕ). k ++ map s (picked variables fresh)) a
      ∙ ap (λ (k : List ℕ). values ++ k) (sym (picked_map s variables fresh new) ∙ ap (λ (k : List ℕ). picked k fresh) b)

  -- what more is bound is bound
  pub bound_was : (s : ℕ → ℕ) (values row : List ℕ) → length values ≡ length bound → map s (bound ++ picked variables fresh) ≡ values ++ picked row fresh
      → (map s bound ≡ values) × (map s (picked variables fresh) ≡ picked row fresh)
  bound_was s values row l e =
      append_split (map s bound) (map s (picked variables fresh)) values (picked row fresh) (length-map bound s ∙ sym l) (sym (map-append s bound (picked variables fresh)) ∙ e)

  -- and makes the variables the row, where it agrees
  pub row_is : (s : ℕ → ℕ) (values row : List ℕ) → length values ≡ length bound → length row ≡ length variables → picked row columns ≡ picked values places
      → map s (bound ++ picked variables fresh) ≡ values ++ picked row fresh → map s variables ≡ row
  row_is s values row l w agrees e =
      let was = bound_was s values row l e in
      let by_columns : picked (map s variables) columns ≡ picked row columns = keys_give s values was.0 ∙ sym agrees in
      let by_fresh : picked (map s variables) fresh ≡ picked row fresh = picked_map s variables fresh new ∙ was.1 in
      let long : length (map s variables) ≡ length row = length-map variables s ∙ sym w in
      same_numbers (map s variables) row long (λ column lt. elim (all column (omega (arith, lt, length-map variables s))) [
        | inl i ↦ picked_at (map s variables) row columns column by_columns i
        | inr i ↦ picked_at (map s variables) row fresh column by_fresh i
      ])
    where
      same_numbers : (xs ys : List ℕ) → length xs ≡ length ys → ((k : ℕ) → k < length xs → get_or xs k 0 ≡ get_or ys k 0) → xs ≡ ys
      same_numbers [] [] l f = refl
      same_numbers [] (y ∷ ys) l f = absurd (omega (arith, l))
      same_numbers (x ∷ xs) [] l f = absurd (omega (arith, l))
      same_numbers (x ∷ xs) (y ∷ ys) l f =
          ap (λ (k : ℕ). k ∷ xs) (f 0 (omega arith)) ∙ ap (λ (k : List ℕ). y ∷ k) (same_numbers xs ys (shorter l) (λ k lt. f (suc k) (omega (arith, lt))))
        where
          shorter : length (x ∷ xs) ≡ length (y ∷ ys) → length xs ≡ length ys
          shorter e = omega (arith, e)
