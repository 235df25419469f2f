-- Different rows of one width, kept one after another.
use Rattle.std.proofs.Common.{◌≡◌, ℕ, zero, suc, ◌+◌, ◌-◌, ◌*◌, ◌<◌, ◌≤◌, List, [], ◌∷◌, ◌++◌, length, get_or, take, drop, map, refl, sym, ap, subst, ◌∙◌, add-one, arith}
use Rattle.std.proofs.lemmas.List.{drop-append-le, drop-drop, get_or-map, length-drop, length_push, map-append, nil_from_length, take-append-le, take_all}
use Rattle.std.proofs.Math.Nat.{mul-le-mul_right, suc-mul, zero-mul}
use Rattle.mast_relations.specs.Matches.{In, Rows}
use Rattle.mast_relations.specs.Plans.{Once}
use Rattle.mast_relations.specs.Stores.{with_row}
use Rattle.mast_relations.specs.inside.Hashing.{hash_of}
use Rattle.mast_relations.specs.inside.Lasts.{HasHash, IsLast, IsRow}
use Rattle.mast_relations.specs.inside.RowSets.{IsRowSet, parts, rows_of}
use Rattle.mast_relations.proofs.LastLemmas.{IsWalked}
use Rattle.mast_relations.proofs.ListLemmas.{in_get, once_push, stands_at}

-- there are as many as were said
pub length-parts : (w n : ℕ) (xs : List ℕ) → length (parts w n xs) ≡ n
length-parts w zero xs = refl
length-parts w (suc n) xs = let rest : length (parts w n (drop w xs)) ≡ n = length-parts w n (drop w xs) in omega arith

-- each is a slice of the elements
pub part_at : (w n : ℕ) (xs : List ℕ) (i : ℕ) → i < n → get_or (parts w n xs) i [] ≡ take w (drop (i * w) xs)
part_at w zero xs i lt = absurd (omega arith)
part_at w (suc n) xs zero lt = ap (λ (k : ℕ). take w (drop k xs)) (sym (zero-mul w))
part_at w (suc n) xs (suc i) lt =
    part_at w n (drop w xs) i (omega arith) ∙ ap (take w) (drop-drop (i * w) w xs) ∙ ap (λ (k : ℕ). take w (drop k xs)) (omega (arith, suc-mul i w))

-- each is whole
pub part_within : (w n i size : ℕ) → size ≡ n * w → i < n → i * w + w ≤ size
part_within w n i size e lt = let le : i + 1 ≤ n = omega arith in omega (arith, e, mul-le-mul_right w le, suc-mul i w, add-one i)

-- one more
pub parts_push : (w n : ℕ) (xs ys : List ℕ) → length xs ≡ n * w → length ys ≡ w → parts w (n + 1) (xs ++ ys) ≡ parts w n xs ++ ys ∷ []
parts_push w n xs ys size long = ap (λ (k : ℕ). parts w k (xs ++ ys)) (add-one n) ∙ by n xs size
  where
    last : (xs : List ℕ) → xs ≡ [] → parts w (suc zero) (xs ++ ys) ≡ ys ∷ []
    last xs e = rw (e, take_all w ys (omega (arith, long))) refl

    by : (n : ℕ) (xs : List ℕ) → length xs ≡ n * w → parts w (suc n) (xs ++ ys) ≡ parts w n xs ++ ys ∷ []
    by zero xs h = let none : xs ≡ [] = nil_from_length xs (h ∙ zero-mul w) in last xs none
    by (suc n) xs h =
        let le : w ≤ length xs = omega (arith, h, suc-mul n w) in
        let size : length (drop w xs) ≡ n * w = omega (arith, length-drop w xs, h, suc-mul n w) in
        let head : take w (xs ++ ys) ≡ take w xs = take-append-le w xs ys le in
        let tail : drop w (xs ++ ys) ≡ drop w xs ++ ys = drop-append-le w xs ys le in
        let rest : parts w (suc n) (drop w xs ++ ys) ≡ parts w n (drop w xs) ++ ys ∷ [] = by n (drop w xs) size in
        ap (λ (k : List ℕ). k ∷ parts w (suc n) (drop w (xs ++ ys))) head ∙ ap (λ (k : List ℕ). take w xs ∷ parts w (suc n) k) tail ∙ ap (λ (k : List (List ℕ)). take w xs ∷ k) rest

abbrev listed : ℕ → List (List ℕ) → Rows
listed width list = record { width = width; list = list }

-- The rows of a set, by what is seen of it.
module _ (w : ℕ) (hashes numbers : List ℕ) (now : Rows) (is : IsRowSet w hashes numbers) (view : rows_of w hashes numbers ≡ now) where
  pub view_count : length hashes ≡ length now.list
  view_count = sym (length-parts w (length hashes) numbers) ∙ ap (λ (x : Rows). length x.list) view

  pub view_width : w ≡ now.width
  view_width = ap (λ (x : Rows). x.width) view

  pub view_within : (i : ℕ) → i < length now.list → i * w + w ≤ length numbers
  view_within i lt = part_within w (length hashes) i (length numbers) is.long (omega (arith, lt, view_count))

  pub view_part : (i : ℕ) → i < length now.list → take w (drop (i * w) numbers) ≡ get_or now.list i []
  view_part i lt = sym (part_at w (length hashes) numbers i (omega (arith, lt, view_count))) ∙ ap (λ (x : Rows). get_or x.list i []) view

  pub view_once : Once now.list
  view_once = subst (λ (x : Rows). Once x.list) view is.once

  pub view_hashed : hashes ≡ map hash_of now.list
  view_hashed = is.hashed ∙ ap (λ (x : Rows). map hash_of x.list) view

  -- the hash at the place of a row is its own
  pub row_hash : (row : List ℕ) (place : ℕ) → place < length now.list → IsRow now row place → HasHash hashes (hash_of row) place
  row_hash row place lt e =
      ap (λ (k : List ℕ). get_or k place 0) view_hashed ∙ get_or-map hash_of now.list place [] 0 lt ∙ ap hash_of e

  -- a walk along the places of a hash ends at the row
  pub find_found : (row : List ℕ) (hash place : ℕ) → hash ≡ hash_of row → IsWalked (HasHash hashes hash) (λ q. IsRow now row q → ⊥) (length hashes) place → 0 < place → IsRow now row (place - 1)
      → IsLast (IsRow now row) (IsRow now row) (length now.list) place
  find_found row hash place h k some e =
      let low : place ≤ length hashes = k.within in
      record {
        within = omega (arith, low, view_count);
        here = λ last q. subst (IsRow now row) (omega (arith, q, some)) e;
        none = λ later from below r. k.done later from (omega (arith, below, view_count)) (row_hash row later below r ∙ sym h) r;
      }

  -- or the row is not there
  pub find_none : (row : List ℕ) (hash place : ℕ) → hash ≡ hash_of row → IsWalked (HasHash hashes hash) (λ q. IsRow now row q → ⊥) (length hashes) place → place ≡ 0
      → IsLast (IsRow now row) (IsRow now row) (length now.list) place
  find_none row hash place h k z =
      record {
        within = omega (arith, z);
        here = λ last q. absurd (omega (arith, q, z));
        none = λ later from below r. k.done later from (omega (arith, below, view_count)) (row_hash row later below r ∙ sym h) r;
      }

  -- a set with one more row
  pub put_is : (row more morehashes : List ℕ) (hash : ℕ) → length row ≡ now.width → IsLast (IsRow now row) (IsRow now row) (length now.list) 0 → hash ≡ hash_of row → more ≡ numbers ++ row → morehashes ≡ hashes ++ hash ∷ []
      → IsRowSet w morehashes more
  put_is row more morehashes hash wide new h e f =
      let count : length morehashes ≡ length hashes + 1 = ap length f ∙ length_push hashes hash in
      let all : parts w (length morehashes) more ≡ parts w (length hashes) numbers ++ row ∷ [] =
      ap (λ (k : ℕ). parts w k more) count ∙ ap (parts w (length hashes + 1)) e ∙ parts_push w (length hashes) numbers row is.long (wide ∙ sym view_width) in
      let rows : parts w (length hashes) numbers ≡ now.list = ap (λ (x : Rows). x.list) view in
      record {
        long = long_is count;
        hashed = f ∙ ap (λ (k : List ℕ). k ++ hash ∷ []) is.hashed ∙ ap (λ (k : ℕ). map hash_of (parts w (length hashes) numbers) ++ k ∷ []) h
            ∙ sym (map-append hash_of (parts w (length hashes) numbers) (row ∷ [])) ∙ ap (map hash_of) (sym all);
        once = subst Once (sym all) (once_push (parts w (length hashes) numbers) row is.once (λ i. absent (subst (λ (k : List (List ℕ)). In row k) rows i)));
      }
    where
      absent : In row now.list → ⊥
      absent i = let at = stands_at row now.list i in new.none at.place (omega arith) at.within (at.is [])

      long_is : length morehashes ≡ length hashes + 1 → length more ≡ length morehashes * w
      long_is count =
          let size : length more ≡ length numbers + length row = ap length e ∙ length-both numbers row in
          size ∙ ap (λ (k : ℕ). k + length row) is.long ∙ ap (λ (k : ℕ). length hashes * w + k) (wide ∙ sym view_width) ∙ sym (suc-mul (length hashes) w) ∙ ap (λ (k : ℕ). k * w) (sym (add-one (length hashes)) ∙ sym count)
        where
          length-both : (xs ys : List ℕ) → length (xs ++ ys) ≡ length xs + length ys
          length-both [] ys = omega arith
          length-both (x ∷ xs) ys = let r : length (xs ++ ys) ≡ length xs + length ys = length-both xs ys in omega arith

  -- its rows
  pub put_rows : (row more morehashes : List ℕ) (hash : ℕ) → length row ≡ now.width → more ≡ numbers ++ row → morehashes ≡ hashes ++ hash ∷ [] → rows_of w morehashes more ≡ with_row now row
  put_rows row more morehashes hash wide e f =
      ap (λ (k : List ℕ). rows_of w k more) f ∙ ap (λ (k : List ℕ). rows_of w (hashes ++ hash ∷ []) k) e
      ∙ ap (λ (k : ℕ). listed w (parts w k (numbers ++ row))) (length_push hashes hash)
      ∙ ap (listed w) (parts_push w (length hashes) numbers row is.long (wide ∙ sym view_width))
      ∙ ap (λ (x : Rows). with_row x row) view

-- a row that is found is there
pub found_there : (rows : Rows) (row : List ℕ) (place : ℕ) → IsLast (IsRow rows row) (IsRow rows row) (length rows.list) place → 0 < place → In row rows.list
found_there rows row place a some =
    let low : place ≤ length rows.list = a.within in
    let is : get_or rows.list (place - 1) [] ≡ row = a.here (place - 1) (omega arith) in
    subst (λ (k : List ℕ). In k rows.list) is (in_get rows.list (place - 1) [] (omega (arith, low, some)))

-- one that is not found is not
pub not_there : (rows : Rows) (row : List ℕ) (place : ℕ) → IsLast (IsRow rows row) (IsRow rows row) (length rows.list) place → place ≡ 0 → In row rows.list → ⊥
not_there rows row place a z i =
    let at = stands_at row rows.list i in
    a.none at.place (omega (arith, z)) at.within (at.is [])
