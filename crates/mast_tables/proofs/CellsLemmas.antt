-- The cells of codes, and the numbers of their values.
use Rattle.std.proofs.Common.{◌≡◌, ◌⊎◌, inl, inr, ℕ, zero, suc, ◌+◌, ◌-◌, ◌*◌, ◌<◌, ◌≤◌, add-one, Bool, true, false, not, cond, List, [], ◌∷◌, ◌++◌, map, length, get_or, refl, sym, ap, subst, ◌∙◌, true≢false, arith, if◌then◌else◌}
use Rattle.std.specs.Prelude.{Option, Some, None, slice_get, option_and_then}
use Rattle.std.specs.List.{fold, position, position_or_len, list_any, IsDistinct, AllByRecursion}
use Rattle.std.proofs.Math.Nat.{suc-mul}
use Rattle.std.proofs.lemmas.List.{map-append, get_or-map, length-map, length_push}
use Rattle.std.proofs.lemmas.List.Sums.{fold-append}
use Rattle.std.proofs.lemmas.List.Folds.{list_any_at}
use Rattle.std.proofs.lemmas.List.Quantifiers.{position-Some}
use Rattle.std.proofs.lemmas.Option.{slice_get_within, slice_get-get_or}
use Rattle.std.proofs.lemmas.Map.Keys.{IsDistinct-head, IsDistinct-tail}
use Rattle.std.proofs.lemmas.Bool.Decides.{nat_tests}
use Rattle.indexmap.specs.IndexSet.{insert_key}
use Rattle.mast_terms.specs.declared.value.Value.{Value}
use Rattle.mast_terms.specs.contracts.value.ValueEq.TheImpl.Laws as laws
use Rattle.mast_terms.proofs.SameLemmas.{value_same}
use Rattle.mast_tables.specs.Limits.{most_cells}
use Rattle.mast_tables.specs.Values.{same, present, different, number_among}
use Rattle.mast_tables.specs.inside.Cells.{decoded, CodesWithin, AreCodes, HaveRoom, IsCoded}

same_refl : (v : Value) → same v v ≡ true
same_refl v = laws.laws-law.refl v

-- one more cell
present_some : (cells : List (Option Value)) (v : Value) → present (cells ++ Some v ∷ []) ≡ present cells ++ v ∷ []
present_some [] v = refl
present_some (None ∷ cells) v = present_some cells v
present_some (Some u ∷ cells) v = ap (λ (k : List Value). u ∷ k) (present_some cells v)

present_none : (cells : List (Option Value)) → present (cells ++ None ∷ []) ≡ present cells
present_none [] = refl
present_none (None ∷ cells) = present_none cells
present_none (Some u ∷ cells) = ap (λ (k : List Value). u ∷ k) (present_none cells)

pub different_some : (cells : List (Option Value)) (v : Value) → different (cells ++ Some v ∷ []) ≡ insert_key same (different cells) v
different_some cells v = ap (fold (insert_key same) []) (present_some cells v) ∙ fold-append (insert_key same) [] (present cells) (v ∷ [])

pub different_none : (cells : List (Option Value)) → different (cells ++ None ∷ []) ≡ different cells
different_none cells = ap (fold (insert_key same) []) (present_none cells)

-- codes keep their values as more values come
decoded_more : (vs ws : List Value) (m : ℕ) → m ≤ length vs → decoded (vs ++ ws) m ≡ decoded vs m
decoded_more vs ws zero h = refl
decoded_more [] ws (suc k) h = absurd (omega arith)
decoded_more (v ∷ vs) ws (suc zero) h = refl
decoded_more (v ∷ vs) ws (suc (suc k)) h = decoded_more vs ws (suc k) (omega arith)

cells_more : (vs ws : List Value) (ms : List ℕ) → CodesWithin (length vs) ms → map (decoded (vs ++ ws)) ms ≡ map (decoded vs) ms
cells_more vs ws [] h = refl
cells_more vs ws (m ∷ ms) h =
    let first : decoded (vs ++ ws) m ≡ decoded vs m = decoded_more vs ws m h.0 in
    let rest : map (decoded (vs ++ ws)) ms ≡ map (decoded vs) ms = cells_more vs ws ms h.1 in cc

within_more : (n k : ℕ) (ms : List ℕ) → n ≤ k → CodesWithin n ms → CodesWithin k ms
within_more n k [] le h = tt
within_more n k (m ∷ ms) le h = (omega (arith, h.0), within_more n k ms le h.1)

within_push : (n : ℕ) (ms : List ℕ) (m : ℕ) → CodesWithin n ms → m ≤ n → CodesWithin n (ms ++ m ∷ [])
within_push n [] m h le = (le, tt)
within_push n (k ∷ ms) m h le = (h.0, within_push n ms m h.1 le)

within_at : (n : ℕ) (ms : List ℕ) (p : ℕ) → CodesWithin n ms → p < length ms → get_or ms p 0 ≤ n
within_at n [] p h lt = absurd (omega arith)
within_at n (m ∷ ms) zero h lt = h.0
within_at n (m ∷ ms) (suc p) h lt = within_at n ms p h.1 (omega arith)

code_within : (vs : List Value) (m : ℕ) (v : Value) → decoded vs m ≡ Some v → m ≤ length vs
code_within vs zero v e = omega arith
code_within vs (suc n) v e = omega (arith, slice_get_within vs n v e)

-- a key that is inserted leaves the keys, or goes last
insert_cases : (vs : List Value) (v : Value) → (insert_key same vs v ≡ vs) ⊎ (insert_key same vs v ≡ vs ++ v ∷ [])
insert_cases vs v = by (list_any (same v) vs)
  where
    by : (b : Bool) → ((if b then vs else vs ++ v ∷ []) ≡ vs) ⊎ ((if b then vs else vs ++ v ∷ []) ≡ vs ++ v ∷ [])
    by true = inl refl
    by false = inr refl

kept_cells : (vs vs2 : List Value) (v : Value) (ms : List ℕ) → CodesWithin (length vs) ms → (vs2 ≡ vs) ⊎ (vs2 ≡ vs ++ v ∷ []) → map (decoded vs2) ms ≡ map (decoded vs) ms
kept_cells vs vs2 v ms h (inl e) = rw e refl
kept_cells vs vs2 v ms h (inr e) = rw e (cells_more vs (v ∷ []) ms h)

kept_within : (vs vs2 : List Value) (v : Value) (ms : List ℕ) → CodesWithin (length vs) ms → (vs2 ≡ vs) ⊎ (vs2 ≡ vs ++ v ∷ []) → CodesWithin (length vs2) ms
kept_within vs vs2 v ms h (inl e) = rw e h
kept_within vs vs2 v ms h (inr e) = within_more (length vs) (length vs2) ms (omega (arith, ap length e, length_push vs v)) h

-- a missing cell behind the others
none_added : (vs : List Value) (ms : List ℕ) → AreCodes vs ms → length ms < most_cells → AreCodes vs (ms ++ 0 ∷ [])
none_added vs ms h lt =
    let e : map (decoded vs) (ms ++ 0 ∷ []) ≡ map (decoded vs) ms ++ None ∷ [] = map-append (decoded vs) ms (0 ∷ []) in
    record {
      within = within_push (length vs) ms 0 h.within (omega arith);
      values_are = h.values_are ∙ sym (different_none (map (decoded vs) ms)) ∙ ap different (sym e);
      apart = h.apart;
      few = omega (arith, lt, length_push ms 0);
    }

-- a value behind the others: the cells
some_cells : (vs vs2 : List Value) (ms : List ℕ) (v : Value) (m : ℕ) → CodesWithin (length vs) ms → vs2 ≡ insert_key same vs v → decoded vs2 m ≡ Some v → map (decoded vs2) (ms ++ m ∷ []) ≡ map (decoded vs) ms ++ Some v ∷ []
some_cells vs vs2 ms v m h e last =
    let way : (vs2 ≡ vs) ⊎ (vs2 ≡ vs ++ v ∷ []) = rw e (insert_cases vs v) in
    let old : map (decoded vs2) ms ≡ map (decoded vs) ms = kept_cells vs vs2 v ms h way in
    let both : map (decoded vs2) (ms ++ m ∷ []) ≡ map (decoded vs2) ms ++ decoded vs2 m ∷ [] = map-append (decoded vs2) ms (m ∷ []) in cc

some_added : (vs vs2 : List Value) (ms : List ℕ) (v : Value) (m : ℕ) → AreCodes vs ms → vs2 ≡ insert_key same vs v → decoded vs2 m ≡ Some v → IsDistinct same vs2 → length ms < most_cells → AreCodes vs2 (ms ++ m ∷ [])
some_added vs vs2 ms v m h e last apart lt =
    let way : (vs2 ≡ vs) ⊎ (vs2 ≡ vs ++ v ∷ []) = rw e (insert_cases vs v) in
    record {
      within = within_push (length vs2) ms m (kept_within vs vs2 v ms h.within way) (code_within vs2 m v last);
      values_are = e ∙ ap (λ (l : List Value). insert_key same l v) h.values_are ∙ sym (different_some (map (decoded vs) ms) v) ∙ ap different (sym (some_cells vs vs2 ms v m h.within e last));
      apart = apart;
      few = omega (arith, lt, length_push ms m);
    }

-- a cell with its code behind the others
pub coded_cells : (vs vs2 : List Value) (ms : List ℕ) (cell : Option Value) (m : ℕ) → AreCodes vs ms → IsCoded vs cell vs2 m → map (decoded vs2) (ms ++ m ∷ []) ≡ map (decoded vs) ms ++ cell ∷ []
coded_cells vs vs2 ms None m h is = rw is.0 (rw is.1 (map-append (decoded vs) ms (0 ∷ [])))
coded_cells vs vs2 ms (Some v) m h is = some_cells vs vs2 ms v m h.within is.0 is.1

-- and such codes are those of the cells
pub coded_added : (vs vs2 : List Value) (ms : List ℕ) (cell : Option Value) (m : ℕ) → AreCodes vs ms → IsCoded vs cell vs2 m → IsDistinct same vs2 → length ms < most_cells → AreCodes vs2 (ms ++ m ∷ [])
coded_added vs vs2 ms None m h is apart lt = rw is.0 (rw is.1 (none_added vs ms h lt))
coded_added vs vs2 ms (Some v) m h is apart lt = some_added vs vs2 ms v m h is.0 is.1 apart lt

-- there are no more different values than cells
inserted_short : (ks : List Value) (v : Value) → length (insert_key same ks v) ≤ length ks + 1
inserted_short ks v = by (list_any (same v) ks)
  where
    by : (b : Bool) → length (if b then ks else ks ++ v ∷ []) ≤ length ks + 1
    by true = omega arith
    by false = omega (arith, length_push ks v)

all_short : (xs ks : List Value) → length (fold (insert_key same) ks xs) ≤ length ks + length xs
all_short [] ks = omega arith
all_short (x ∷ xs) ks = omega (arith, all_short xs (insert_key same ks x), inserted_short ks x)

present_short : (cells : List (Option Value)) → length (present cells) ≤ length cells
present_short [] = omega arith
present_short (None ∷ cells) = omega (arith, present_short cells)
present_short (Some v ∷ cells) = omega (arith, present_short cells)

-- there are no more values than codes
pub values_short : (vs : List Value) (ms : List ℕ) → AreCodes vs ms → length vs ≤ length ms
values_short vs ms h =
    omega (arith, ap length h.values_are, all_short (present (map (decoded vs) ms)) [], present_short (map (decoded vs) ms), length-map ms (decoded vs))

-- so one more value has a code where one more cell has
pub have_room : (vs : List Value) (ms : List ℕ) → AreCodes vs ms → length (map (decoded vs) ms) < most_cells → HaveRoom vs
have_room vs ms h lt = record {
  apart = h.apart;
  few = omega (arith, values_short vs ms h, length-map ms (decoded vs), lt);
}

-- the code of a value that stands at a place
pub stored_code : (vs : List Value) (i : ℕ) (v k : Value) → slice_get vs i ≡ Some k → same v k ≡ true → decoded vs (i + 1) ≡ Some v
stored_code vs i v k at is =
    let one : v ≡ k = value_same v k is in
    let up : i + 1 ≡ suc i = omega arith in
    ap (decoded vs) up ∙ at ∙ ap (λ (u : Value). Some u) (sym one)

-- a value that is found is no new one
pub found_code : (vs : List Value) (i : ℕ) (v : Value) → position (same v) vs ≡ Some i → IsCoded vs (Some v) vs (i + 1)
found_code vs i v e =
    let at = position-Some (same v) vs i v e in
    let there : list_any (same v) vs ≡ true = list_any_at (same v) vs i v at.0 at.1 in
    (sym (kept vs v there), stored_code vs i v (get_or vs i v) (slice_get-get_or vs i v at.0) at.1)
  where
    kept : (ks : List Value) (k : Value) → list_any (same k) ks ≡ true → insert_key same ks k ≡ ks
    kept ks k h = rw h refl

-- the place of a cell of a whole row
pub place_inside : (row column width size : ℕ) → (row + 1) * width ≤ size → column < width → row * width + column < size
place_inside row column width size le lt =
    let up : (row + 1) * width ≡ suc row * width = ap (λ (k : ℕ). k * width) (add-one row) in
    omega (arith, le, lt, up, suc-mul row width)

-- the cell at a place
pub cell_none : (vs : List Value) (ms : List ℕ) (p : ℕ) → p < length ms → get_or ms p 0 ≡ 0 → get_or (map (decoded vs) ms) p None ≡ None
cell_none vs ms p lt e = get_or-map (decoded vs) ms p 0 None lt ∙ ap (decoded vs) e

pub cell_some : (vs : List Value) (ms : List ℕ) (p m : ℕ) → p < length ms → get_or ms p 0 ≡ m → 0 < m → get_or (map (decoded vs) ms) p None ≡ slice_get vs (m - 1)
cell_some vs ms p zero lt e pos = absurd (omega arith)
cell_some vs ms p (suc n) lt e pos = get_or-map (decoded vs) ms p 0 None lt ∙ ap (decoded vs) e ∙ ap (slice_get vs) (omega arith)

-- the place of a value among values that differ
at : (p : Value → Bool) (b : Bool) (x : Value) (xs : List Value) → p x ≡ b → position_or_len p (x ∷ xs) ≡ cond (not b) (1 + position_or_len p xs) 0
at p b x xs e = ap (λ t. cond (not t) (1 + position_or_len p xs) 0) e

far : (x : Value) (xs : List Value) (j : ℕ) (v : Value) → AllByRecursion (λ (y : Value). same x y ≡ false) xs → slice_get xs j ≡ Some v → same x v ≡ false
far x [] j v h e = absurd (cc)
far x (y ∷ ys) zero v h e = let is : y ≡ v = cc in subst (λ (k : Value). same x k ≡ false) is h.0
far x (y ∷ ys) (suc j) v h e = far x ys j v h.1 e

turned : (x v : Value) → same x v ≡ false → same v x ≡ false
turned x v h = by (same v x) refl
  where
    by : (b : Bool) → same v x ≡ b → b ≡ false
    by false e = refl
    by true e = let is : v ≡ x = value_same v x e in absurd (true≢false (sym (same_refl x) ∙ subst (λ (k : Value). same x k ≡ false) is h))

place_is : (ks : List Value) (i : ℕ) (v : Value) → IsDistinct same ks → slice_get ks i ≡ Some v → position_or_len (same v) ks ≡ i
place_is [] i v d e = absurd (cc)
place_is (x ∷ xs) zero v d e =
    let is : x ≡ v = cc in
    at (same v) true x xs (subst (λ (k : Value). same v k ≡ true) (sym is) (same_refl v))
place_is (x ∷ xs) (suc j) v d e =
    let rest : position_or_len (same v) xs ≡ j = place_is xs j v (IsDistinct-tail same x xs d) e in
    at (same v) false x xs (turned x v (far x xs j v (IsDistinct-head same x xs d) e)) ∙ omega arith

-- the number of a value is its place
pub position_is : (ks : List Value) (i : ℕ) (v : Value) → IsDistinct same ks → slice_get ks i ≡ Some v → position (same v) ks ≡ Some i
position_is ks i v d e =
    let lt : i < length ks = slice_get_within ks i v e in
    rw (place_is ks i v d e) (grind (arith, nat_tests))

-- the number of a cell that is not missing
number_by : (vs : List Value) (cells : List (Option Value)) (i : ℕ) (o : Option Value) → vs ≡ different cells → IsDistinct same vs → i < length vs → o ≡ slice_get vs i → Some i ≡ option_and_then (number_among cells) o
number_by vs cells i None e d lt is = absurd (slice_none vs i lt (sym is))
  where
    slice_none : (xs : List Value) (j : ℕ) → j < length xs → slice_get xs j ≡ None → ⊥
    slice_none [] j l n = absurd (omega arith)
    slice_none (x ∷ xs) zero l n = cc
    slice_none (x ∷ xs) (suc j) l n = slice_none xs j (omega arith) n
number_by vs cells i (Some v) e d lt is = sym (rw (← e) (position_is vs i v d (sym is)))

-- the number of a cell that is not missing is its code less one
pub number_some : (vs : List Value) (ms : List ℕ) (p m : ℕ) → AreCodes vs ms → p < length ms → get_or ms p 0 ≡ m → 0 < m → Some (m - 1) ≡ option_and_then (number_among (map (decoded vs) ms)) (get_or (map (decoded vs) ms) p None)
number_some vs ms p m h lt e pos =
    number_by vs (map (decoded vs) ms) (m - 1) (get_or (map (decoded vs) ms) p None) h.values_are h.apart (omega (arith, within_at (length vs) ms p h.within lt, e)) (cell_some vs ms p m lt e pos)
