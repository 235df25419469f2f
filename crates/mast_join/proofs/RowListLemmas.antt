-- Lists of rows of an entry.
use Rattle.std.proofs.Common.{◌≡◌, ◌↔◌, ℕ, zero, suc, ◌+◌, ◌<◌, ◌≤◌, Bool, true, false, eqb, if◌then◌else◌, List, [], ◌∷◌, ◌++◌, length, get_or, drop, append_assoc, ◌⊎◌, inl, inr, refl, sym, ap, subst, ◌∙◌, arith}
use Rattle.std.specs.Prelude.{Option, Some, None, ◌&&◌, nat_eq, nat_le}
use Rattle.std.specs.List.{All, AllPairs, Contains, filter, dedup}
use Rattle.std.specs.List.Retain.{IsFiltered, DiffersFromLast}
use Rattle.std.specs.List.Sorted.{IsPermutation, IsSorted}
use Rattle.std.specs.Ordering.{nat_cmp}
use Rattle.std.proofs.lemmas.Bool.{cases_eq, and_parts, and_from, eqb-true, eq-eqb, leb-true, le-leb, false≢true, cond-true, cond-false}
use Rattle.std.proofs.lemmas.List.{drop_more}
use Rattle.std.proofs.lemmas.List.Elements.{All-from_recursion}
use Rattle.std.proofs.lemmas.List.Filters.{dedup_is}
use Rattle.std.proofs.lemmas.List.Kept.{AllPairs-from_increasing, Contains-dedup_nat, Contains-from_dedup}
use Rattle.std.proofs.lemmas.List.Sorted.{Contains-permutation, IsPermutation-sym}
use Rattle.std.proofs.lemmas.Map.Keys.{IsStrictlyIncreasing-dedup}
use Rattle.mast_cq.specs.Queries.{In}
use Rattle.mast_cq.proofs.ListLemmas.{in_append, append_left, append_right, in_each}
use Rattle.mast_tables.specs.Rows.{Row}
use Rattle.mast_canon.specs.declared.rows.RowId.{RowId}
use Rattle.mast_join.specs.inside.Partial.{Once}
use Rattle.mast_join.specs.inside.RowLists.{numbers_to, is_given, given, AreAllowed}
use Rattle.mast_join.proofs.OnceLemmas.{once_append, stands_at, in_get}

-- one of the numbers to n is from 1 to n
pub numbers_in : (n r : ℕ) → In r (numbers_to n) → (1 ≤ r) × (r ≤ n)
numbers_in zero r i = absurd i
numbers_in (suc n) r i = elim (in_append r (numbers_to n) (suc n ∷ []) i) [
  | inl a ↦ let h = numbers_in n r a in let p : 1 ≤ r = h.0 in let q : r ≤ n = h.1 in (p, omega arith)
  | inr b ↦ elim b [ inl e ↦ (omega (arith, e), omega (arith, e)) | inr z ↦ absurd z ]
]

-- a number from 1 to n is one of the numbers to n
pub in_numbers : (n r : ℕ) → 1 ≤ r → r ≤ n → In r (numbers_to n)
in_numbers zero r a b = absurd (omega arith)
in_numbers (suc n) r a b = elim (cases_eq r (suc n)) [
  | inl q ↦ append_right r (numbers_to n) (suc n ∷ []) (inl q)
  | inr ne ↦ append_left r (numbers_to n) (suc n ∷ []) (in_numbers n r a (omega (arith, ne)))
]

pub numbers_once : (n : ℕ) → Once (numbers_to n)
numbers_once zero = tt
numbers_once (suc n) = once_append (numbers_to n) (suc n ∷ []) (numbers_once n) (λ i. absurd i, tt) (λ x i j. elim j [
  | inl q ↦ let h : x ≤ n = (numbers_in n x i).1 in absurd (omega (arith, q))
  | inr z ↦ absurd z
])

-- the rows of a table, where all may be chosen
pub all_allowed : (sources : List (List Row)) (places : List ℕ) (entry count : ℕ) → count ≡ length (get_or sources entry []) → AreAllowed sources places None entry (numbers_to count)
all_allowed sources places entry count e = record {
  once = numbers_once count;
  exact = λ row. (
    λ i. let h = numbers_in count row i in let a : 1 ≤ row = h.0 in let b : row ≤ count = h.1 in record { is_row = (a, omega (arith, e)); among = tt },
    λ m. let a : 1 ≤ row = m.is_row.0 in let b : row ≤ length (get_or sources entry []) = m.is_row.1 in in_numbers count row a (omega (arith, e)),
  );
}

abbrev row_id : ℕ → ℕ → RowId
row_id place number = record { table = place; number = number }

given_case : (b : Bool) (place count : ℕ) (row : RowId) (ks : List ℕ) (n : ℕ) → is_given place count row ≡ b → In n (if b then row.number ∷ ks else ks) → ((n ≡ row.number) × (is_given place count row ≡ true)) ⊎ In n ks
given_case true place count row ks n e (inl q) = inl (q, e)
given_case true place count row ks n e (inr i) = inr i
given_case false place count row ks n e i = inr i

same_row : (place count n : ℕ) (row : RowId) → n ≡ row.number → is_given place count row ≡ true → (row_id place n ≡ row) × (1 ≤ n) × (n ≤ count)
same_row place count n row q e =
    let p = and_parts (nat_eq row.table place) (nat_le 1 row.number && nat_le row.number count) e in
    let r = and_parts (nat_le 1 row.number) (nat_le row.number count) p.1 in
    let t : row.table ≡ place = eqb-true row.table place p.0 in
    let a : 1 ≤ row.number = leb-true 1 row.number r.0 in
    let b : row.number ≤ count = leb-true row.number count r.1 in
    (ap (λ (k : ℕ). row_id k n) (sym t) ∙ ap (λ (k : ℕ). row_id row.table k) q, omega (arith, q), omega (arith, q))

-- a given number is that of a given row
given_in : (place count : ℕ) (rows : List RowId) (n : ℕ) → In n (given place count rows) → In (row_id place n) rows × (1 ≤ n) × (n ≤ count)
given_in place count [] n i = absurd i
given_in place count (row ∷ rows) n i = elim (given_case (is_given place count row) place count row (given place count rows) n refl i) [
  | inl h ↦ let s = same_row place count n row h.0 h.1 in (inl s.0, s.1, s.2)
  | inr j ↦ let r = given_in place count rows n j in (inr r.0, r.1, r.2)
]

put_given : (b : Bool) (n m : ℕ) (ks : List ℕ) → b ≡ true → n ≡ m → In n (if b then m ∷ ks else ks)
put_given true n m ks e q = inl q
put_given false n m ks e q = absurd (false≢true e)

keep_given : (b : Bool) (n m : ℕ) (ks : List ℕ) → In n ks → In n (if b then m ∷ ks else ks)
keep_given true n m ks i = inr i
keep_given false n m ks i = i

is_its : (place count n : ℕ) → 1 ≤ n → n ≤ count → is_given place count (row_id place n) ≡ true
is_its place count n a b = and_from (nat_eq place place) (nat_le 1 n && nat_le n count) (eq-eqb place place refl) (and_from (nat_le 1 n) (nat_le n count) (le-leb 1 n a) (le-leb n count b))

-- and the number of a given row is given
in_given : (place count : ℕ) (rows : List RowId) (n : ℕ) → In (row_id place n) rows → 1 ≤ n → n ≤ count → In n (given place count rows)
in_given place count [] n i a b = absurd i
in_given place count (row ∷ rows) n (inl e) a b =
    put_given (is_given place count row) n row.number (given place count rows) (subst (λ (k : RowId). is_given place count k ≡ true) e (is_its place count n a b)) (ap (λ (k : RowId). k.number) e)
in_given place count (row ∷ rows) n (inr i) a b = keep_given (is_given place count row) n row.number (given place count rows) (in_given place count rows n i a b)

-- the rows of a table that are given, each once
pub given_allowed : (sources : List (List Row)) (places : List ℕ) (rows : List RowId) (entry count : ℕ) (numbers : List ℕ) → count ≡ length (get_or sources entry []) → Once numbers → ((n : ℕ) → In n numbers ↔ In n (given (get_or places entry 0) count rows)) → AreAllowed sources places (Some rows) entry numbers
given_allowed sources places rows entry count numbers e once same = record {
  once = once;
  exact = λ row. (
    λ i. let h = given_in (get_or places entry 0) count rows row ((same row).0 i) in let a : 1 ≤ row = h.1 in let b : row ≤ count = h.2 in record { is_row = (a, omega (arith, e)); among = h.0 },
    λ m. let a : 1 ≤ row = m.is_row.0 in let b : row ≤ length (get_or sources entry []) = m.is_row.1 in (same row).1 (in_given (get_or places entry 0) count rows row m.among a (omega (arith, e))),
  );
}

contains_of : {X : Type 0} (x : X) (xs : List X) → In x xs → Contains xs x
contains_of x xs i = let h = stands_at x xs i in (h.place, h.within, h.is x)

of_contains : {X : Type 0} (x : X) (xs : List X) → Contains xs x → In x xs
of_contains {X} x xs c = subst (λ (y : X). In y xs) c.2 (in_get xs c.0 x c.1)

once_rising : (xs : List ℕ) → AllPairs (λ x y. x < y) xs → Once xs
once_rising [] h = tt
once_rising (x ∷ xs) h = (
  λ i. let s = stands_at x xs i in
      let lt : s.place < length xs = s.within in
      let less : x < get_or xs s.place 0 = h 0 (suc s.place) 0 (omega arith) (omega arith) in
      let same : get_or xs s.place 0 ≡ x = s.is 0 in absurd (omega arith),
  once_rising xs (λ i j d lt within. h (suc i) (suc j) d (omega arith) (omega arith)),
)

-- sorted numbers without those that repeat
pub distinct : (old sorted new : List ℕ) → IsPermutation old sorted → IsSorted nat_cmp sorted → IsFiltered (DiffersFromLast eqb) [] sorted new → Once new × ((n : ℕ) → In n new ↔ In n old)
distinct old sorted new p s f =
    let is : new ≡ dedup eqb sorted = dedup_is eqb sorted new f in (
      subst (λ (k : List ℕ). Once k) (sym is) (once_rising (dedup eqb sorted) (AllPairs-from_increasing (dedup eqb sorted) (IsStrictlyIncreasing-dedup sorted s))),
      λ n. (
        λ i. of_contains n old (Contains-permutation sorted old n (IsPermutation-sym old sorted p) (Contains-from_dedup eqb sorted n (contains_of n (dedup eqb sorted) (subst (λ (k : List ℕ). In n k) is i)))),
        λ i. subst (λ (k : List ℕ). In n k) (sym is) (of_contains n (dedup eqb sorted) (Contains-dedup_nat sorted n (Contains-permutation old sorted n p (contains_of n old i)))),
      ),
    )

filter_case : (b : Bool) (r x : ℕ) (ks : List ℕ) → In x (if b then r ∷ ks else ks) → ((x ≡ r) × (b ≡ true)) ⊎ In x ks
filter_case true r x ks (inl q) = inl (q, refl)
filter_case true r x ks (inr i) = inr i
filter_case false r x ks i = inr i

in_filter : (p : ℕ → Bool) (xs : List ℕ) (x : ℕ) → In x (filter p xs) → In x xs × (p x ≡ true)
in_filter p [] x i = absurd i
in_filter p (y ∷ ys) x i = elim (filter_case (p y) y x (filter p ys) i) [
  | inl h ↦ (inl h.0, ap p h.0 ∙ h.1)
  | inr j ↦ let r = in_filter p ys x j in (inr r.0, r.1)
]

filter_in : (p : ℕ → Bool) (xs : List ℕ) (x : ℕ) → In x xs → p x ≡ true → In x (filter p xs)
filter_in p [] x i e = absurd i
filter_in p (y ∷ ys) x (inl q) e = put_given (p y) x y (filter p ys) (ap p (sym q) ∙ e) q
filter_in p (y ∷ ys) x (inr i) e = keep_given (p y) x y (filter p ys) (filter_in p ys x i e)

filter_once_case : (b : Bool) (r : ℕ) (ks : List ℕ) → Once ks → (In r ks → ⊥) → Once (if b then r ∷ ks else ks)
filter_once_case true r ks o n = (n, o)
filter_once_case false r ks o n = o

filter_once : (p : ℕ → Bool) (xs : List ℕ) → Once xs → Once (filter p xs)
filter_once p [] o = tt
filter_once p (y ∷ ys) o = filter_once_case (p y) y (filter p ys) (filter_once p ys o.1) (λ i. o.0 (in_filter p ys y i).0)

-- what a filter leaves of a list without repetition
pub filtered : (p : ℕ → Bool) (xs : List ℕ) → Once xs → Once (filter p xs) × ((x : ℕ) → In x (filter p xs) ↔ (In x xs × (p x ≡ true)))
filtered p xs o = (filter_once p xs o, λ x. (in_filter p xs x, λ h. filter_in p xs x h.0 h.1))

-- the next element, which passes
pub filter_yes : (p : ℕ → Bool) (xs : List ℕ) (i : ℕ) (found : List ℕ) → i < length xs → p (get_or xs i 0) ≡ true → (found ++ get_or xs i 0 ∷ []) ++ filter p (drop (i + 1) xs) ≡ found ++ filter p (drop i xs)
filter_yes p xs i found lt e =
    append_assoc found (get_or xs i 0 ∷ []) (filter p (drop (i + 1) xs))
    ∙ ap (λ (k : List ℕ). found ++ k) (
    sym (cond-true (p (get_or xs i 0)) (get_or xs i 0 ∷ filter p (drop (i + 1) xs)) (filter p (drop (i + 1) xs)) e) ∙ ap (filter p) (sym (drop_more xs i 0 lt)))

-- the next element, which does not
pub filter_no : (p : ℕ → Bool) (xs : List ℕ) (i : ℕ) (found : List ℕ) → i < length xs → p (get_or xs i 0) ≡ false → found ++ filter p (drop (i + 1) xs) ≡ found ++ filter p (drop i xs)
filter_no p xs i found lt e =
    ap (λ (k : List ℕ). found ++ k) (
    sym (cond-false (p (get_or xs i 0)) (get_or xs i 0 ∷ filter p (drop (i + 1) xs)) (filter p (drop (i + 1) xs)) e) ∙ ap (filter p) (sym (drop_more xs i 0 lt)))

-- the rows that an entry may have are rows of it
pub allowed_within : (sources : List (List Row)) (places : List ℕ) (given : Option (List RowId)) (entry : ℕ) (rows : List ℕ) → AreAllowed sources places given entry rows → All (λ row. row ≤ length (get_or sources entry [])) rows
allowed_within sources places given entry rows a = All-from_recursion (λ (row : ℕ). row ≤ length (get_or sources entry [])) rows (in_each (λ (row : ℕ). row ≤ length (get_or sources entry [])) rows (λ row i. ((a.exact row).0 i).is_row.1))
