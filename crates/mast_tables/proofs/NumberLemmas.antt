-- The numbers of values: one for equal values, and for no others.
use Rattle.std.proofs.Common.{◌⊎◌, inl, inr, ◌≡◌, ◌↔◌, ℕ, zero, suc, ◌+◌, ◌-◌, ◌<◌, Bool, true, false, List, [], ◌∷◌, ◌++◌, length, get_or, refl, sym, ap, subst, ◌∙◌, arith, if◌then◌else◌}
use Rattle.std.specs.Prelude.{Option, Some, None, option_and_then, is_some, Contains, IsSome}
use Rattle.std.specs.List.{fold, list_any, IsDistinct}
use Rattle.std.proofs.lemmas.List.{get_or_append_left, get_or-append-add, get_or_default}
use Rattle.std.proofs.lemmas.List.Elements.{Contains-append_left, Contains-push_cases}
use Rattle.std.proofs.lemmas.List.Quantifiers.{position-Some}
use Rattle.std.proofs.lemmas.Map.Keys.{IsDistinct-push}
use Rattle.std.proofs.lemmas.Option.{slice_get-get_or}
use Rattle.indexmap.specs.IndexSet.{insert_key}
use Rattle.indexmap.proofs.CallerLemmas.{Contains-insert_key}
use Rattle.mast_terms.specs.declared.value.Value.{Value}
use Rattle.mast_terms.specs.contracts.value.ValueEq.TheImpl.Laws as laws
use Rattle.mast_terms.proofs.SameLemmas.{value_same}
use Rattle.mast_tables.specs.Values.{same, present, different, number_among}
use Rattle.mast_tables.specs.Rows.{Row, cells_of, cell_at, number_at, number_of, IsPlace}
use Rattle.mast_tables.proofs.CellsLemmas.{position_is}

inserted_distinct : (ks : List Value) (v : Value) → IsDistinct same ks → IsDistinct same (insert_key same ks v)
inserted_distinct ks v d = by (list_any (same v) ks) refl
  where
    by : (b : Bool) → list_any (same v) ks ≡ b → IsDistinct same (if b then ks else ks ++ v ∷ [])
    by true e = d
    by false e = IsDistinct-push laws.laws-law ks v d e

all_distinct : (xs ks : List Value) → IsDistinct same ks → IsDistinct same (fold (insert_key same) ks xs)
all_distinct [] ks d = d
all_distinct (x ∷ xs) ks d = all_distinct xs (insert_key same ks x) (inserted_distinct ks x d)

different_distinct : (cells : List (Option Value)) → IsDistinct same (different cells)
unfolding IsDistinct
different_distinct cells = all_distinct (present cells) [] tt

kept : (ks : List Value) (v x : Value) → Contains ks x → Contains (insert_key same ks v) x
kept ks v x h = by (list_any (same v) ks)
  where
    by : (b : Bool) → Contains (if b then ks else ks ++ v ∷ []) x
    by true = h
    by false = Contains-append_left ks (v ∷ []) x h

all_kept : (xs ks : List Value) (x : Value) → Contains ks x → Contains (fold (insert_key same) ks xs) x
all_kept [] ks x h = h
all_kept (v ∷ xs) ks x h = all_kept xs (insert_key same ks v) x (kept ks v x h)

-- the value of a cell is among the different values
has_value : (cells : List (Option Value)) (ks : List Value) (k : ℕ) (v : Value) → get_or cells k None ≡ Some v → Contains (fold (insert_key same) ks (present cells)) v
has_value [] ks k v e = absurd (cc)
has_value (None ∷ cells) ks zero v e = absurd (cc)
has_value (None ∷ cells) ks (suc k) v e = has_value cells ks k v e
has_value (Some u ∷ cells) ks zero v e =
    let is : u ≡ v = cc in
    all_kept (present cells) (insert_key same ks u) v (subst (λ (x : Value). Contains (insert_key same ks u) x) is (Contains-insert_key same value_same ks u))
has_value (Some u ∷ cells) ks (suc k) v e = has_value cells (insert_key same ks u) k v e

-- so it has a number, which leads back to it
numbered : (cells : List (Option Value)) (k : ℕ) (v : Value) → get_or cells k None ≡ Some v → (i : ℕ) × (number_among cells v ≡ Some i)
numbered cells k v e =
    let c = has_value cells [] k v e in
    (c.0, position_is (different cells) c.0 v (different_distinct cells) (slice_get-get_or (different cells) c.0 v c.1 ∙ ap (λ (x : Value). Some x) c.2))

numbered_back : (cells : List (Option Value)) (v : Value) (i : ℕ) → number_among cells v ≡ Some i → v ≡ get_or (different cells) i v
numbered_back cells v i e = value_same v (get_or (different cells) i v) (position-Some (same v) (different cells) i v e).1

one_value : (cells : List (Option Value)) (u v : Value) (i : ℕ) → number_among cells u ≡ Some i → number_among cells v ≡ Some i → u ≡ v
one_value cells u v i e f =
    let first : u ≡ get_or (different cells) i u = numbered_back cells u i e in
    let back : v ≡ get_or (different cells) i u = value_same v (get_or (different cells) i u) (position-Some (same v) (different cells) i u f).1 in
    first ∙ sym back

-- a cell of the rows is one of all cells
among : (rows : List Row) (row column : ℕ) → row < length rows → column < length (get_or rows row []) → (k : ℕ) × (get_or (cells_of rows) k None ≡ get_or (get_or rows row []) column None)
among [] row column r c = absurd (omega arith)
among (first ∷ rows) zero column r c = (column, get_or_append_left first (cells_of rows) None column c)
among (first ∷ rows) (suc row) column r c =
    let rest = among rows row column (omega arith) c in
    (length first + rest.0, get_or-append-add first (cells_of rows) rest.0 None ∙ rest.1)

at_place : (rows : List Row) (row column : ℕ) → IsPlace rows row column → (k : ℕ) × (get_or (cells_of rows) k None ≡ cell_at rows row column)
at_place rows row column p = among rows (row - 1) (column - 1) (omega (arith, p.row_from, p.row_to)) (omega (arith, p.column_from, p.column_to))

-- numbers of cells that may be missing
numbers_differ : (cells : List (Option Value)) (j k : ℕ) (a b : Option Value) → get_or cells j None ≡ a → get_or cells k None ≡ b → option_and_then (number_among cells) a ≡ option_and_then (number_among cells) b → a ≡ b
numbers_differ cells j k None None e f h = refl
numbers_differ cells j k None (Some v) e f h = let n = numbered cells k v f in let at = n.1 in absurd (cc)
numbers_differ cells j k (Some u) None e f h = let n = numbered cells j u e in let at = n.1 in absurd (cc)
numbers_differ cells j k (Some u) (Some v) e f h =
    let n = numbered cells j u e in
    ap (λ (x : Value). Some x) (one_value cells u v n.0 n.1 (sym h ∙ n.1))

missing_number : (cells : List (Option Value)) (k : ℕ) (a : Option Value) → get_or cells k None ≡ a → option_and_then (number_among cells) a ≡ None → a ≡ None
missing_number cells k None e h = refl
missing_number cells k (Some v) e h = let n = numbered cells k v e in let at = n.1 in absurd (cc)

-- two cells have one number exactly where they have one value
pub one_number : (rows : List Row) (row column other next : ℕ) → IsPlace rows row column → IsPlace rows other next → (number_at rows row column ≡ number_at rows other next) ↔ (cell_at rows row column ≡ cell_at rows other next)
one_number rows row column other next p q =
    let a = at_place rows row column p in
    let b = at_place rows other next q in
    (λ h. numbers_differ (cells_of rows) a.0 b.0 (cell_at rows row column) (cell_at rows other next) a.1 b.1 h, λ e. ap (λ (x : Option Value). option_and_then (number_among (cells_of rows)) x) e)

-- a cell has no number exactly where it is missing
pub no_number : (rows : List Row) (row column : ℕ) → IsPlace rows row column → (number_at rows row column ≡ None) ↔ (cell_at rows row column ≡ None)
no_number rows row column p =
    let a = at_place rows row column p in
    (λ h. missing_number (cells_of rows) a.0 (cell_at rows row column) a.1 h, λ e. ap (λ (x : Option Value). option_and_then (number_among (cells_of rows)) x) e)

-- a value that has a number is that of a cell
from_inserted : (ks : List Value) (v x : Value) → Contains (insert_key same ks v) x → Contains ks x ⊎ (v ≡ x)
from_inserted ks v x = by (list_any (same v) ks)
  where
    by : (b : Bool) → Contains (if b then ks else ks ++ v ∷ []) x → Contains ks x ⊎ (v ≡ x)
    by true h = inl h
    by false h = Contains-push_cases ks v x h

later : {X : Type 0} (x y : X) (xs : List X) → Contains xs y → Contains (x ∷ xs) y
later x y xs h = let lt : h.0 < length xs = h.1 in (suc h.0, omega arith, h.2)

from_all : (xs ks : List Value) (x : Value) → Contains (fold (insert_key same) ks xs) x → Contains ks x ⊎ Contains xs x
from_all [] ks x h = inl h
from_all (v ∷ xs) ks x h = by (from_all xs (insert_key same ks v) x h)
  where
    first : Contains ks x ⊎ (v ≡ x) → Contains ks x ⊎ Contains (v ∷ xs) x
    first (inl a) = inl a
    first (inr e) = inr (0, omega arith, e)

    by : Contains (insert_key same ks v) x ⊎ Contains xs x → Contains ks x ⊎ Contains (v ∷ xs) x
    by (inl a) = first (from_inserted ks v x a)
    by (inr b) = inr (later v x xs b)

is_cell : (cells : List (Option Value)) (x : Value) (k : ℕ) → k < length (present cells) → get_or (present cells) k x ≡ x → Contains cells (Some x)
is_cell [] x k lt e = absurd (omega arith)
is_cell (None ∷ cells) x k lt e = later None (Some x) cells (is_cell cells x k lt e)
is_cell (Some u ∷ cells) x zero lt e = (0, omega arith, ap (λ (y : Value). Some y) e)
is_cell (Some u ∷ cells) x (suc k) lt e = later (Some u) (Some x) cells (is_cell cells x k (omega arith) e)

of_a_cell : (cells : List (Option Value)) (v : Value) (o : Option ℕ) → number_among cells v ≡ o → is_some o ≡ true → Contains cells (Some v)
of_a_cell cells v None e h = absurd (cc)
of_a_cell cells v (Some i) e h = by (from_all (present cells) [] v here)
  where
    here : Contains (different cells) v
    here = (i, (position-Some (same v) (different cells) i v e).0, sym (numbered_back cells v i e))

    by : Contains [] v ⊎ Contains (present cells) v → Contains cells (Some v)
    by (inl a) = let lt : a.0 < 0 = a.1 in absurd (omega arith)
    by (inr b) = is_cell cells v b.0 b.1 b.2

-- a value has a number exactly where a cell has it
pub found_number : (rows : List Row) (v : Value) → IsSome (number_of rows v) ↔ Contains (cells_of rows) (Some v)
found_number rows v = (
  λ h. of_a_cell (cells_of rows) v (number_among (cells_of rows) v) refl h,
  λ c. let n = numbered (cells_of rows) c.0 v (get_or_default (cells_of rows) c.0 None (Some v) c.1 ∙ c.2) in ap is_some n.1,
)
