-- Rows in order, each once.
use Rattle.std.proofs.Common.{◌≡◌, inl, inr, ◌<◌, ℕ, zero, suc, List, [], ◌∷◌, length, sym, subst, Contains, IsPermutation, IsSorted, slice_index_or, arith}
use Rattle.std.proofs.lemmas.List.Kept.{IsStrictlySortedBy-dedup, Contains-dedup, Contains-from_dedup}
use Rattle.std.proofs.lemmas.List.Sorted.{Contains-permutation, IsPermutation-sym}
use Rattle.std.specs.List.{dedup}
use Rattle.std.specs.List.Sorted.{IsStrictlySortedBy}
use Rattle.mast_cq.specs.Queries.{In}
use Rattle.mast_canon.specs.contracts.rows.RowIdPartialEq.TheImpl as row_eq
use Rattle.mast_canon.specs.contracts.rows.RowIdEq.TheImpl.Laws as row_equality
use Rattle.mast_canon.specs.contracts.rows.RowIdOrd.TheImpl as row_ord
use Rattle.mast_canon.specs.contracts.rows.RowIdOrd.TheImpl.Laws as row_ord_laws
use Rattle.mast_canon.specs.declared.rows.RowId.{RowId}
use Rattle.mast_canon.specs.Facts.{HaveSameRows}
use Rattle.mast_canon.specs.RowOrder.{row_order}
use Rattle.mast_canon.proofs.RowLemmas.{row_same}

stands_at : (row : RowId) (rows : List RowId) (k : ℕ) → k < length rows → slice_index_or rows k row ≡ row → In row rows
stands_at row [] k less e = absurd (omega arith)
stands_at row (other ∷ rows) zero less e = inl (sym e)
stands_at row (other ∷ rows) (suc k) less e = inr (stands_at row rows k (omega arith) e)

-- a row that stands in a list by its place
contains_in : (row : RowId) (rows : List RowId) → Contains rows row → In row rows
contains_in row rows h = stands_at row rows h.0 h.1 h.2

-- and the other way
in_contains : (row : RowId) (rows : List RowId) → In row rows → Contains rows row
in_contains row [] h = absurd h
in_contains row (other ∷ rows) (inl e) = (zero, (omega arith), sym e)
in_contains row (other ∷ rows) (inr h) = let there = in_contains row rows h in (suc there.0, (let less = there.1 in omega (less, arith)), there.2)

-- sorted rows without those that equal the one before them are in order
pub ordered_rows : (moved ordered : List RowId) → IsSorted row_ord.ghosts.cmp moved → ordered ≡ dedup row_eq.ghosts.eq moved → IsStrictlySortedBy row_order ordered
ordered_rows moved ordered s e = subst (IsStrictlySortedBy row_order) (sym e) (IsStrictlySortedBy-dedup row_ord_laws.total-law row_ord_laws.matches_eq-law moved s)

-- and they are the same rows
pub same_rows : (rows moved ordered : List RowId) → IsPermutation rows moved → ordered ≡ dedup row_eq.ghosts.eq moved → HaveSameRows ordered rows
same_rows rows moved ordered p e row = (
  (λ h. contains_in row rows (Contains-permutation moved rows row (IsPermutation-sym _ _ p)
      (Contains-from_dedup row_eq.ghosts.eq moved row (in_contains row (dedup row_eq.ghosts.eq moved) (subst (In row) e h))))),
  (λ h. subst (In row) (sym e) (contains_in row (dedup row_eq.ghosts.eq moved)
      (Contains-dedup row_equality.laws-law row_same moved row (Contains-permutation rows moved row p (in_contains row rows h))))),
)
