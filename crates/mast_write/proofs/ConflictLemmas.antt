-- Rows in order, each once, and the names of their tables.
use Rattle.std.proofs.Common.{◌≡◌, ◌<◌, ◌∙◌, ◌++◌, ℕ, zero, suc, List, [], ◌∷◌, length, map, get_or, sym, ap, subst, Contains, IsPermutation, IsSorted, slice_index_or, refl, arith}
use Rattle.std.proofs.lemmas.List.{append_assoc}
use Rattle.std.proofs.lemmas.List.Kept.{IsStrictlySortedBy-dedup, Contains-dedup, Contains-from_dedup}
use Rattle.std.proofs.lemmas.List.Sorted.{Contains-permutation, IsPermutation-sym}
use Rattle.std.proofs.lemmas.Option.{slice_get-get_or}
use Rattle.std.specs.List.{AllByRecursion, dedup}
use Rattle.std.specs.Prelude.{Option, Some, slice_get, option_map, unwrap_or}
use Rattle.mast_canon.specs.contracts.rows.RowIdPartialEq.TheImpl as row_eq
use Rattle.mast_canon.specs.contracts.rows.RowIdEq.TheImpl.Laws as row_equality
use Rattle.mast_canon.specs.contracts.rows.RowIdOrd.TheImpl as row_ord
use Rattle.mast_canon.specs.contracts.rows.RowIdOrd.TheImpl.Laws as row_ord_laws
use Rattle.mast_canon.specs.declared.origin.Origin.{Origin}
use Rattle.mast_canon.specs.declared.rows.RowId.{RowId}
use Rattle.mast_canon.proofs.RowLemmas.{row_same}
use Rattle.mast_tables.specs.declared.declaration.TableDecl.{TableDecl}
use Rattle.mast_write.specs.ConflictLines.{IsConflictText, IsInOrder, origin_line, row_line}
use Rattle.mast_write.specs.LineText.{lines_text}

-- the table at a place has its name
pub name_is : (tables : List TableDecl) (number : ℕ) (table : TableDecl) → number < length tables
    → unwrap_or (option_map (λ t. t.name) (slice_get tables number)) [] ≡ (get_or tables number table).name
name_is tables number table less = ap (λ (o : Option TableDecl). unwrap_or (option_map (λ t. t.name) o) []) (slice_get-get_or tables number table less)

-- the line of the origin, and the lines of the rows in order
pub conflict_is : (origin : Origin) (tables : List TableDecl) (rows ordered given : List RowId) (front text : List ℕ) → IsInOrder rows ordered → given ≡ ordered
    → front ≡ origin_line origin ++ 10 ∷ [] → text ≡ front ++ lines_text (map (row_line tables) given) → IsConflictText origin tables rows text
conflict_is origin tables rows ordered given front text set same begun e = record {
  ordered = ordered;
  set = set;
  is = e
      ∙ ap (λ (l : List ℕ). l ++ lines_text (map (row_line tables) given)) begun
      ∙ ap (λ (rs : List RowId). (origin_line origin ++ 10 ∷ []) ++ lines_text (map (row_line tables) rs)) same
      ∙ append_assoc (origin_line origin) (10 ∷ []) (lines_text (map (row_line tables) ordered));
}

-- sorted rows without those that equal the one before them are the rows in order
pub in_order : (rows moved ordered : List RowId) → IsPermutation rows moved → IsSorted row_ord.ghosts.cmp moved → ordered ≡ dedup row_eq.ghosts.eq moved → IsInOrder rows ordered
in_order rows moved ordered p s e =
    subst (IsInOrder rows) (sym e)
    (record {
      ascending = IsStrictlySortedBy-dedup row_ord_laws.total-law row_ord_laws.matches_eq-law moved s;
      each = λ row h. Contains-permutation moved rows row (IsPermutation-sym _ _ p) (Contains-from_dedup row_eq.ghosts.eq moved row h);
      all = λ row h. Contains-dedup row_equality.laws-law row_same moved row (Contains-permutation rows moved row p h);
    })

holds_at : (P : RowId → Type 0) (rows : List RowId) → AllByRecursion P rows → (row : RowId) (k : ℕ) → k < length rows → slice_index_or rows k row ≡ row → P row
holds_at P [] h row k less e = absurd (omega arith)
holds_at P (x ∷ rows) h row zero less e = subst P e h.0
holds_at P (x ∷ rows) h row (suc k) less e = holds_at P rows h.1 row k (omega arith) e

of_each : (P : RowId → Type 0) (rows : List RowId) → ((row : RowId) → Contains rows row → P row) → AllByRecursion P rows
of_each P [] h = tt
of_each P (x ∷ rows) h = (h x (zero, (omega arith), refl), of_each P rows (λ row there. h row (suc there.0, (let less = there.1 in omega arith), there.2)))

-- what holds of all rows holds of all of them in order
pub all_in_order : (P : RowId → Type 0) (rows ordered : List RowId) → IsInOrder rows ordered → AllByRecursion P rows → AllByRecursion P ordered
all_in_order P rows ordered set h = of_each P ordered (λ row there. let from = set.each row there in holds_at P rows h row from.0 from.1 from.2)
