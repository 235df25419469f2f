-- Rows that are left out one after the other.
use Rattle.std.specs.Prelude.{if◌then◌else◌, List, [], ◌∷◌}
use Rattle.std.specs.List.Sorted.{IsStrictlySortedBy}
use Rattle.mast_canon.specs.contracts.rows.RowIdPartialEq.TheImpl as row_eq
use Rattle.mast_canon.specs.declared.rows.RowId.{RowId}
use Rattle.mast_canon.specs.declared.spec.Spec.{Spec}
use Rattle.mast_canon.specs.ConflictLaws.{IsAmong}
use Rattle.mast_canon.specs.Conflicts.{Without}
use Rattle.mast_canon.specs.NoModels.{NoModel}
use Rattle.mast_canon.specs.RowOrder.{row_order}
use Rattle.mast_canon.specs.SpecFacts.{FactsOf}
use Rattle.mast_canon.specs.Theories.{theory_of}
use Rattle.mast_cq.specs.Queries.{In}
use Rattle.mast_tables.specs.Rows.{Row}
use Rattle.mast_check.specs.Checks.{IsBrokenBy}
use Rattle.mast_shrink.specs.declared.conflict.Broken.{Broken}

-- the rows but this one
abbrev pub others : RowId → List RowId → List RowId
others row [] = []
others row (other ∷ rows) = if row_eq.ghosts.eq other row then others row rows else other ∷ others row rows

-- without the row the facts of the rows have a model
abbrev pub IsNeeded : Spec → List (List Row) → List RowId → RowId → Type 0
IsNeeded spec tables rows row = NoModel (theory_of spec) (FactsOf spec tables (Without (IsAmong rows) row)) → ⊥

-- some of the rows, in order, whose facts break what has the origin
pub record AreBroken (spec : Spec) (tables : List (List Row)) (rows : List RowId) (broken : Broken) : Type 0 where
  pub by : IsBrokenBy spec tables broken.rows broken.origin
  pub ordered : IsStrictlySortedBy row_order broken.rows
  pub within : (row : RowId) → In row broken.rows → In row rows

-- of those that were tried, the rows that are left are needed
abbrev pub AreNeeded : Spec → List (List Row) → (RowId → Type 0) → Broken → Type 0
AreNeeded spec tables Tried broken = (row : RowId) → Tried row → In row broken.rows → IsNeeded spec tables broken.rows row
