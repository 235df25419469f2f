-- The words of the laws of conflicts, over lists of rows.
use Rattle.std.specs.Prelude.{◌≤◌, List, length}
use Rattle.std.specs.List.{AllByRecursion}
use Rattle.mast_cq.specs.Queries.{In}
use Rattle.mast_tables.specs.Rows.{Row}
use Rattle.mast_canon.specs.declared.rows.RowId.{RowId}
use Rattle.mast_canon.specs.declared.spec.Spec.{Spec}
use Rattle.mast_canon.specs.Conflicts.{Conflict}
use Rattle.mast_canon.specs.NoModels.{NoModel}
use Rattle.mast_canon.specs.SpecFacts.{FactsOf}
use Rattle.mast_canon.specs.Theories.{theory_of}

-- the row is one of the list
abbrev pub IsAmong : List RowId → RowId → Type 0
IsAmong rows row = In row rows

-- the facts of the rows have no model
abbrev pub HaveNoModel : Spec → List (List Row) → List RowId → Type 0
HaveNoModel spec tables rows = NoModel (theory_of spec) (FactsOf spec tables (IsAmong rows))

-- the rows are a conflict
abbrev pub IsConflict : Spec → List (List Row) → List RowId → Type 0
IsConflict spec tables rows = Conflict (theory_of spec) spec.tables tables spec.maps (IsAmong rows)

-- each row of the part is one of the rows, and one of these is missing in it
pub record IsProperPart (part rows : List RowId) : Type 0 where
  pub within : (row : RowId) → In row part → In row rows
  pub missing : RowId
  pub stands : In missing rows
  pub misses : In missing part → ⊥

-- each mapping reads a table: its FROM has an entry, as the grammar of source queries has it
abbrev pub EachReads : Spec → Type 0
EachReads spec = AllByRecursion (λ m. 1 ≤ length m.query.from) spec.maps
