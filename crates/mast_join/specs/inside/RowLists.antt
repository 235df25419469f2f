-- Lists of rows of an entry.
use Rattle.std.specs.Prelude.{◌↔◌, ℕ, zero, suc, Bool, ◌&&◌, nat_eq, nat_le, if◌then◌else◌, List, [], ◌∷◌, ◌++◌, set, Option}
use Rattle.mast_cq.specs.Queries.{In}
use Rattle.mast_tables.specs.Rows.{Row}
use Rattle.mast_canon.specs.declared.rows.RowId.{RowId}
use Rattle.mast_join.specs.declared.join.Join.{Join}
use Rattle.mast_join.specs.inside.Joins.{nothing, sources}
use Rattle.mast_join.specs.inside.Partial.{MayHave, Once, pass_all}

-- the numbers of so many rows
abbrev pub numbers_to : ℕ → List ℕ
numbers_to zero = []
numbers_to (suc count) = numbers_to count ++ suc count ∷ []

-- whether a row is one of a table with so many
abbrev pub is_given : ℕ → ℕ → RowId → Bool
is_given place count row = nat_eq row.table place && (nat_le 1 row.number && nat_le row.number count)

-- the numbers that are given for a table with so many rows
abbrev pub given : ℕ → ℕ → List RowId → List ℕ
given place count [] = []
given place count (row ∷ rows) = if is_given place count row then row.number ∷ given place count rows else given place count rows

-- exactly the rows that an entry may have, each once
pub record AreAllowed (sources : List (List Row)) (places : List ℕ) (only : Option (List RowId)) (entry : ℕ) (rows : List ℕ) : Type 0 where
  pub once : Once rows
  pub exact : (row : ℕ) → In row rows ↔ MayHave sources places only entry row

-- whether no comparison is false of a row of the entry by itself
abbrev pub passes_alone : Join → ℕ → ℕ → Bool
passes_alone j entry row = pass_all (sources j) (set (nothing j) entry row) j.tests.items
