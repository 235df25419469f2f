-- Slices of queries that are ready: for a list of queries the whole list of slices, which are together exactly the queries.
use Rattle.std.specs.Prelude.{◌≡◌, ℕ, suc, ◌+◌, ◌<◌, ◌≤◌, List, [], ◌∷◌, ◌++◌}
use Rattle.mast_join.specs.declared.ready.Ready.{Ready}
use Rattle.mast_join.specs.declared.slices.Slice.{Slice}

-- the most rows of a slice
abbrev pub most_rows : ℕ
most_rows = 4096

-- the slice is of the query of this number and begins at this row; it has a row, and no more than it may
pub record IsNext (number from : ℕ) (slice : Slice) : Type 0 where
  pub query : slice.query ≡ number
  pub begins : slice.from ≡ from
  pub some : slice.from < slice.to
  pub few : slice.to ≤ slice.from + most_rows

-- the slices cut a query from one row to another: each begins where the one before it ends
abbrev pub AreCut : (number from to : ℕ) → List Slice → Type 0
AreCut number from to [] = from ≡ to
AreCut number from to (slice ∷ slices) = IsNext number from slice × AreCut number slice.to to slices

-- the slices of queries that are numbered from this number on: they cut the first query, and then follow those of the others
abbrev pub AreSlices : ℕ → List Ready → List Slice → Type 0
AreSlices number [] slices = slices ≡ []
AreSlices number (query ∷ queries) slices =
    (cut : List Slice) × (rest : List Slice) × (slices ≡ cut ++ rest) × AreCut number 0 query.plan.size cut × AreSlices (suc number) queries rest
