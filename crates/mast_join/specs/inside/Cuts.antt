-- Slices that are put behind others.
use Rattle.std.specs.Prelude.{◌≡◌, ℕ, List, ◌++◌}
use Rattle.mast_join.specs.declared.slices.Slice.{Slice}
use Rattle.mast_join.specs.Slices.{AreCut}

-- the slices behind those that were there cut a query up to a row
pub record HasCut (number to : ℕ) (old new : List Slice) : Type 0 where
  pub cut : List Slice
  pub is : new ≡ old ++ cut
  pub are : AreCut number 0 to cut
