-- Rows of a relation that agree with given numbers.
use Rattle.std.specs.Prelude.{◌≡◌, ℕ, suc, ◌<◌, ◌≤◌, List, [], length, get_or}
use Rattle.mast_relations.specs.Matches.{Rows, nothing}
use Rattle.mast_relations.specs.Plans.{AreBelow, picked}

-- the rows of the relation of a number
abbrev pub rows_in : List Rows → ℕ → List (List ℕ)
rows_in relations relation = (get_or relations relation nothing).list

-- the row at a place has in these columns what the values have at these places
abbrev pub AgreesAt : List (List ℕ) → List ℕ → List ℕ → List ℕ → ℕ → Type 0
AgreesAt rows columns values places place = picked (get_or rows place []) columns ≡ picked values places

-- there is a value for each of the columns, which are columns of rows of this width
pub record CanAgreeBy (width : ℕ) (columns values places : List ℕ) : Type 0 where
  pub within : AreBelow width columns
  pub below : AreBelow (length values) places
  pub long : length columns ≡ length places

-- and the relation is there
pub record CanLookUp (relations : List Rows) (relation : ℕ) (columns values places : List ℕ) : Type 0 where
  pub there : relation < length relations
  pub can : CanAgreeBy (get_or relations relation nothing).width columns values places

-- 0, or one more than a place below the end at which it holds; it holds at no place from there to the end
pub record IsLastOf (Here : ℕ → Type 0) (end place : ℕ) : Type 0 where
  pub within : place ≤ end
  pub here : (last : ℕ) → place ≡ suc last → Here last
  pub none : (later : ℕ) → place ≤ later → later < end → Here later → ⊥
