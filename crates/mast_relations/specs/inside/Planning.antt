-- How plans are made: steps of the patterns that are left, and relations that get indices.
use Rattle.std.specs.Prelude.{◌≡◌, ◌⊎◌, ℕ, ◌<◌, List, [], ◌++◌, length, map, get_or, Option, Some, None}
use Rattle.std.specs.List.{AllByRecursion}
use Rattle.mast_relations.specs.declared.query.Conjunction.{Conjunction}
use Rattle.mast_relations.specs.declared.plan.Step.{Step}
use Rattle.mast_relations.specs.declared.planning.Split.{Split}
use Rattle.mast_relations.specs.Matches.{In}
use Rattle.mast_relations.specs.Plans.{AreBelow, IsStep, Once, bound_by, none, picked}
use Rattle.mast_relations.specs.Stores.{Stored}
use Rattle.mast_relations.specs.inside.Indices.{IsGrown}

-- the place of a variable among the bound ones; none where it is not among them
abbrev pub IsPlaceOf : ℕ → List ℕ → Option ℕ → Type 0
IsPlaceOf variable bound None = In variable bound → ⊥
IsPlaceOf variable bound (Some place) = (place < length bound) × (get_or bound place 0 ≡ variable)

-- each of the columns is one of a bound variable, with its place, or of another
pub record IsSplit (variables bound : List ℕ) (split : Split) : Type 0 where
  pub columns : AreBelow (length variables) split.columns.items
  pub places : AreBelow (length bound) split.places.items
  pub keys : picked variables split.columns.items ≡ picked bound split.places.items
  pub fresh : AreBelow (length variables) split.fresh.items
  pub all : (column : ℕ) → column < length variables → In column split.columns.items ⊎ In column split.fresh.items
  pub fresh_once : Once split.fresh.items
  pub unbound : AllByRecursion (λ column. In (get_or variables column 0) bound → ⊥) split.fresh.items

-- each variable is among the bound ones
abbrev pub AreWithin : List ℕ → List ℕ → Type 0
AreWithin variables bound = AllByRecursion (λ variable. In variable bound) variables

-- each relation has its rows and its indices, and maybe more indices
pub record AreGrown (old new : List Stored) : Type 0 where
  pub long : length new ≡ length old
  pub each : (number : ℕ) → IsGrown (get_or old number none) (get_or new number none)

-- the step is of this pattern, and binds what its pattern binds more
pub record IsNextStep (stored : List Stored) (query : Conjunction) (pattern : ℕ) (old new : List ℕ) (step : Step) : Type 0 where
  pub pattern_is : step.pattern ≡ pattern
  pub bound : step.bound.items ≡ old
  pub is_step : IsStep stored query step
  pub binds : new ≡ old ++ bound_by query step
  pub once : Once old → Once new

-- each number that was left is this one, or still left
abbrev pub IsTaken : List ℕ → ℕ → List ℕ → Type 0
IsTaken old pattern new = (number : ℕ) → In number old → (number ≡ pattern) ⊎ In number new

-- each number that was left is that of a step, or still left
abbrev pub AreTaken : List ℕ → List Step → List ℕ → Type 0
AreTaken old steps new = (number : ℕ) → In number old → In number (map (λ step. step.pattern) steps) ⊎ In number new

-- nothing is left; or all that was wanted is bound
abbrev pub IsDone : Option (List ℕ) → List ℕ → List ℕ → Type 0
IsDone None left bound = left ≡ []
IsDone (Some wanted) left bound = (left ≡ []) ⊎ AreWithin wanted bound

-- the numbers from 0 to below a bound
pub record AreNumbersTo (bound : ℕ) (numbers : List ℕ) : Type 0 where
  pub below : AreBelow bound numbers
  pub all : (number : ℕ) → number < bound → In number numbers
  pub some : 0 < bound → 0 < length numbers
