-- Partial choices: the numbers of rows for some of the entries, and 0 for the others.
use Rattle.std.specs.Prelude.{◌≡◌, ◌↔◌, ℕ, suc, ◌+◌, ◌-◌, ◌^◌, ◌<◌, ◌≤◌, Bool, true, false, ◌&&◌, ◌||◌, nat_eq, if◌then◌else◌, List, [], ◌∷◌, length, get_or, set, Option, Some, None}
use Rattle.std.specs.List.{AllByRecursion}
use Rattle.mast_terms.specs.declared.value.Value.{Value}
use Rattle.mast_cq.specs.Queries.{In}
use Rattle.mast_tables.specs.Rows.{Row}
use Rattle.mast_canon.specs.declared.rows.RowId.{RowId}
use Rattle.mast_canon.specs.Choices.{IsRowNumber, compare}
use Rattle.mast_join.specs.declared.comparisons.Side.{Side}
use Rattle.mast_join.specs.declared.comparisons.Side.TheVariants as side
use Rattle.mast_join.specs.declared.comparisons.Test.{Test}

-- the value of a side
abbrev pub side_value : List (List Row) → List ℕ → Side → Option Value
side_value sources choice (side.Cell entry column) = get_or (get_or (get_or sources entry []) (get_or choice entry 0 - 1) []) column None
side_value sources choice (side.Constant value) = Some value.now
side_value sources choice side.Nothing = None

-- no row is chosen yet for the entry of the side
abbrev pub is_open : List ℕ → Side → Bool
is_open choice (side.Cell entry column) = nat_eq (get_or choice entry 0) 0
is_open choice (side.Constant value) = false
is_open choice side.Nothing = false

-- the comparison is true, or can't be judged yet
abbrev pub passes : List (List Row) → List ℕ → Test → Bool
passes sources choice t =
    is_open choice t.left || (is_open choice t.right || compare t.op (side_value sources choice t.left) (side_value sources choice t.right))

-- so are all comparisons
abbrev pub pass_all : List (List Row) → List ℕ → List Test → Bool
pass_all sources choice [] = true
pass_all sources choice (t ∷ ts) = passes sources choice t && pass_all sources choice ts

-- the place is an entry's, and each of its rows has the column, which has a number of 32 bits
pub record IsCellOver (sources : List (List Row)) (entry column : ℕ) : Type 0 where
  pub entry_there : entry < length sources
  pub column_few : column + 1 < 2 ^ 32
  pub column_there : (row : ℕ) → row < length (get_or sources entry []) → column < length (get_or (get_or sources entry []) row [])

-- the cells of the side are there
abbrev pub IsSideOver : List (List Row) → Side → Type 0
IsSideOver sources (side.Cell entry column) = IsCellOver sources entry column
IsSideOver sources (side.Constant value) = Unit {0}
IsSideOver sources side.Nothing = Unit {0}

-- so are those of both sides
pub record IsTestOver (sources : List (List Row)) (t : Test) : Type 0 where
  pub left : IsSideOver sources t.left
  pub right : IsSideOver sources t.right

-- a number of a row or 0 for each entry
pub record IsPartly (sources : List (List Row)) (choice : List ℕ) : Type 0 where
  pub long : length choice ≡ length sources
  pub within : (entry : ℕ) → get_or choice entry 0 ≤ length (get_or sources entry [])

-- where rows are given, this one is among them
abbrev pub IsAmong : Option (List RowId) → RowId → Type 0
IsAmong None row = Unit {0}
IsAmong (Some only) row = In row only

-- a row that an entry may have
pub record MayHave (sources : List (List Row)) (places : List ℕ) (only : Option (List RowId)) (entry number : ℕ) : Type 0 where
  pub is_row : IsRowNumber (get_or sources entry []) number
  pub among : IsAmong only (record { table = get_or places entry 0; number = number })

-- a bound entry has such a row, and another has none
abbrev pub IsBound : Bool → Type 0 → ℕ → Type 0
IsBound true Bound number = Bound
IsBound false Bound number = number ≡ 0

-- a choice for the bound entries of which no comparison is false
pub record IsPartial (sources : List (List Row)) (places : List ℕ) (only : Option (List RowId)) (tests : List Test) (bound : List Bool) (choice : List ℕ) : Type 0 where
  pub long : length choice ≡ length sources
  pub rows : (entry : ℕ) → entry < length sources
      → IsBound (get_or bound entry true) (MayHave sources places only entry (get_or choice entry 0)) (get_or choice entry 0)
  pub passes : pass_all sources choice tests ≡ true

-- no element stands twice
abbrev pub Once : {X : Type 0} → List X → Type 0
Once [] = Unit {0}
Once (x ∷ xs) = (In x xs → ⊥) × Once xs

-- exactly these, each once
pub record ArePartial (sources : List (List Row)) (places : List ℕ) (only : Option (List RowId)) (tests : List Test) (bound : List Bool) (choices : List (List ℕ)) : Type 0 where
  pub once : Once choices
  pub exact : (choice : List ℕ) → In choice choices ↔ IsPartial sources places only tests bound choice

-- exactly the rows that an entry may have and of which no comparison is false, each once
pub record AreCandidates (sources : List (List Row)) (places : List ℕ) (only : Option (List RowId)) (tests : List Test) (nothing : List ℕ) (entry : ℕ) (rows : List ℕ) : Type 0 where
  pub once : Once rows
  pub exact : (row : ℕ) → In row rows ↔ (MayHave sources places only entry row × (pass_all sources (set nothing entry row) tests ≡ true))

-- the choices with one of these rows at the entry of which no comparison is false
abbrev pub kept : List (List Row) → List Test → List ℕ → ℕ → List ℕ → List (List ℕ)
kept sources tests choice entry [] = []
kept sources tests choice entry (row ∷ rows) =
    if pass_all sources (set choice entry row) tests then set choice entry row ∷ kept sources tests choice entry rows
    else kept sources tests choice entry rows

-- the choice has no row for the entry yet
pub record IsReady (sources : List (List Row)) (entry : ℕ) (choice : List ℕ) : Type 0 where
  pub partly : IsPartly sources choice
  pub open_there : get_or choice entry 0 ≡ 0

-- none of the choices does, and no choice stands twice
pub record AreReady (sources : List (List Row)) (entry : ℕ) (choices : List (List ℕ)) : Type 0 where
  pub once : Once choices
  pub each : AllByRecursion (IsReady sources entry) choices

-- rows of the entry, none of them twice
pub record AreRows (sources : List (List Row)) (entry : ℕ) (rows : List ℕ) : Type 0 where
  pub once : Once rows
  pub each : AllByRecursion (IsRowNumber (get_or sources entry [])) rows

-- the choice is one of these with one of the rows at the entry, and no comparison is false
pub record IsGrownOf (sources : List (List Row)) (tests : List Test) (entry : ℕ) (rows : List ℕ) (choices : List (List ℕ)) (choice : List ℕ) : Type 0 where
  pub base : List ℕ
  pub row : ℕ
  pub base_in : In base choices
  pub row_in : In row rows
  pub is : choice ≡ set base entry row
  pub passes : pass_all sources choice tests ≡ true

-- exactly such choices, each once
pub record AreGrown (sources : List (List Row)) (tests : List Test) (entry : ℕ) (rows : List ℕ) (choices grown : List (List ℕ)) : Type 0 where
  pub once : Once grown
  pub exact : (choice : List ℕ) → In choice grown ↔ IsGrownOf sources tests entry rows choices choice

-- rows of these, with each of which no comparison of the choice is false among them
pub record AreOffered (sources : List (List Row)) (tests : List Test) (entry : ℕ) (rows : List ℕ) (choice found : List ℕ) : Type 0 where
  pub once : Once found
  pub within : (row : ℕ) → In row found → In row rows
  pub all : (row : ℕ) → In row rows → pass_all sources (set choice entry row) tests ≡ true → In row found

-- how many entries are not bound
abbrev pub open_count : List Bool → ℕ
open_count [] = 0
open_count (true ∷ bound) = open_count bound
open_count (false ∷ bound) = suc (open_count bound)
