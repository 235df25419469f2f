-- How the relation of an atom is filled: which rows the facts of a source give.
use Rattle.std.specs.Prelude.{◌≡◌, ℕ, ◌+◌, ◌<◌, ◌⊎◌, nat_eq, if◌then◌else◌, List, [], ◌∷◌, ◌++◌, length, get_or, slice_get, Some}
use Rattle.mast_relations.specs.declared.plan.Plan.{Plan}
use Rattle.mast_relations.specs.Matches.{In, IsConjunction, Rows, nothing}
use Rattle.mast_relations.specs.Plans.{IsPlan, KeepsOtherPlans}
use Rattle.mast_relations.specs.Stores.{Stored, contents}
use Rattle.mast_join.specs.declared.extensions.Wanted.{Wanted}
use Rattle.mast_join.specs.declared.extensions.Wanted.TheVariants.{Tuples, SomeHits, AllHits}
use Rattle.mast_join.specs.declared.facts.MadeFact.{MadeFact}
use Rattle.mast_join.specs.declared.fill.Gathered.{Gathered}
use Rattle.mast_join.specs.declared.shapes.Asked.{Asked}
use Rattle.mast_join.specs.declared.shapes.Asked.TheVariants.{Nothing, Column, Number}
use Rattle.mast_join.specs.inside.Relates.{set_column, set_columns}
use Rattle.mast_join.specs.inside.Values.{IsFront}

-- the number is what is asked for: any, that of a column of the row, or this one
abbrev pub FitsNumber : List ℕ → Asked → ℕ → Type 0
FitsNumber row Nothing number = Unit {0}
FitsNumber row (Column column) number = slice_get row column ≡ Some number
FitsNumber row (Number wanted) number = wanted ≡ number

-- the number of a column: that of the first term where it is asked for the column, else that of the second
abbrev pub column_number : Asked → ℕ → ℕ → ℕ → ℕ
column_number Nothing column first second = second
column_number (Column asked) column first second = if nat_eq asked column then first else second
column_number (Number wanted) column first second = second

-- the columns have these numbers
abbrev pub AreColumns : Asked → ℕ → ℕ → List ℕ → Type 0
AreColumns asked first second row = (column : ℕ) → column < length row → get_or row column 0 ≡ column_number asked column first second

-- the row of this width is that of the fact: its terms are what is asked for
pub record IsRowOf (width : ℕ) (gathered : Gathered) (fact : MadeFact) (row : List ℕ) : Type 0 where
  pub long : length row ≡ width
  pub first : FitsNumber row gathered.first fact.first
  pub second : FitsNumber row gathered.second fact.second

-- each of so many columns is asked for
abbrev pub IsFull : ℕ → Gathered → Type 0
IsFull width gathered = (column : ℕ) → column < width → (gathered.first ≡ Column column) ⊎ (gathered.second ≡ Column column)

-- the rows of a relation
abbrev pub rows_at : List Stored → ℕ → Rows
rows_at stored number = get_or (contents stored) number nothing

-- the row with the column of the set, where sets are wanted
abbrev pub with_set : Wanted → List ℕ → ℕ → List ℕ
with_set wanted row set = row ++ set_column wanted set

-- the rows have this one, with this set or where some are enough with any
abbrev pub Has : Wanted → List (List ℕ) → List ℕ → ℕ → Type 0
Has Tuples rows row set = In row rows
Has SomeHits rows row set = (n : ℕ) × In (row ++ n ∷ []) rows
Has AllHits rows row set = In (row ++ set ∷ []) rows

-- what was seen is there with some set
abbrev pub AreLinked : Wanted → List (List ℕ) → List (List ℕ) → Type 0
AreLinked Tuples seen rows = Unit {0}
AreLinked SomeHits seen rows = (row : List ℕ) → In row seen → (n : ℕ) × In (row ++ n ∷ []) rows
AreLinked AllHits seen rows = Unit {0}

-- no other relation changed, and no plan without this one
pub record IsRefilled (number : ℕ) (old new : List Stored) : Type 0 where
  pub long : length (contents new) ≡ length (contents old)
  pub others : (k : ℕ) → (k ≡ number → ⊥) → rows_at new k ≡ rows_at old k
  pub plans : KeepsOtherPlans number old new

-- the row is what this fact gives
pub record IsGivenBy (wanted : Wanted) (width : ℕ) (gathered : Gathered) (fact : MadeFact) (row : List ℕ) : Type 0 where
  pub front : List ℕ
  pub is : IsRowOf width gathered fact front
  pub whole : row ≡ with_set wanted front fact.set

-- what this fact gives is there
abbrev pub HasGivenBy : Wanted → ℕ → Gathered → MadeFact → List (List ℕ) → Type 0
HasGivenBy wanted width gathered fact rows = (front : List ℕ) → IsRowOf width gathered fact front → Has wanted rows front fact.set

-- the row is what one of the facts gives
pub record IsGiven (wanted : Wanted) (width : ℕ) (gathered : Gathered) (facts : List MadeFact) (row : List ℕ) : Type 0 where
  pub fact : MadeFact
  pub there : In fact facts
  pub front : List ℕ
  pub is : IsRowOf width gathered fact front
  pub whole : row ≡ with_set wanted front fact.set

-- what each of the facts gives is there
abbrev pub HasGiven : Wanted → ℕ → Gathered → List MadeFact → List (List ℕ) → Type 0
HasGiven wanted width gathered facts rows = (fact : MadeFact) (front : List ℕ) → In fact facts → IsRowOf width gathered fact front → Has wanted rows front fact.set

-- the row is what one of the sources gives
pub record IsGivenByOne (wanted : Wanted) (width : ℕ) (facts : List (List MadeFact)) (sources : List Gathered) (row : List ℕ) : Type 0 where
  pub source : Gathered
  pub there : In source sources
  pub given : IsGiven wanted width source (get_or facts source.place []) row

-- what each of the sources gives is there
abbrev pub HasAllGiven : Wanted → ℕ → List (List MadeFact) → List Gathered → List (List ℕ) → Type 0
HasAllGiven wanted width facts sources rows = (source : Gathered) → In source sources → HasGiven wanted width source (get_or facts source.place []) rows

-- the relation has exactly what the sources give
pub record IsFilled (wanted : Wanted) (width : ℕ) (facts : List (List MadeFact)) (sources : List Gathered) (rows : Rows) : Type 0 where
  pub wide : rows.width ≡ width + set_columns wanted
  pub right : (row : List ℕ) → In row rows.list → IsGivenByOne wanted width facts sources row
  pub all : HasAllGiven wanted width facts sources rows.list

-- the plans of what was a conjunction over the relations are right as they were
abbrev pub KeepsThesePlans : List Stored → List Stored → Type 0
KeepsThesePlans old new = (plan : Plan) → IsConjunction (contents old) plan.query → IsPlan old plan → IsPlan new plan

-- relations that were there are as they were, and so are their plans
pub record AreRelationsMore (old new : List Stored) : Type 0 where
  pub front : IsFront (contents old) (contents new)
  pub plans : KeepsThesePlans old new

-- a relation is put behind the others
pub record IsRelationNext (P : Rows → Type 0) (old new : List Stored) (number : ℕ) : Type 0 where
  pub next : number ≡ length (contents old)
  pub rows : Rows
  pub is : contents new ≡ contents old ++ rows ∷ []
  pub tells : P rows
