-- What a check gives: whether facts of rows have a model, and breaches.
use Rattle.std.specs.Prelude.{◌≡◌, List, ◌∷◌, ◌++◌, Option, Some, None}
use Rattle.std.specs.List.{AllByRecursion}
use Rattle.std.specs.List.Sorted.{IsStrictlySortedBy}
use Rattle.mast_cq.specs.Queries.{In}
use Rattle.mast_tables.specs.Rows.{Row}
use Rattle.mast_canon.specs.declared.origin.Origin.{Origin}
use Rattle.mast_canon.specs.declared.rows.RowId.{RowId}
use Rattle.mast_canon.specs.declared.spec.Spec.{Spec}
use Rattle.mast_canon.specs.CertainAnswers.{Certain}
use Rattle.mast_canon.specs.ConflictLaws.{IsAmong, HaveNoModel}
use Rattle.mast_canon.specs.Facts.{IsOfTables}
use Rattle.mast_canon.specs.NoModels.{By, NoModel}
use Rattle.mast_canon.specs.RowOrder.{row_order}
use Rattle.mast_canon.specs.SpecFacts.{FactsOf}
use Rattle.mast_canon.specs.Theories.{theory_of}
use Rattle.mast_join.specs.Extensions.{TakesPart}
use Rattle.mast_violate.specs.declared.violation.Violation.{Violation}
use Rattle.mast_violate.specs.Breaches.{IsBreached, Passes, violations_of}
use Rattle.mast_check.specs.declared.breach.Breach.{Breach}

-- where rows are given, they are rows of the tables
abbrev pub AreRowsOf : List (List Row) → Option (List RowId) → Type 0
AreRowsOf tables None = Unit {0}
AreRowsOf tables (Some rows) = AllByRecursion (IsOfTables tables) rows

-- the facts of all rows, or of those that are given, have no model
abbrev pub HasNoModelOver : Spec → List (List Row) → Option (List RowId) → Type 0
HasNoModelOver spec tables only = NoModel (theory_of spec) (FactsOf spec tables (TakesPart tables only))

-- the origin's clause of No model holds of the facts of the rows
abbrev pub IsBrokenBy : Spec → List (List Row) → List RowId → Origin → Type 0
IsBrokenBy spec tables rows origin = By (theory_of spec) (FactsOf spec tables (IsAmong rows)) origin

-- the rows are in order, and each stands once
abbrev pub AreInOrder : List RowId → Type 0
AreInOrder = IsStrictlySortedBy row_order

-- a breach over all rows, or those that are given: its rows break what has its origin, and its terms show how, as a certain answer over the
-- facts of its rows, of a violation of that origin, which passes the violation's test
pub record IsBreachOf (spec : Spec) (tables : List (List Row)) (only : Option (List RowId)) (breach : Breach) : Type 0 where
  pub broken : IsBrokenBy spec tables breach.hit.rows breach.origin
  pub within : AllByRecursion (TakesPart tables only) breach.hit.rows
  pub ordered : AreInOrder breach.hit.rows
  pub violation : Violation
  pub stands : In violation (violations_of (theory_of spec))
  pub of_origin : violation.origin ≡ breach.origin
  pub certain : Certain (theory_of spec) (FactsOf spec tables (IsAmong breach.hit.rows)) violation.query breach.hit.terms
  pub passes : Passes violation.test breach.hit.terms

-- whether the facts have a model: they have where no breach is told, and else it is one
abbrev pub TellsModel : Spec → List (List Row) → Option (List RowId) → Option Breach → Type 0
TellsModel spec tables only None = HasNoModelOver spec tables only → ⊥
TellsModel spec tables only (Some breach) = IsBreachOf spec tables only breach

-- the violation is breached over the facts of all rows, or of those that are given
abbrev pub IsBreachedOver : Spec → List (List Row) → Option (List RowId) → Violation → Type 0
IsBreachedOver spec tables only v = IsBreached (theory_of spec) (FactsOf spec tables (TakesPart tables only)) v

-- a breach of the first violation of a list that is breached over all rows, or those that are given: it has this one's origin
pub record IsOfFirstOf (spec : Spec) (tables : List (List Row)) (only : Option (List RowId)) (list : List Violation) (breach : Breach) : Type 0 where
  pub before : List Violation
  pub violation : Violation
  pub after : List Violation
  pub parted : list ≡ before ++ violation ∷ after
  pub whole : AllByRecursion (λ v. IsBreachedOver spec tables only v → ⊥) before
  pub breached : IsBreachedOver spec tables only violation
  pub of_origin : violation.origin ≡ breach.origin

-- so it is of the violation list
abbrev pub IsOfFirst : Spec → List (List Row) → Option (List RowId) → Breach → Type 0
IsOfFirst spec tables only breach = IsOfFirstOf spec tables only (violations_of (theory_of spec)) breach

-- some breach of the list has its rows among these
pub record HasBreachWithin (rows : List RowId) (list : List Breach) : Type 0 where
  pub breach : Breach
  pub stands : In breach list
  pub within : AllByRecursion (IsAmong rows) breach.hit.rows

-- all breaches, but for more rows than are needed: each is one, and all rows whose facts have no model have one within them
pub record AreAllBreaches (spec : Spec) (tables : List (List Row)) (list : List Breach) : Type 0 where
  pub each : AllByRecursion (IsBreachOf spec tables None) list
  pub all : (rows : List RowId) → HaveNoModel spec tables rows → HasBreachWithin rows list
