-- What slices, queries and violations give: a breach by a row of numbers that passes, or none where no row does.
use Rattle.std.specs.Prelude.{◌≡◌, ℕ, length, Bool, true, false, List, [], ◌∷◌, ◌++◌, slice_get, Option, Some, None}
use Rattle.std.specs.List.{AllByRecursion, AllZip}
use Rattle.mast_cq.specs.declared.query.Cq.{Cq}
use Rattle.mast_cq.specs.Queries.{In, viewed}
use Rattle.mast_canon.specs.declared.rows.RowId.{RowId}
use Rattle.mast_canon.specs.declared.spec.Spec.{Spec}
use Rattle.mast_canon.specs.ConflictLaws.{IsAmong}
use Rattle.mast_canon.specs.SpecFacts.{FactsOf}
use Rattle.mast_canon.specs.Theories.{theory_of}
use Rattle.mast_join.specs.declared.ready.Ready.{Ready}
use Rattle.mast_join.specs.declared.slices.Slice.{Slice}
use Rattle.mast_join.specs.Answers.{Extended, IsAsked, IsReady, HasInSlice}
use Rattle.mast_join.specs.Extensions.{Over, over_of}
use Rattle.mast_violate.specs.declared.violation.Violation.{Violation}
use Rattle.mast_violate.specs.Breaches.{IsBreached}
use Rattle.mast_check.specs.declared.breach.Breach.{Breach}
use Rattle.mast_check.specs.Checks.{HasBreachWithin, IsBreachOf, IsBreachedOver, IsOfFirstOf}
use Rattle.mast_join.specs.Hits.{IsHitOfRow}
use Rattle.mast_check.specs.inside.Judging.{passes_by}

-- the extensions are of the specification
abbrev pub AreOfSpec : Spec → Over → Type 0
AreOfSpec spec over = over ≡ over_of spec over.rows over.only

-- the query is in range of what the extensions are over
abbrev pub IsAskedOver : Over → Cq → Type 0
IsAskedOver over q = IsAsked (length over.sources.vocab.constants) q

-- what is ready is this query
abbrev pub IsReadyAs : Extended → Cq → Ready → Type 0
IsReadyAs e q ready = (viewed ready.query ≡ q) × IsReady e ready

-- what is ready are these queries, place by place
abbrev pub AreReady : Extended → List Cq → List Ready → Type 0
AreReady e queries ready = AllZip (IsReadyAs e) queries ready

-- the breach is that of a row of numbers that passes the test; so many of them are those of terms
pub record IsBreachOfRow (e : Extended) (width : ℕ) (v : Violation) (row : List ℕ) (breach : Breach) : Type 0 where
  pub of_origin : breach.origin ≡ v.origin
  pub passes : passes_by e.numbered.terms v.test row ≡ true
  pub hit : IsHitOfRow e width row breach.hit

-- of some row with P
pub record IsBreachOfSome (e : Extended) (width : ℕ) (v : Violation) (P : List ℕ → Type 0) (breach : Breach) : Type 0 where
  pub row : List ℕ
  pub found : P row
  pub is : IsBreachOfRow e width v row breach

-- a breach of a row with P that passes, and none where no such row passes
abbrev pub TellsFirst : Extended → (width : ℕ) → Violation → (List ℕ → Type 0) → Option Breach → Type 0
TellsFirst e width v P None = (row : List ℕ) → P row → passes_by e.numbered.terms v.test row ≡ false
TellsFirst e width v P (Some breach) = IsBreachOfSome e width v P breach

-- how many numbers of terms the rows of a query that is ready begin with
abbrev pub terms_of : Ready → ℕ
terms_of ready = length (viewed ready.query).answer

-- so it is of a slice of one of the queries that are ready
abbrev pub TellsFirstIn : Extended → List Ready → Violation → Slice → Option Breach → Type 0
TellsFirstIn e queries v slice found = (ready : Ready) → slice_get queries slice.query ≡ Some ready
    → TellsFirst e (terms_of ready) v (HasInSlice e ready slice.from slice.to) found

-- a breach of the row stands in the list
pub record HasBreachOfRow (e : Extended) (width : ℕ) (v : Violation) (list : List Breach) (row : List ℕ) : Type 0 where
  pub breach : Breach
  pub stands : In breach list
  pub is : IsBreachOfRow e width v row breach

-- the breaches are those of rows with P that pass, and each such row has one
pub record TellsAll (e : Extended) (width : ℕ) (v : Violation) (P : List ℕ → Type 0) (list : List Breach) : Type 0 where
  pub right : AllByRecursion (IsBreachOfSome e width v P) list
  pub all : (row : List ℕ) → P row → passes_by e.numbered.terms v.test row ≡ true → HasBreachOfRow e width v list row

-- where the row passes, a breach of it is put behind the others, and else none is
abbrev pub IsPut : Extended → (width : ℕ) → Violation → (row : List ℕ) → Bool → (old new : List Breach) → Type 0
IsPut e width v row true old new = (breach : Breach) × (IsBreachOfRow e width v row breach × (new ≡ old ++ breach ∷ []))
IsPut e width v row false old new = new ≡ old

-- so it is of a slice of one of the queries that are ready
abbrev pub TellsAllIn : Extended → List Ready → Violation → Slice → List Breach → Type 0
TellsAllIn e queries v slice list = (ready : Ready) → slice_get queries slice.query ≡ Some ready
    → TellsAll e (terms_of ready) v (HasInSlice e ready slice.from slice.to) list

-- lists, one after another
abbrev pub flat : List (List Breach) → List Breach
flat [] = []
flat (list ∷ lists) = list ++ flat lists

-- the first that is there, and none where none is
abbrev pub first_there : List (Option Breach) → Option Breach
first_there [] = None
first_there (None ∷ rest) = first_there rest
first_there (Some breach ∷ rest) = Some breach

-- a breach of the violation over the rows that take part
pub record IsBreachBy (spec : Spec) (over : Over) (v : Violation) (breach : Breach) : Type 0 where
  pub is : IsBreachOf spec over.rows over.only breach
  pub breached : IsBreachedOver spec over.rows over.only v
  pub of_origin : v.origin ≡ breach.origin

-- a breach of the violation; none where it is not breached
abbrev pub TellsBreach : Spec → Over → Violation → Option Breach → Type 0
TellsBreach spec over v None = IsBreachedOver spec over.rows over.only v → ⊥
TellsBreach spec over v (Some breach) = IsBreachBy spec over v breach

-- the violation is not breached over the facts of the rows that take part
abbrev pub IsUnbreachedOver : Spec → Over → Violation → Type 0
IsUnbreachedOver spec over v = TellsBreach spec over v None

-- a breach of the first of these violations that is breached
pub record IsFirstBreach (spec : Spec) (over : Over) (list : List Violation) (breach : Breach) : Type 0 where
  pub is : IsBreachOf spec over.rows over.only breach
  pub first : IsOfFirstOf spec over.rows over.only list breach

-- a breach of the first of these violations that is breached; none where none is
abbrev pub TellsFirstBreach : Spec → Over → List Violation → Option Breach → Type 0
TellsFirstBreach spec over list None = AllByRecursion (IsUnbreachedOver spec over) list
TellsFirstBreach spec over list (Some breach) = IsFirstBreach spec over list breach

-- breaches; where one of the violations is breached over the facts of some rows, one of them has its rows among these
pub record TellsBreaches (spec : Spec) (over : Over) (violations : List Violation) (list : List Breach) : Type 0 where
  pub each : AllByRecursion (IsBreachOf spec over.rows over.only) list
  pub all : (v : Violation) → In v violations → (rows : List RowId) → IsBreached (theory_of spec) (FactsOf spec over.rows (IsAmong rows)) v → HasBreachWithin rows list
