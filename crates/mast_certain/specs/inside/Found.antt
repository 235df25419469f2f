-- What is found of a block: rows of numbers, and what they stand for.
use Rattle.std.specs.Prelude.{◌≡◌, ◌↔◌, ◌⊎◌, ◌+◌, ◌<◌, ℕ, List, [], ◌∷◌, length, map, slice_get, Some, None}
use Rattle.std.specs.List.{AllByRecursion}
use Rattle.mast_terms.specs.declared.memory.Stop.{Stop}
use Rattle.mast_terms.specs.declared.memory.Stop.TheVariants.{Named, NoMemory}
use Rattle.mast_terms.specs.declared.term.Term.{Term}
use Rattle.mast_cq.specs.declared.query.Cq.{Cq}
use Rattle.mast_cq.specs.Queries.{viewed, In as IsIn}
use Rattle.mast_canon.specs.declared.spec.Spec.{Spec}
use Rattle.mast_relations.specs.Matches.{In, IsAnswer, Rows}
use Rattle.mast_relations.specs.Stores.{contents}
use Rattle.mast_rewrite.specs.Rewritings.{most}
use Rattle.mast_join.specs.declared.extensions.Wanted.{Wanted}
use Rattle.mast_join.specs.declared.ready.Ready.{Ready}
use Rattle.mast_join.specs.declared.slices.Slice.{Slice}
use Rattle.mast_join.specs.Answers.{AreNumbersOf, Extended, HasInSlice, IsReady}
use Rattle.mast_join.specs.Extensions.{over_of}
use Rattle.mast_certain.specs.declared.closures.TooManyIn.{TooManyIn}
use Rattle.mast_certain.specs.LargeClosures.{IsTooLarge}

-- what is asked over is all rows of tables of the specification, and this is wanted
pub record IsOverAll (spec : Spec) (wish : Wanted) (e : Extended) : Type 0 where
  pub over : e.over ≡ over_of spec e.over.rows None
  pub wanted : e.wanted ≡ wish

-- the closure of a block is too large, and the refusal names the block's number
pub record IsTooManyAt (spec : Spec) (number : ℕ) (block : Cq) (refusal : TooManyIn) : Type 0 where
  pub named : refusal.block ≡ number
  pub counted : refusal.count ≡ most + 1
  pub large : IsTooLarge spec block

-- a block is refused for that cause alone; else memory is wanting
abbrev pub IsStopAt : Spec → ℕ → Cq → Stop TooManyIn → Type 0
IsStopAt spec number block (Named refusal) = IsTooManyAt spec number block refusal
IsStopAt spec number block NoMemory = Unit {0}

-- the queries, in order, and each is ready
pub record AreReady (e : Extended) (queries : List Cq) (readies : List Ready) : Type 0 where
  pub each : AllByRecursion (IsReady e) readies
  pub are : map (λ ready. viewed ready.query) readies ≡ queries

-- the rows are exactly those of a slice of a query
pub record IsFoundIn (e : Extended) (readies : List Ready) (slice : Slice) (rows : Rows) : Type 0 where
  pub ready : Ready
  pub stands : slice_get readies slice.query ≡ Some ready
  pub exact : (row : List ℕ) → In row rows.list ↔ HasInSlice e ready slice.from slice.to row

-- the row is one of some set
abbrev pub InSome : List Rows → List ℕ → Type 0
InSome [] row = ⊥
InSome (rows ∷ sets) row = In row rows.list ⊎ InSome sets row

-- the row is an answer of a query that is ready and a member
pub record IsRowOf (e : Extended) (Member : Cq → Type 0) (row : List ℕ) : Type 0 where
  pub ready : Ready
  pub is_ready : IsReady e ready
  pub member : Member (viewed ready.query)
  pub answer : IsAnswer (contents e.relations) ready.plan.query row

-- the query is ready, and each of its answers is a row with P
pub record HasAllRows (e : Extended) (q : Cq) (P : List ℕ → Type 0) : Type 0 where
  pub ready : Ready
  pub is_ready : IsReady e ready
  pub is : viewed ready.query ≡ q
  pub all : (row : List ℕ) → IsAnswer (contents e.relations) ready.plan.query row → P row

-- the rows with P are exactly the answers of the members
pub record AreRowsOf (e : Extended) (Member : Cq → Type 0) (P : List ℕ → Type 0) : Type 0 where
  pub right : (row : List ℕ) → P row → IsRowOf e Member row
  pub all : (m : Cq) → Member m → HasAllRows e m P

-- after some were put behind others: those that were there, and those with P
abbrev pub HasGained : {X : Type 0} → (X → Type 0) → List X → List X → Type 0
HasGained {X} P old new = (x : X) → IsIn x new ↔ (IsIn x old ⊎ P x)

-- some row with P has the numbers of the tuple
pub record HasRow (e : Extended) (P : List ℕ → Type 0) (tuple : List Term) : Type 0 where
  pub row : List ℕ
  pub has : P row
  pub numbers : AreNumbersOf e.numbered.terms row tuple

-- the numbers are those of terms
abbrev pub AreTermNumbers : Extended → List ℕ → Type 0
AreTermNumbers e row = AllByRecursion (λ number. number < length e.numbered.terms) row
