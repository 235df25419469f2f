-- What queries are asked over, and what they have there: matches, extensions, tuples and hits.
use Rattle.std.specs.Prelude.{◌≡◌, ◌↔◌, ℕ, List, [], ◌∷◌, ◌++◌, slice_get, Option, Some, None}
use Rattle.std.specs.List.{AllByRecursion, AllZip}
use Rattle.mast_terms.specs.declared.term.Term.{Term}
use Rattle.mast_cq.specs.declared.atom.Atom.{Atom}
use Rattle.mast_cq.specs.declared.query.Cq.{Cq}
use Rattle.mast_cq.specs.Meanings.{Fact, Gives, Match}
use Rattle.mast_cq.specs.Queries.{In}
use Rattle.mast_mapping.specs.declared.split_map.SplitMap.{SplitMap}
use Rattle.mast_tables.specs.Rows.{Row}
use Rattle.mast_tbox.specs.Closure.{Down}
use Rattle.mast_canon.specs.declared.rows.RowId.{RowId}
use Rattle.mast_canon.specs.declared.spec.Spec.{Spec}
use Rattle.mast_canon.specs.CertainAnswers.{MetThrough, HasThrough}
use Rattle.mast_canon.specs.Choices.{chosen}
use Rattle.mast_canon.specs.Facts.{HaveSameRows, IsFactOf, IsOfTables, IsSupport, chosen_rows, fact_of}
use Rattle.mast_canon.specs.Fitting.{Fits}
use Rattle.mast_canon.specs.Theories.{constant_of}
use Rattle.mast_unfold.specs.Sources.{IsSource, Unfolding, unfolding_of}
use Rattle.mast_unfold.specs.declared.source.Source.{Source}
use Rattle.mast_join.specs.Chosen.{IsMet}

-- what queries are asked over: inclusions, constants, maps and declared tables, their rows, and those that take part where some are given
pub record Over : Type 0 where
  pub sources : Unfolding
  pub rows : List (List Row)
  pub only : Option (List RowId)

-- the inclusions, constants, maps and declared tables of a specification
abbrev pub unfolding_by : Spec → Unfolding
unfolding_by spec = unfolding_of spec.normal spec.vocab spec.maps spec.tables

-- a specification over rows of its tables, all or some
abbrev pub over_of : Spec → List (List Row) → Option (List RowId) → Over
over_of spec rows only = record { sources = unfolding_by spec; rows = rows; only = only }

-- X: all rows, or those that are given
abbrev pub TakesPart : List (List Row) → Option (List RowId) → RowId → Type 0
TakesPart rows None = IsOfTables rows
TakesPart rows (Some only) = λ row. In row only

-- Facts(X)
abbrev pub FactsOver : Over → Fact Term → Type 0
FactsOver over = IsFactOf over.sources.tables over.rows over.sources.maps (TakesPart over.rows over.only)

-- the term that a constant stands for
abbrev pub constant_over : Over → ℕ → Term
constant_over over = constant_of over.sources.vocab.constants

-- the assignment is a match of the atom over X: some member of Down of it is a fact
abbrev pub IsMatchOf : Over → (ℕ → Term) → Atom → Type 0
IsMatchOf over = MetThrough over.sources.normal (constant_over over) (FactsOver over)

-- the rows are a support of the fact, within X
pub record Supports (over : Over) (fact : Fact Term) (rows : List RowId) : Type 0 where
  pub support : IsSupport over.sources.tables over.rows over.sources.maps fact rows
  pub within : AllByRecursion (TakesPart over.rows over.only) rows

-- the assignment and the rows are a pair of the extension of the atom over X: the rows support a fact that some member of Down of it is
pub record IsPairOf (over : Over) (under : ℕ → Term) (g : Atom) (rows : List RowId) : Type 0 where
  pub member : Atom
  pub below : Down over.sources.normal g member
  pub fact : Fact Term
  pub matches : Match (constant_over over) under member fact
  pub supports : Supports over fact rows

-- the query has the tuple over X: some assignment that is a match of each atom makes its answer list the tuple
abbrev pub HasOver : Over → Cq → List Term → Type 0
HasOver over = HasThrough over.sources.normal (constant_over over) (FactsOver over)

-- the same by these sets of rows: with the set of its place each atom has a pair in its extension
pub record HasBy (over : Over) (q : Cq) (tuple : List Term) (sets : List (List RowId)) : Type 0 where
  pub under : ℕ → Term
  pub each : AllZip (IsPairOf over under) q.atoms sets
  pub answers : Gives (constant_over over) under q.answer tuple

-- the rows of all these sets
abbrev pub union : List (List RowId) → List RowId
union [] = []
union (set ∷ sets) = set ++ union sets

-- a hit of the query over X: a tuple, and the union of the rows of one pair for each atom
pub record IsHitOf (over : Over) (q : Cq) (tuple : List Term) (rows : List RowId) : Type 0 where
  pub sets : List (List RowId)
  pub has : HasBy over q tuple sets
  pub are : HaveSameRows rows (union sets)

-- the assignment and the rows are what a source of the atom gives: a choice of rows that take part meets the query of its map and gives a fact
-- that its member is, and the rows are the chosen ones
pub record IsPairBySource (over : Over) (under : ℕ → Term) (g : Atom) (rows : List RowId) : Type 0 where
  pub source : Source
  pub is : IsSource over.sources g source
  pub map : SplitMap
  pub stands : slice_get over.sources.maps source.map ≡ Some map
  pub choice : List ℕ
  pub met : IsMet over.sources.tables over.rows map.query over.only choice
  pub fact : Fact Term
  pub gives : fact_of over.sources.tables map.query (chosen over.sources.tables over.rows map.query.from choice) map.head ≡ Some fact
  pub matches : Match (constant_over over) under source.member fact
  pub are : HaveSameRows rows (chosen_rows over.sources.tables map.query.from choice)

-- the pairs of an atom's extension are exactly what its sources give
abbrev pub SourcesGivePairs : Over → Type 0
SourcesGivePairs over = (under : ℕ → Term) (g : Atom) (rows : List RowId) → IsPairOf over under g rows ↔ IsPairBySource over under g rows

-- over tables that fit their declarations
abbrev pub FitsOver : Over → Type 0
FitsOver over = Fits over.sources.tables over.rows
