-- The certain answers of a union of conjunctive queries, its blocks, over the rows of tables; and the rows that give them.
use Rattle.std.specs.Prelude.{◌≡◌, ◌↔◌, List, length}
use Rattle.std.specs.List.{AllByRecursion}
use Rattle.std.specs.List.Sorted.{IsStrictlySortedBy}
use Rattle.mast_terms.specs.Orders.{tuple_order}
use Rattle.mast_terms.specs.declared.term.Term.{Term}
use Rattle.mast_cq.specs.declared.query.Cq.{Cq}
use Rattle.mast_cq.specs.Queries.{In}
use Rattle.mast_cq.specs.Sorts.{EachHasOneSort}
use Rattle.mast_tables.specs.Rows.{Row}
use Rattle.mast_canon.specs.declared.rows.RowId.{RowId}
use Rattle.mast_canon.specs.declared.spec.Spec.{Spec}
use Rattle.mast_canon.specs.CertainAnswers.{Certain}
use Rattle.mast_canon.specs.ConflictLaws.{IsAmong}
use Rattle.mast_canon.specs.Facts.{IsOfTables}
use Rattle.mast_canon.specs.RowOrder.{row_order}
use Rattle.mast_canon.specs.SpecFacts.{FactsOf}
use Rattle.mast_canon.specs.Theories.{theory_of}
use Rattle.mast_canon.specs.TheoryPremises.{QueryInRange}
use Rattle.mast_join.specs.Answers.{IsAsked}
use Rattle.mast_join.specs.declared.hit.Hit.{Hit}

-- a specification, and the rows of its tables
pub record Project : Type 0 where
  pub spec : Spec
  pub tables : List (List Row)

-- the same, of its parts
abbrev pub project_of : Spec → List (List Row) → Project
project_of spec tables = record { spec = spec; tables = tables }

-- what is asked: constants of the vocabulary and names that documents may use, each argument of one sort, and an answer list of constants
-- and variables of the atoms
pub record IsBlock (spec : Spec) (q : Cq) : Type 0 where
  pub asked : IsAsked (length spec.vocab.constants) q
  pub named : QueryInRange q
  pub sorted : EachHasOneSort q.atoms

-- each block is asked so
abbrev pub AreBlocks : Spec → List Cq → Type 0
AreBlocks spec blocks = AllByRecursion (IsBlock spec) blocks

-- Certain(Facts(X), q)
abbrev pub IsCertainOf : Project → (RowId → Type 0) → Cq → List Term → Type 0
IsCertainOf project X q = Certain (theory_of project.spec) (FactsOf project.spec project.tables X) q

-- the tuple is a certain answer of some block over Facts(X)
pub record IsCertain (project : Project) (X : RowId → Type 0) (blocks : List Cq) (tuple : List Term) : Type 0 where
  pub block : Cq
  pub among : In block blocks
  pub certain : IsCertainOf project X block tuple

-- the tuples are exactly the certain answers of the blocks over Facts(All), in order, each once
pub record AreCertain (project : Project) (blocks : List Cq) (tuples : List (List Term)) : Type 0 where
  pub ascending : IsStrictlySortedBy tuple_order tuples
  pub are : (tuple : List Term) → In tuple tuples ↔ IsCertain project (IsOfTables project.tables) blocks tuple

-- the terms of the hit are a certain answer of some block over the facts of its rows, which are rows of the tables, in order, each once
pub record IsCertainHit (project : Project) (blocks : List Cq) (hit : Hit) : Type 0 where
  pub certain : IsCertain project (IsAmong hit.rows) blocks hit.terms
  pub of_tables : AllByRecursion (IsOfTables project.tables) hit.rows
  pub ascending : IsStrictlySortedBy row_order hit.rows

-- some hit has these terms, and rows within X
pub record HasHit (hits : List Hit) (X : List RowId) (tuple : List Term) : Type 0 where
  pub hit : Hit
  pub among : In hit hits
  pub terms : hit.terms ≡ tuple
  pub within : AllByRecursion (IsAmong X) hit.rows

-- each of the hits is certain, and each certain answer over the facts of a set of rows has one within them
pub record AreHits (project : Project) (blocks : List Cq) (hits : List Hit) : Type 0 where
  pub right : AllByRecursion (IsCertainHit project blocks) hits
  pub all : (X : List RowId) (tuple : List Term) → IsCertain project (IsAmong X) blocks tuple → HasHit hits X tuple
