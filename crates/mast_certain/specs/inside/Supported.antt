-- Hits of rows of numbers.
use Rattle.std.specs.Prelude.{◌⊎◌, ℕ, List}
use Rattle.std.specs.List.{AllByRecursion}
use Rattle.std.specs.List.Sorted.{IsStrictlySortedBy}
use Rattle.mast_terms.specs.declared.term.Term.{Term}
use Rattle.mast_cq.specs.declared.query.Cq.{Cq}
use Rattle.mast_cq.specs.Queries.{In}
use Rattle.mast_canon.specs.declared.rows.RowId.{RowId}
use Rattle.mast_canon.specs.ConflictLaws.{IsAmong}
use Rattle.mast_canon.specs.Facts.{IsOfTables}
use Rattle.mast_canon.specs.RowOrder.{row_order}
use Rattle.mast_join.specs.declared.hit.Hit.{Hit}
use Rattle.mast_join.specs.Answers.{Extended}
use Rattle.mast_join.specs.Hits.{IsHitOfRow}
use Rattle.mast_certain.specs.Answered.{HasHit, IsCertainOf, Project}

-- the hit is that of some row with P
pub record HasHitRow (e : Extended) (width : ℕ) (P : List ℕ → Type 0) (hit : Hit) : Type 0 where
  pub row : List ℕ
  pub has : P row
  pub is : IsHitOfRow e width row hit

-- the row has a hit in the list
pub record HasHitOf (e : Extended) (width : ℕ) (hits : List Hit) (row : List ℕ) : Type 0 where
  pub hit : Hit
  pub among : In hit hits
  pub is : IsHitOfRow e width row hit

-- the hits behind those that were there are hits of rows with P, and each of these rows has one
pub record HasHitsOf (e : Extended) (width : ℕ) (P : List ℕ → Type 0) (old new : List Hit) : Type 0 where
  pub kept : (hit : Hit) → In hit old → In hit new
  pub right : (hit : Hit) → In hit new → In hit old ⊎ HasHitRow e width P hit
  pub all : (row : List ℕ) → P row → HasHitOf e width new row

-- the terms of the hit are a certain answer of the query over the facts of its rows
pub record IsHitOfBlock (project : Project) (q : Cq) (hit : Hit) : Type 0 where
  pub certain : IsCertainOf project (IsAmong hit.rows) q hit.terms
  pub of_tables : AllByRecursion (IsOfTables project.tables) hit.rows
  pub ascending : IsStrictlySortedBy row_order hit.rows

-- the hits behind those that were there are such, and each certain answer over the facts of a set of rows has one
pub record AreBlockHits (project : Project) (q : Cq) (old new : List Hit) : Type 0 where
  pub kept : (hit : Hit) → In hit old → In hit new
  pub right : (hit : Hit) → In hit new → In hit old ⊎ IsHitOfBlock project q hit
  pub all : (X : List RowId) (tuple : List Term) → IsCertainOf project (IsAmong X) q tuple → HasHit new X tuple
