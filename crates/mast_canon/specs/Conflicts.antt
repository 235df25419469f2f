-- Conflicts: sets of rows without a model, each part of which has one.
use Rattle.std.specs.Prelude.{◌≢◌, List}
use Rattle.mast_mapping.specs.declared.split_map.SplitMap.{SplitMap}
use Rattle.mast_tables.specs.declared.declaration.TableDecl.{TableDecl}
use Rattle.mast_tables.specs.Rows.{Row}
use Rattle.mast_canon.specs.declared.rows.RowId.{RowId}
use Rattle.mast_canon.specs.Facts.{IsFactOf}
use Rattle.mast_canon.specs.NoModels.{NoModel}
use Rattle.mast_canon.specs.Theories.{Theory}

-- the set of rows without one
abbrev pub Without : (RowId → Type 0) → RowId → RowId → Type 0
Without X r row = X row × (row ≢ r)

-- Conflict(X): the facts of the rows have no model, and without any of the rows they have one
pub record Conflict (theory : Theory) (decls : List TableDecl) (tables : List (List Row)) (maps : List SplitMap) (X : RowId → Type 0) : Type 0 where
  pub no_model : NoModel theory (IsFactOf decls tables maps X)
  pub least : (r : RowId) → X r → NoModel theory (IsFactOf decls tables maps (Without X r)) → ⊥
