-- What every specification keeps of its tables and mappings, over plain lists, a record a part. What it keeps of its axioms and
-- constraints stands with these.
use Rattle.std.specs.Prelude.{ℕ, ◌<◌, List, [], ◌∷◌, length}
use Rattle.std.specs.List.{AllByRecursion}
use Rattle.mast_terms.specs.Vocabularies.{Lists}
use Rattle.mast_tables.specs.declared.declaration.TableDecl.{TableDecl}
use Rattle.mast_mapping.specs.declared.split_map.SplitMap.{SplitMap}
use Rattle.mast_mapping.specs.InRange.{IsHeadIn}
use Rattle.mast_mapping.specs.OverTables.{AreNamedApart, IsOverTables}

-- the names of the heads of split mappings are in range
abbrev pub SplitInRange : Lists → List SplitMap → Type 0
SplitInRange lists maps = AllByRecursion (λ m. IsHeadIn lists m.head) maps

-- names of tables and columns stand once, and each split mapping is over the tables
pub record SplitOverTables (tables : List TableDecl) (maps : List SplitMap) : Type 0 where
  pub named : AreNamedApart tables
  pub over : AllByRecursion (λ m. IsOverTables tables m.query (m.head ∷ [])) maps

-- what a number of 32 bits must exceed to name each place and one more
abbrev pub places : ℕ
places = 4294967295

-- each place of the list has a number of 32 bits
abbrev pub HasNumbers : {A : Type 0} → List A → Type 0
HasNumbers xs = length xs < places

-- tables and their columns have such numbers
pub record TablesHaveNumbers (tables : List TableDecl) : Type 0 where
  pub of_tables : HasNumbers tables
  pub of_columns : AllByRecursion (λ table. HasNumbers table.columns) tables
