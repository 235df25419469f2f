-- Indices of the rows of a relation by some columns.
use Rattle.std.specs.Prelude.{◌≡◌, ℕ, ◌<◌, List, [], length, map, get_or}
use Rattle.mast_relations.specs.declared.relation.Index.{Index}
use Rattle.mast_relations.specs.Matches.{Rows}
use Rattle.mast_relations.specs.Plans.{AreBelow, picked}
use Rattle.mast_relations.specs.Stores.{Stored}
use Rattle.mast_relations.specs.inside.Hashing.{hash_of}

-- the hashes of rows at some columns
abbrev pub hashes_by : List ℕ → List (List ℕ) → List ℕ
hashes_by columns rows = map (λ row. hash_of (picked row columns)) rows

-- the index is one of these rows
pub record IsIndexOf (rows : Rows) (index : Index) : Type 0 where
  pub columns : AreBelow rows.width index.columns.items
  pub hashes : index.hashes ≡ hashes_by index.columns.items rows.list

-- the row at a place has at some columns what values have at some places
abbrev pub AgreesBy : Rows → List ℕ → List ℕ → List ℕ → ℕ → Type 0
AgreesBy rows columns values places place = picked (get_or rows.list place []) columns ≡ picked values places

-- the same by the number of an index
abbrev pub Agrees : Stored → ℕ → List ℕ → List ℕ → ℕ → Type 0
Agrees stored index values places place = AgreesBy stored.rows (get_or stored.indices index []) values places place

-- there is a value for each column, and the hash is theirs
pub record CanAgree (columns values places : List ℕ) (hash : ℕ) : Type 0 where
  pub below : AreBelow (length values) places
  pub long : length columns ≡ length places
  pub hash_is : hash ≡ hash_of (picked values places)

-- the same by the number of an index that is there
pub record IsLookup (stored : Stored) (index : ℕ) (values places : List ℕ) (hash : ℕ) : Type 0 where
  pub there : index < length stored.indices
  pub can : CanAgree (get_or stored.indices index []) values places hash

-- the index of the number is by these columns
pub record IsIndexAt (stored : Stored) (columns : List ℕ) (index : ℕ) : Type 0 where
  pub there : index < length stored.indices
  pub is : get_or stored.indices index [] ≡ columns

-- the rows are the same, and each index is as it was
pub record IsGrown (old new : Stored) : Type 0 where
  pub rows : new.rows ≡ old.rows
  pub kept : (index : ℕ) → index < length old.indices → IsIndexAt new (get_or old.indices index []) index
