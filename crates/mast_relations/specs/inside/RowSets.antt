-- Different rows of one width, kept one after another, with their hashes.
use Rattle.std.specs.Prelude.{◌≡◌, ℕ, zero, suc, ◌*◌, List, [], ◌∷◌, take, drop, length, map}
use Rattle.mast_relations.specs.Matches.{Rows}
use Rattle.mast_relations.specs.Plans.{Once}
use Rattle.mast_relations.specs.inside.Hashing.{hash_of}

-- so many lists of one length, from their elements one after another
abbrev pub parts : ℕ → ℕ → List ℕ → List (List ℕ)
parts width zero numbers = []
parts width (suc count) numbers = take width numbers ∷ parts width count (drop width numbers)

-- as many rows as there are hashes
abbrev pub rows_of : ℕ → List ℕ → List ℕ → Rows
rows_of width hashes numbers = record { width = width; list = parts width (length hashes) numbers }

-- the numbers are those of the rows, the hashes are theirs, and no row stands twice
pub record IsRowSet (width : ℕ) (hashes numbers : List ℕ) : Type 0 where
  pub long : length numbers ≡ length hashes * width
  pub hashed : hashes ≡ map hash_of (parts width (length hashes) numbers)
  pub once : Once (parts width (length hashes) numbers)
