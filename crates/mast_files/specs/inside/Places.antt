-- Files in memory by their places.
use Rattle.std.specs.Prelude.{ℕ, List, [], Option, Some, None, slice_get}

-- the bytes of an entry, or none
abbrev pub entry_content : Option (List ℕ × List ℕ) → List ℕ
entry_content None = []
entry_content (Some entry) = entry.1

-- the bytes of the file at a place, or none
abbrev pub content_at : List (List ℕ × List ℕ) → Option ℕ → List ℕ
content_at files None = []
content_at files (Some place) = entry_content (slice_get files place)

-- files, and the rest of the open one
pub record StoreState : Type 0 where
  pub files : List (List ℕ × List ℕ)
  pub rest : List ℕ
