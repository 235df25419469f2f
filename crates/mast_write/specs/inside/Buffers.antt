-- Lines in one buffer, by their lengths.
use Rattle.std.specs.Prelude.{◌≡◌, ◌≤◌, ◌+◌, ℕ, List, [], ◌∷◌, length, take, drop}
use Rattle.mast_write.specs.Written.{Written}

-- the pieces of these lengths, one after the other
abbrev pub pieces : List ℕ → List ℕ → List (List ℕ)
pieces [] bytes = []
pieces (n ∷ ns) bytes = take n bytes ∷ pieces ns (drop n bytes)

-- how many bytes pieces of these lengths have together
abbrev pub total : List ℕ → ℕ
total [] = 0
total (n ∷ ns) = n + total ns

-- the complete lines are the pieces, and behind them stands what is begun
abbrev pub written_in : List ℕ → ℕ → List ℕ → Written
written_in lengths begin bytes = record { lines = pieces lengths bytes; begun = drop begin bytes }

-- the pieces end where the next line begins, and that is within the bytes
pub record IsBuffer (lengths : List ℕ) (begin : ℕ) (bytes : List ℕ) : Type 0 where
  pub ends : total lengths ≡ begin
  pub within : begin ≤ length bytes
