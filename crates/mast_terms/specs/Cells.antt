-- The texts that a cell's type accepts, and where a text ceases to begin one.
use Rattle.std.specs.Prelude.{ℕ, ◌≤◌, List, ◌++◌, length, take}

-- some accepted text begins with it
abbrev pub Begins : (List ℕ → Type 0) → List ℕ → Type 0
Begins Accepted bytes = (more : List ℕ) × Accepted (bytes ++ more)

-- `at` is the length of the longest front that begins an accepted text
pub record IsLongestFront (Accepted : List ℕ → Type 0) (bytes : List ℕ) (at : ℕ) : Type 0 where
  pub within : at ≤ length bytes
  pub begins : Begins Accepted (take at bytes)
  pub longest : (n : ℕ) → n ≤ length bytes → Begins Accepted (take n bytes) → n ≤ at
