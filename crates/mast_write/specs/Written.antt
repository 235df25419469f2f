-- Lines that are written one after the other.
use Rattle.std.specs.Prelude.{ℕ, List, [], ◌∷◌, ◌++◌}

-- the lines that stand complete, in the order in which they were written, and what is written of the next one
pub record Written : Type 0 where
  pub lines : List (List ℕ)
  pub begun : List ℕ

-- nothing is written
abbrev pub blank : Written
blank = record { lines = []; begun = [] }

-- more bytes of the line that is begun
abbrev pub with_bytes : Written → List ℕ → Written
with_bytes w bytes = record { lines = w.lines; begun = w.begun ++ bytes }

-- the line that is begun stands complete
abbrev pub with_line : Written → Written
with_line w = record { lines = w.lines ++ w.begun ∷ []; begun = [] }

-- the line that is begun is given up
abbrev pub without_begun : Written → Written
without_begun w = record { lines = w.lines; begun = [] }
