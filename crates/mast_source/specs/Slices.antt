-- Slices of bytes.
use Rattle.std.specs.Prelude.{ℕ, ◌-◌, List, take, drop, length}

-- the bytes from one place up to another, without the second
abbrev pub between : List ℕ → ℕ → ℕ → List ℕ
between bytes from to = take (to - from) (drop from bytes)

-- the bytes without the first and the last
abbrev pub inside : List ℕ → List ℕ
inside bytes = take (length bytes - 2) (drop 1 bytes)
