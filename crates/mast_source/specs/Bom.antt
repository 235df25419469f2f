-- The byte order mark at the front of a text.
use Rattle.std.specs.Prelude.{ℕ, ◌==◌, ◌&&◌, if◌then◌else◌, List, [], ◌∷◌}

-- the byte order mark in UTF-8
abbrev pub bom : List ℕ
bom = 0xEF ∷ 0xBB ∷ 0xBF ∷ []

-- how many bytes a byte order mark takes at the front
abbrev pub bom_length : List ℕ → ℕ
bom_length (a ∷ b ∷ c ∷ bytes) = if a == 0xEF && b == 0xBB && c == 0xBF then 3 else 0
bom_length bytes = 0
