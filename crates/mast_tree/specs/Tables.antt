-- What a table of prefixes shows.
use Rattle.std.specs.Prelude.{ℕ, List, map, string_bytes}
use Rattle.std.specs.declared.string.String.{String}

-- the entries of the map by their bytes
abbrev pub shown : {Z : Type 0} → List (String Z × List ℕ) → List (List ℕ × List ℕ)
shown entries = map (λ e. (string_bytes e.0, e.1)) entries
