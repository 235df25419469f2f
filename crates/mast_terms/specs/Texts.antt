-- The bytes of a text, wherever they stand.
use Rattle.std.specs.Prelude.{ℕ, List, string_bytes}
use Rattle.mast_terms.specs.declared.text.Place.{Place}
use Rattle.mast_terms.specs.declared.text.Place.TheVariants as place

-- in the value, or in a buffer
abbrev pub bytes_at : Place → List ℕ
bytes_at (place.Value bytes) = bytes
bytes_at (place.Buffer boxed) = string_bytes boxed.value
