-- Laws of the definitions.
use Rattle.std.specs.Prelude.{◌≡◌, ℕ, List}
use Rattle.mast_source.specs.Escapes.{escaped, quoted, unescaped}
use Rattle.mast_source.specs.Slices.{inside}

-- a text comes back of its escapes, and of what stands inside its quotes
pub record ComesBack (text : List ℕ) : Type 0 where
  pub of_escapes : unescaped (escaped text) ≡ text
  pub of_quotes : unescaped (inside (quoted text)) ≡ text

-- so does each text
abbrev pub EscapeLaw : Type 0
EscapeLaw = (text : List ℕ) → ComesBack text
