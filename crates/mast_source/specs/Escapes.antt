-- The escapes of a text in double quotes.
use Rattle.std.specs.Prelude.{ℕ, ◌==◌, ◌||◌, if◌then◌else◌, Bool, true, false, List, [], ◌∷◌, ◌++◌}
use Rattle.mast_source.specs.Bytes.{quote, backslash}

-- a text with a backslash before each quote and each backslash
abbrev pub escaped : List ℕ → List ℕ
escaped [] = []
escaped (b ∷ bs) = if b == quote || b == backslash then backslash ∷ (b ∷ escaped bs) else b ∷ escaped bs

-- a text in double quotes, with its escapes
abbrev pub quoted : List ℕ → List ℕ
quoted text = quote ∷ (escaped text ++ (quote ∷ []))

-- whether there is a backslash
abbrev pub has_escape : List ℕ → Bool
has_escape [] = false
has_escape (b ∷ bs) = b == backslash || has_escape bs

-- without the backslashes that escape; the Bool says whether one stands before
abbrev pub unescaped_after : Bool → List ℕ → List ℕ
unescaped_after before [] = []
unescaped_after true (b ∷ bs) = b ∷ unescaped_after false bs
unescaped_after false (b ∷ bs) = if b == backslash then unescaped_after true bs else b ∷ unescaped_after false bs

-- without the backslashes that escape
abbrev pub unescaped : List ℕ → List ℕ
unescaped bytes = unescaped_after false bytes
