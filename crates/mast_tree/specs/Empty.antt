-- Lists of nothing.
use Rattle.std.specs.Prelude.{Bool, true, false, List, [], ◌∷◌}

-- nothing stands in the list
abbrev pub is_empty : {T : Type 0} → List T → Bool
is_empty [] = true
is_empty (x ∷ xs) = false
