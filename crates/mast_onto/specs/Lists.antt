-- Lists of lists.
use Rattle.std.specs.Prelude.{List, [], ◌∷◌, ◌++◌}

-- all elements of lists, one list after the other
abbrev pub together : {X : Type 0} → List (List X) → List X
together [] = []
together (xs ∷ xss) = xs ++ together xss
