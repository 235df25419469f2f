-- Lists of one length, kept one after another.
use Rattle.std.specs.Prelude.{ℕ, zero, suc, List, [], ◌∷◌, take, drop}

-- so many lists of one length, from their elements one after another
abbrev pub parts : ℕ → ℕ → List ℕ → List (List ℕ)
parts width zero numbers = []
parts width (suc count) numbers = take width numbers ∷ parts width count (drop width numbers)
