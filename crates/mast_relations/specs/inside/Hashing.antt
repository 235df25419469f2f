-- The hash of a list of numbers.
use Rattle.std.specs.Prelude.{ℕ, ◌+◌, ◌*◌, ◌%◌, ◌^◌, List, [], ◌∷◌}
use Rattle.mast_relations.specs.declared.rows.TheConstants.{SCATTER}

-- a hash, with one more number
abbrev pub mixed : ℕ → ℕ → ℕ
mixed hash number = ((hash + number) % 2 ^ 32 * SCATTER) % 2 ^ 32

-- a hash, with more numbers
abbrev pub hashed : ℕ → List ℕ → ℕ
hashed hash [] = hash
hashed hash (number ∷ numbers) = hashed (mixed hash number) numbers

-- the hash of a list
abbrev pub hash_of : List ℕ → ℕ
hash_of numbers = hashed 0 numbers
