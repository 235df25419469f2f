-- A field that is there.
use Rattle.std.proofs.Common.{◌≡◌, ℕ, ◌<◌, List, length, refl, sym}
use Rattle.std.specs.Prelude.{Option, Some, None, option_map, IsSome}
use Rattle.csv.specs.Records.{field_at}
use Rattle.csv.proofs.RecordFacts.{field-there}

-- what gives the field of a place within gives one
pub there : {X : Type 0} (o : Option X) (f : X → List ℕ) (fields : List (List ℕ)) (i : ℕ) → i < length fields → option_map f o ≡ field_at fields i → IsSome o
there None f fields i h e = absurd (field-there fields i h (sym e))
there (Some x) f fields i h e = refl
