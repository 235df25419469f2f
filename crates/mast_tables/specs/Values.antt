-- The different values of cells, and their numbers.
use Rattle.std.specs.Prelude.{ℕ, Bool, List, [], ◌∷◌, Option, Some, None}
use Rattle.std.specs.List.{position}
use Rattle.indexmap.specs.IndexSet.{insert_all}
use Rattle.mast_terms.specs.declared.value.Value.{Value}
use Rattle.mast_terms.specs.contracts.value.ValuePartialEq.TheImpl as value_eq

-- whether two values are equal
abbrev pub same : Value → Value → Bool
same a b = value_eq.ghosts.eq a b

-- the values of the cells that are not missing
abbrev pub present : List (Option Value) → List Value
present [] = []
present (None ∷ cells) = present cells
present (Some value ∷ cells) = value ∷ present cells

-- the different values of some cells, each once, in the order in which they come first
abbrev pub different : List (Option Value) → List Value
different cells = insert_all same [] (present cells)

-- the number of a value among the different values of some cells: its place, from 0
abbrev pub number_among : List (Option Value) → Value → Option ℕ
number_among cells value = position (same value) (different cells)
