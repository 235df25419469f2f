-- The columns and the rows of the tables that are made here of values.
use Rattle.std.specs.Prelude.{◌≡◌, ℕ, ℤ, List, [], ◌∷◌}
use Rattle.mast_terms.specs.declared.value.Kind.TheVariants as kind
use Rattle.mast_terms.specs.declared.value.Value.{Value}
use Rattle.mast_terms.specs.declared.value.Value.TheVariants as v
use Rattle.mast_tables.specs.declared.declaration.Column.{Column}

-- a column of integers
abbrev pub IsOfNumbers : List Column → Type 0
IsOfNumbers columns = (number : Column) × (columns ≡ number ∷ []) × (number.kind ≡ kind.Integer)

-- a column of texts and one of integers
abbrev pub IsOfPairs : List Column → Type 0
IsOfPairs columns =
    (text number : Column) × (columns ≡ text ∷ number ∷ []) × (text.kind ≡ kind.Text) × (number.kind ≡ kind.Integer)

-- a row of a text and a number
abbrev pub of_pair : List ℕ → ℤ → List Value
of_pair text number = v.Text text ∷ v.Int number ∷ []
