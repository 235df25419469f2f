-- Terms with numbers: the place of a term, from 0, is its number.
use Rattle.std.specs.Prelude.{◌≡◌, ℕ, ◌⊎◌, List, [], ◌∷◌, ◌++◌, map, slice_get, get_or, Option, Some, None}
use Rattle.mast_terms.specs.Vocabularies.{EachOnce}
use Rattle.mast_terms.specs.declared.term.Object.{Object}
use Rattle.mast_terms.specs.declared.term.Term.{Term}
use Rattle.mast_terms.specs.declared.term.Term.TheVariants as term
use Rattle.mast_terms.specs.declared.value.Kind.{Kind}
use Rattle.mast_terms.specs.declared.value.Kind.TheVariants as kind
use Rattle.mast_terms.specs.declared.value.Value.{Value}
use Rattle.mast_terms.specs.declared.value.Value.TheVariants as value

-- the terms that have numbers, and the symbols of objects that have, each list in the order of its numbers
pub record Numbered : Type 0 where
  pub symbols : List (List ℕ)
  pub terms : List Term

-- one number for each: two numbers of one term are one, and so of symbols
pub record HasOneEach (numbered : Numbered) : Type 0 where
  pub symbols : EachOnce numbered.symbols
  pub terms : EachOnce numbered.terms

-- a list after something was to stand in it: as it was, or with it behind the others
abbrev pub IsJoined : {X : Type 0} → List X → List X → X → Type 0
IsJoined before after x = (after ≡ before) ⊎ (after ≡ before ++ x ∷ [])

-- the value that a term is; of an object, any
abbrev pub value_of : Term → Value
value_of (term.Value v) = v
value_of (term.Object o) = value.Text []

-- the value of a number
abbrev pub value_at : List Term → ℕ → Value
value_at terms number = value_of (get_or terms number (term.Value (value.Text [])))

-- the number is that of a value
abbrev pub IsValueAt : List Term → ℕ → Type 0
IsValueAt terms number = (v : Value) × (slice_get terms number ≡ Some (term.Value v))

-- the object of the number of a symbol and the numbers of arguments
abbrev pub object_of : Numbered → ℕ → List ℕ → Object
object_of numbered symbol args =
    record { symbol = get_or numbered.symbols symbol []; args = map (value_at numbered.terms) args }

-- the kind of a value
abbrev pub kind_of : Value → Kind
kind_of (value.Int n) = kind.Integer
kind_of (value.Text t) = kind.Text
kind_of (value.Date d) = kind.Date

-- the kind of a term, where it is a value
abbrev pub term_kind : Term → Option Kind
term_kind (term.Value v) = Some (kind_of v)
term_kind (term.Object o) = None
