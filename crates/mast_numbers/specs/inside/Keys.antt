-- What stands for a term among those that have numbers.
use Rattle.std.specs.Prelude.{◌≡◌, ℕ, ◌<◌, ◌≤◌, List, [], map, length, slice_get, get_or, Some}
use Rattle.std.specs.List.{AllByRecursion}
use Rattle.mast_terms.specs.Vocabularies.{EachOnce}
use Rattle.mast_terms.specs.declared.term.Term.{Term}
use Rattle.mast_terms.specs.declared.term.Term.TheVariants as term
use Rattle.mast_terms.specs.declared.value.Value.{Value}
use Rattle.mast_terms.specs.declared.value.Value.TheVariants as value
use Rattle.mast_numbers.specs.declared.key.Key.{Key}
use Rattle.mast_numbers.specs.declared.key.Key.TheVariants as key

-- the value of a key; of an object, any
abbrev pub key_value : Key → Value
key_value (key.Value v) = v
key_value (key.Object symbol args) = value.Text []

-- the value of the key at a place
abbrev pub value_in : List Key → ℕ → Value
value_in keys place = key_value (get_or keys place (key.Value (value.Text [])))

-- the term that a key stands for
abbrev pub term_of : List (List ℕ) → List Key → Key → Term
term_of symbols keys (key.Value v) = term.Value v
term_of symbols keys (key.Object symbol args) =
    term.Object (record { symbol = get_or symbols symbol []; args = map (value_in keys) args })

-- the terms of all keys
abbrev pub terms_of : List (List ℕ) → List Key → List Term
terms_of symbols keys = map (term_of symbols keys) keys

-- a value's key stands at the place
abbrev pub HasValue : List Key → ℕ → Type 0
HasValue keys place = (v : Value) × (slice_get keys place ≡ Some (key.Value v))

-- what a key refers to is there
abbrev pub Refers : List (List ℕ) → List Key → Key → Type 0
Refers symbols keys (key.Value v) = Unit {0}
Refers symbols keys (key.Object symbol args) = (symbol < length symbols) × AllByRecursion (HasValue keys) args

-- the greatest number of terms, and of symbols
abbrev pub most_terms : ℕ
most_terms = 4294967295

-- symbols and keys, each once, and what each key refers to is there
pub record AreKeys (symbols : List (List ℕ)) (keys : List Key) : Type 0 where
  pub symbols_once : EachOnce symbols
  pub keys_once : EachOnce keys
  pub refer : AllByRecursion (Refers symbols keys) keys
  pub few_symbols : length symbols ≤ most_terms
  pub few_keys : length keys ≤ most_terms
