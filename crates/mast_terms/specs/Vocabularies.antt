-- Names and constants by number.
use Rattle.std.specs.Prelude.{◌≡◌, ℕ, ◌≤◌, ◌&&◌, Bool, true, false, not, nat_le, if◌then◌else◌, List, [], ◌∷◌, ◌++◌, length, slice_get, Option, Some, None}
use Rattle.std.specs.List.{list_any, position}
use Rattle.std.specs.Str.{bytes_eq}
use Rattle.mast_terms.specs.declared.name.AddRefusal.{AddRefusal}
use Rattle.mast_terms.specs.declared.name.AddRefusal.TheVariants as refusal
use Rattle.mast_terms.specs.declared.name.NameKind.{NameKind}
use Rattle.mast_terms.specs.declared.name.NameKind.TheVariants as kind
use Rattle.mast_terms.specs.declared.value.Value.{Value}
use Rattle.mast_terms.specs.contracts.value.ValuePartialEq.TheImpl as value_eq

-- a vocabulary: the IRIs of each kind and the constants, each list in the order of its numbers
pub record Lists : Type 0 where
  pub classes : List (List ℕ)
  pub roles : List (List ℕ)
  pub attributes : List (List ℕ)
  pub constants : List Value

-- the vocabulary of these lists
abbrev pub lists_of : List (List ℕ) → List (List ℕ) → List (List ℕ) → List Value → Lists
lists_of classes roles attributes constants =
    record { classes = classes; roles = roles; attributes = attributes; constants = constants }

-- how many names of a kind, and how many constants, there may be
abbrev pub capacity : ℕ
capacity = 65535

-- the IRIs of a kind
abbrev pub iris : Lists → NameKind → List (List ℕ)
iris lists kind.Class = lists.classes
iris lists kind.Role = lists.roles
iris lists kind.Attr = lists.attributes

-- whether an IRI is there
abbrev pub stands : List ℕ → List (List ℕ) → Bool
stands iri known = list_any (bytes_eq iri) known

-- the number of an IRI that is there
abbrev pub place : List ℕ → List (List ℕ) → Option ℕ
place iri known = position (bytes_eq iri) known

-- an IRI that is there keeps its number, and a new one has the next
abbrev pub joined : List ℕ → List (List ℕ) → List (List ℕ)
joined iri known = if stands iri known then known else known ++ iri ∷ []

-- the vocabulary in which an IRI is a name of a kind
abbrev pub with_iri : Lists → NameKind → List ℕ → Lists
with_iri lists kind.Class iri = lists_of (joined iri lists.classes) lists.roles lists.attributes lists.constants
with_iri lists kind.Role iri = lists_of lists.classes (joined iri lists.roles) lists.attributes lists.constants
with_iri lists kind.Attr iri = lists_of lists.classes lists.roles (joined iri lists.attributes) lists.constants

-- an IRI is to be a role and stands as an attribute, or the other way
abbrev pub stands_otherwise : Lists → NameKind → List ℕ → Bool
stands_otherwise lists kind.Class iri = false
stands_otherwise lists kind.Role iri = stands iri lists.attributes
stands_otherwise lists kind.Attr iri = stands iri lists.roles

-- it is new, and there is no number left
abbrev pub is_full : List ℕ → List (List ℕ) → Bool
is_full iri known = not (stands iri known) && nat_le capacity (length known)

-- the refusal that an IRI meets where no other kind stands in its way
abbrev pub refusal_of_new : List ℕ → List (List ℕ) → Option AddRefusal
refusal_of_new iri known = if is_full iri known then Some refusal.Full else None

-- why an IRI is not added as a name of a kind
abbrev pub refusal_of : Lists → NameKind → List ℕ → Option AddRefusal
refusal_of lists kind iri =
    if stands_otherwise lists kind iri then Some refusal.TwoKinds else refusal_of_new iri (iris lists kind)

-- whether two constants are one
abbrev pub same_value : Value → Value → Bool
same_value = value_eq.ghosts.eq

-- whether a constant is there
abbrev pub value_stands : Value → List Value → Bool
value_stands value constants = list_any (same_value value) constants

-- the number of a constant that is there
abbrev pub value_place : Value → List Value → Option ℕ
value_place value constants = position (same_value value) constants

-- a constant that is there keeps its number, and a new one has the next
abbrev pub joined_value : Value → List Value → List Value
joined_value value constants = if value_stands value constants then constants else constants ++ value ∷ []

-- the vocabulary in which a value is a constant
abbrev pub with_value : Lists → Value → Lists
with_value lists value = lists_of lists.classes lists.roles lists.attributes (joined_value value lists.constants)

-- why a value is not added as a constant
abbrev pub value_refusal : Value → List Value → Option AddRefusal
value_refusal value constants =
    if not (value_stands value constants) && nat_le capacity (length constants) then Some refusal.Full else None

-- each element once: two places of one element are one
abbrev pub EachOnce : {A : Type 0} → List A → Type 0
EachOnce {A} elements =
    (i j : ℕ) (element : A) → slice_get elements i ≡ Some element → slice_get elements j ≡ Some element → i ≡ j

-- no IRI is a role and an attribute
abbrev pub AreApart : List (List ℕ) → List (List ℕ) → Type 0
AreApart roles attributes = (iri : List ℕ) → stands iri roles ≡ true → stands iri attributes ≡ false

-- one number for each, of 16 bits
pub record IsNumbered {A : Type 0} (elements : List A) : Type 0 where
  pub once : EachOnce elements
  pub few : length elements ≤ capacity

-- what holds of every vocabulary
pub record IsVocabulary (lists : Lists) : Type 0 where
  pub classes : IsNumbered lists.classes
  pub roles : IsNumbered lists.roles
  pub attributes : IsNumbered lists.attributes
  pub constants : IsNumbered lists.constants
  pub apart : AreApart lists.roles lists.attributes
