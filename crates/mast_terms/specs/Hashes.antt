-- What a hasher is fed of names, values, terms and lists, and that it tells each from every other.
use Rattle.std.specs.Prelude.{◌≡◌, ℕ, ◌<◌, ◌^◌, List, ◌++◌, length, IsUtf8, FitsSigned, ⊤}
use Rattle.std.specs.Hash.{HashWrites}
use Rattle.std.specs.Int.{w64}
use Rattle.std.specs.List.{AllByRecursion, flat_map}
use Rattle.mast_terms.specs.declared.name.Name.{Name}
use Rattle.mast_terms.specs.declared.term.Object.{Object}
use Rattle.mast_terms.specs.declared.term.Term.{Term}
use Rattle.mast_terms.specs.declared.term.Term.TheVariants as t
use Rattle.mast_terms.specs.declared.value.Value.{Value}
use Rattle.mast_terms.specs.declared.value.Value.TheVariants as v

-- the bytes that a hasher is fed, write after write
abbrev pub fed_bytes : HashWrites → List ℕ
fed_bytes writes = flat_map (λ bytes. bytes) writes

-- the bytes fed of a, and whatever is fed behind, are those fed of b only where a is b and the same is fed behind
abbrev pub IsTold : {A : Type 0} → (A → HashWrites) → A → A → Type 0
IsTold input a b =
    (more others : List ℕ) → fed_bytes (input a) ++ more ≡ fed_bytes (input b) ++ others → (a ≡ b) × (more ≡ others)

-- of all that fits, none is fed as another is, nor as the front of another
abbrev pub TellsApart : {A : Type 0} → (A → Type 0) → (A → HashWrites) → Type 0
TellsApart {A} Fits input = (a b : A) → Fits a → Fits b → IsTold input a b

-- what fits is what can stand in memory: of some types all
abbrev pub FitsAlways : {A : Type 0} → A → Type 0
FitsAlways a = ⊤

-- a number of 32 bits
abbrev pub FitsName : Name → Type 0
FitsName name = name.0 < 2 ^ 32

-- an integer of 64 bits, a text in UTF-8, any date
abbrev pub FitsValue : Value → Type 0
FitsValue (v.Int number) = FitsSigned w64 number
FitsValue (v.Text text) = IsUtf8 text
FitsValue (v.Date date) = ⊤

-- fewer than 2^64 elements, each of which fits
abbrev pub FitsList : {A : Type 0} → (A → Type 0) → List A → Type 0
FitsList Fits elements = (length elements < 2 ^ 64) × AllByRecursion Fits elements

-- a symbol in UTF-8, and arguments that fit
abbrev pub FitsObject : Object → Type 0
FitsObject object = IsUtf8 object.symbol × FitsList FitsValue object.args

-- a value or an object that fits
abbrev pub FitsTerm : Term → Type 0
FitsTerm (t.Value value) = FitsValue value
FitsTerm (t.Object object) = FitsObject object

-- each element of one list is told from each of the other
abbrev pub AreTold : {A : Type 0} → (A → HashWrites) → List A → List A → Type 0
AreTold input xs ys = AllByRecursion (λ x. AllByRecursion (IsTold input x) ys) xs

-- what tells elements apart tells lists of fewer than 2^64 of them
abbrev pub TellsLists : {A : Type 0} → (A → HashWrites) → (List A → HashWrites) → Type 0
TellsLists {A} input lists =
    (xs ys : List A) → length xs < 2 ^ 64 → length ys < 2 ^ 64 → AreTold input xs ys → IsTold lists xs ys
