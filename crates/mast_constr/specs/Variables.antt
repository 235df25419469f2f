-- The variables of a denial: `?` and an identifier, numbered in the order in which they first stand.
use Rattle.std.specs.Prelude.{◌≡◌, ℕ, ◌==◌, ◌&&◌, Bool, if◌then◌else◌, List, [], ◌∷◌, Option, Some, None, slice_get}
use Rattle.std.specs.Str.{bytes_eq}
use Rattle.mast_cq.specs.declared.atom.Arg.{Arg}
use Rattle.mast_cq.specs.declared.atom.Arg.TheVariants as arg
use Rattle.mast_tree.specs.declared.shape.ShapeKind.TheVariants.{Shape, SortClash}
use Rattle.mast_tree.specs.Constants.{is_identifier}
use Rattle.mast_tree.specs.Judgements.{Judgement, breaks}
use Rattle.mast_tree.specs.Said.{Said, name}
use Rattle.mast_constr.specs.declared.variables.Sort.{Sort}
use Rattle.mast_constr.specs.declared.variables.Sort.TheVariants.{Object, Value}

-- the question mark
abbrev pub question : ℕ
question = 0x3F

-- the name of a variable, behind its `?`
abbrev pub variable_in : List ℕ → Option (List ℕ)
variable_in [] = None
variable_in (b ∷ bs) = if b == question && is_identifier bs then Some bs else None

-- the name of the variable that an item is, if it is one
abbrev pub variable : Said → Option (List ℕ)
variable (name word at) = variable_in word
variable other = None

-- places of variables in their order, each with its sort; or variables by their numbers, each with the sort of its first place
abbrev pub Variables : Type 0
Variables = List (List ℕ × Sort)

-- a place of this sort, if a variable stands in it
abbrev pub place : Sort → Option (List ℕ) → Variables
place sort None = []
place sort (Some x) = (x, sort) ∷ []

-- two places have the same variable
abbrev pub same_name : List ℕ × Sort → List ℕ × Sort → Bool
same_name v w = bytes_eq v.0 w.0

-- the sort of the first place of a variable among some places
abbrev pub sort_of : List ℕ → Variables → Option Sort
sort_of x [] = None
sort_of x (v ∷ vs) = if bytes_eq x v.0 then Some v.1 else sort_of x vs

-- a place of this sort, of a variable that first stands in a place of that sort
abbrev pub sort_judged : Sort → Option Sort → ℕ → List Judgement
sort_judged sort None at = []
sort_judged Object (Some Object) at = []
sort_judged Object (Some Value) at = breaks SortClash at ∷ []
sort_judged Value (Some Object) at = breaks SortClash at ∷ []
sort_judged Value (Some Value) at = []

-- what is judged of a variable in a place of this sort, behind these places, at a line
abbrev pub variable_judged : Sort → Variables → Option (List ℕ) → ℕ → List Judgement
variable_judged sort before None at = breaks Shape at ∷ []
variable_judged sort before (Some x) at = sort_judged sort (sort_of x before) at

-- the argument is the variable, by its number, and its places have this sort
abbrev pub IsVariable : Sort → Variables → Option (List ℕ) → Arg → Type 0
IsVariable sort known found arg.Blank = ⊥
IsVariable sort known found (arg.Var n) = (x : List ℕ) × (found ≡ Some x) × (slice_get known n ≡ Some (x, sort))
IsVariable sort known found (arg.Constant n) = ⊥
