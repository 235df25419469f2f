-- What holds of every text of lines, and of the lines of tuples.
use Rattle.std.specs.Prelude.{◌≡◌, ⊤, true, ℕ, List, length}
use Rattle.std.specs.List.{AllByRecursion}
use Rattle.mast_terms.specs.declared.term.Term.{Term}
use Rattle.mast_terms.specs.declared.term.Term.TheVariants as t
use Rattle.mast_tree.specs.Constants.{is_identifier}
use Rattle.mast_write.specs.AnswerLines.{tuple_line}
use Rattle.mast_write.specs.LineText.{AreSame, IsTextOf, StandsIn}

-- each list of lines has a text
abbrev pub HaveText : Type 0
HaveText = (lines : List (List ℕ)) → (text : List ℕ) × IsTextOf (StandsIn lines) text

-- two lists with the same lines, in whatever order and however often, have the same text
abbrev pub HaveOneText : Type 0
HaveOneText =
    (lines others : List (List ℕ)) (text other : List ℕ) → AreSame (StandsIn lines) (StandsIn others)
    → IsTextOf (StandsIn lines) text → IsTextOf (StandsIn others) other → text ≡ other

-- a value, or an object whose symbol is an identifier
abbrev pub HasIdentifier : Term → Type 0
HasIdentifier (t.Value value) = ⊤
HasIdentifier (t.Object object) = is_identifier object.symbol ≡ true

-- two tuples of one width, whose object symbols are identifiers, have two lines, unless they are one
abbrev pub TuplesHaveLines : Type 0
TuplesHaveLines =
    (tuple other : List Term) → length tuple ≡ length other → AllByRecursion HasIdentifier tuple
    → AllByRecursion HasIdentifier other → tuple_line tuple ≡ tuple_line other → tuple ≡ other
