-- Calls on the pieces of a list, and their answers.
use Rattle.std.specs.Prelude.{List, Result, Ok, Contains}
use Rattle.std.specs.Fn.{FnReturnsAt}
use Rattle.std.specs.List.{AllZip}
use denote.Param.Members.{Shared}
use denote.Ref.{Bor}
use Rattle.mast_terms.specs.declared.memory.NoMemory.{NoMemory}

-- f may be called on each of the pieces
abbrev pub TakesAll : {F T R : Type 0} → Shared F (Bor T × Unit {0}) R → F → List T → Type 0
TakesAll {F} {T} g f pieces = (p : Bor T) → Contains pieces p.now → g.pre f (p, tt)

-- there are as many answers as pieces, and each is one that f may give of the piece at its place
abbrev pub GivesAll :
    {F T U : Type 0} → Shared F (Bor T × Unit {0}) (Result U NoMemory) → F → List T → List U → Type 0
GivesAll g f pieces answers = AllZip (λ piece answer. FnReturnsAt g f piece (Ok answer)) pieces answers
