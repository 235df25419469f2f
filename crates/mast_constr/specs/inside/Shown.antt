-- How contracts see the variables that the code holds.
use Rattle.std.specs.Prelude.{ℕ, List, map}
use Rattle.mast_constr.specs.declared.variables.Sort.{Sort}
use Rattle.mast_constr.specs.declared.variables.Variable.{Variable}
use Rattle.mast_constr.specs.Variables.{Variables}

-- the name and the sort
abbrev pub shown_one : Variable → List ℕ × Sort
shown_one v = (v.name.now, v.sort)

-- of each
abbrev pub shown_all : List Variable → Variables
shown_all vs = map shown_one vs
