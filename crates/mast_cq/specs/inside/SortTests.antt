-- The tests by which the program finds a sort breach.
use Rattle.std.specs.Prelude.{List, [], ◌∷◌, Bool, true, false, nat_eq, ◌&&◌, ◌||◌, Option, Some, None, if◌then◌else◌}
use Rattle.mast_cq.specs.declared.atom.Arg.{Arg}
use Rattle.mast_cq.specs.declared.atom.Arg.TheVariants.{Blank, Var, Constant}
use Rattle.mast_cq.specs.declared.atom.Atom.{Atom}
use Rattle.mast_cq.specs.Queries.{or_else}
use Rattle.mast_cq.specs.Sorts.{objects_of, values_of, arguments_of}

-- the arguments are one
abbrev pub same_arg : Arg → Arg → Bool
same_arg Blank Blank = true
same_arg Blank (Var y) = false
same_arg Blank (Constant d) = false
same_arg (Var x) Blank = false
same_arg (Var x) (Var y) = nat_eq x y
same_arg (Var x) (Constant d) = false
same_arg (Constant c) Blank = false
same_arg (Constant c) (Var y) = false
same_arg (Constant c) (Constant d) = nat_eq c d

-- the argument stands in the list
abbrev pub stands : Arg → List Arg → Bool
stands x [] = false
stands x (y ∷ ys) = same_arg x y || stands x ys

-- the argument stands in some atom, at the places that the function gives
abbrev pub stands_in : (Atom → List Arg) → Arg → List Atom → Bool
stands_in f x [] = false
stands_in f x (g ∷ gs) = stands x (f g) || stands_in f x gs

-- the argument clashes
abbrev pub clashes : List Atom → Arg → Bool
clashes atoms Blank = false
clashes atoms (Var x) = stands_in objects_of (Var x) atoms && stands_in values_of (Var x) atoms
clashes atoms (Constant c) = stands_in objects_of (Constant c) atoms

-- the first of the list that passes the test
abbrev pub first_where : (Arg → Bool) → List Arg → Option Arg
first_where p [] = None
first_where p (x ∷ xs) = if p x then Some x else first_where p xs

-- the first argument of the atoms that passes the test
abbrev pub first_in : (Arg → Bool) → List Atom → Option Arg
first_in p [] = None
first_in p (g ∷ gs) = or_else (first_where p (arguments_of g)) (first_in p gs)
