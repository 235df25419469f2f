-- Atoms up to the names of their variables.
use Rattle.std.specs.Prelude.{ℕ, nat_eq, if◌then◌else◌, List, [], ◌∷◌}
use Rattle.mast_cq.specs.declared.atom.Arg.{Arg}
use Rattle.mast_cq.specs.declared.atom.Arg.TheVariants.{Blank, Var, Constant}
use Rattle.mast_cq.specs.declared.atom.Atom.{Atom}
use Rattle.mast_cq.specs.declared.atom.Atom.TheVariants.{Class, Role, Attr}

-- the arguments, from left to right; a class atom has one, and `_` for the other
abbrev pub arguments : Atom → Arg × Arg
arguments (Class a x) = (x, Blank)
arguments (Role a x y) = (x, y)
arguments (Attr a x y) = (x, y)

-- the variable of the first argument is named 0
abbrev pub first_shape : Arg → Arg
first_shape Blank = Blank
first_shape (Var x) = Var 0
first_shape (Constant c) = Constant c

-- that of the second is named 0 where it is that of the first or the first has none, else 1
abbrev pub second_shape : Arg → Arg → Arg
second_shape Blank y = first_shape y
second_shape (Constant c) y = first_shape y
second_shape (Var x) Blank = Blank
second_shape (Var x) (Constant c) = Constant c
second_shape (Var x) (Var y) = if nat_eq x y then Var 0 else Var 1

-- the atom with its variables named by the order in which they stand in it, from 0
abbrev pub shape : Atom → Atom
shape (Class a x) = Class a (first_shape x)
shape (Role a x y) = Role a (first_shape x) (second_shape x y)
shape (Attr a x y) = Attr a (first_shape x) (second_shape x y)

-- the variables of two arguments, each once, in order
abbrev pub variables_of : Arg → Arg → List ℕ
variables_of (Var x) (Var y) = if nat_eq x y then x ∷ [] else x ∷ y ∷ []
variables_of (Var x) Blank = x ∷ []
variables_of (Var x) (Constant c) = x ∷ []
variables_of Blank (Var y) = y ∷ []
variables_of Blank Blank = []
variables_of Blank (Constant d) = []
variables_of (Constant c) (Var y) = y ∷ []
variables_of (Constant c) Blank = []
variables_of (Constant c) (Constant d) = []

-- the variables of an atom, each once, in order
abbrev pub variables : Atom → List ℕ
variables (Class a x) = variables_of x Blank
variables (Role a x y) = variables_of x y
variables (Attr a x y) = variables_of x y
