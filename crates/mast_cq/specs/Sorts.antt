-- Sorts: which arguments stand for objects and which for values.
use Rattle.std.specs.Prelude.{◌≡◌, List, [], ◌∷◌, ◌++◌, ◌⊎◌, Option, MatchOption}
use Rattle.mast_cq.specs.declared.atom.Arg.{Arg}
use Rattle.mast_cq.specs.declared.atom.Arg.TheVariants.{Blank, Var, Constant}
use Rattle.mast_cq.specs.declared.atom.Atom.{Atom}
use Rattle.mast_cq.specs.declared.atom.Atom.TheVariants.{Class, Role, Attr}
use Rattle.mast_cq.specs.declared.sorts.SortClash.{SortClash}
use Rattle.mast_cq.specs.Queries.{In}

-- the arguments of an atom in object places
abbrev pub objects_of : Atom → List Arg
objects_of (Class a x) = x ∷ []
objects_of (Role a x y) = x ∷ y ∷ []
objects_of (Attr a x y) = x ∷ []

-- the arguments of an atom in value places
abbrev pub values_of : Atom → List Arg
values_of (Class a x) = []
values_of (Role a x y) = []
values_of (Attr a x y) = y ∷ []

-- the arguments of an atom from left to right
abbrev pub arguments_of : Atom → List Arg
arguments_of (Class a x) = x ∷ []
arguments_of (Role a x y) = x ∷ y ∷ []
arguments_of (Attr a x y) = x ∷ y ∷ []

-- what the function gives of each atom, in their order
abbrev pub of_all : (Atom → List Arg) → List Atom → List Arg
of_all f [] = []
of_all f (g ∷ gs) = f g ++ of_all f gs

-- the arguments of the atoms, in their order
abbrev pub all_arguments : List Atom → List Arg
all_arguments atoms = of_all arguments_of atoms

-- the argument stands in an object place, and in a value place too or is a constant; `_` never clashes
abbrev pub Clashes : List Atom → Arg → Type 0
Clashes atoms Blank = ⊥
Clashes atoms (Var x) = In (Var x) (of_all objects_of atoms) × In (Var x) (of_all values_of atoms)
Clashes atoms (Constant c) = In (Constant c) (of_all objects_of atoms)

-- each argument has one sort
abbrev pub EachHasOneSort : List Atom → Type 0
EachHasOneSort atoms = (x : Arg) → In x (all_arguments atoms) → Clashes atoms x → ⊥

-- the first element of the list for which P holds
abbrev pub IsFirst : {X : Type 0} → (X → Type 0) → List X → X → Type 0
IsFirst P [] x = ⊥
IsFirst P (y ∷ ys) x = ((x ≡ y) × P y) ⊎ ((P y → ⊥) × IsFirst P ys x)

-- the first argument that clashes, in the order in which the atoms stand and from left to right
abbrev pub IsSortBreach : List Atom → Arg → Type 0
IsSortBreach atoms x = IsFirst (Clashes atoms) (all_arguments atoms) x

-- what may be said of the atoms' sorts: nothing where each argument has one sort, else the breach
abbrev pub IsSortAnswer : List Atom → Option SortClash → Type 0
IsSortAnswer atoms said = MatchOption said (EachHasOneSort atoms) (λ clash. IsSortBreach atoms clash.arg)

-- there is something that may be said
pub record HasSortAnswer (atoms : List Atom) : Type 0 where
  pub said : Option SortClash
  pub is : IsSortAnswer atoms said

-- and nothing else
abbrev pub HasOneSortAnswer : List Atom → Type 0
HasOneSortAnswer atoms = (said other : Option SortClash) → IsSortAnswer atoms said → IsSortAnswer atoms other → said ≡ other
