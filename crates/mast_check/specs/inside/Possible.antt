-- Whether atoms can become true over the rows that take part, whatever their arguments.
use Rattle.std.specs.Prelude.{ℕ, Bool, true, false, List, Contains}
use Rattle.std.specs.List.{AllByRecursion}
use Rattle.mast_terms.specs.declared.term.Term.{Term}
use Rattle.mast_cq.specs.declared.atom.Arg.TheVariants.{Blank}
use Rattle.mast_cq.specs.declared.atom.Atom.{Atom}
use Rattle.mast_cq.specs.declared.atom.Atom.TheVariants.{Class, Role, Attr}
use Rattle.mast_join.specs.Extensions.{Over, IsMatchOf}
use Rattle.mast_check.specs.declared.possible.Possible.{Possible}

-- the atom with `_` for its arguments
abbrev pub unbound : Atom → Atom
unbound (Class a x) = Class a Blank
unbound (Role a x y) = Role a Blank Blank
unbound (Attr a x y) = Attr a Blank Blank

-- no assignment is a match of the atom
abbrev pub HasNoMatch : Over → Atom → Type 0
HasNoMatch over g = (under : ℕ → Term) → IsMatchOf over under g → ⊥

-- where it is told that it is not possible, the atom has no match
abbrev pub TellsPossible : Over → Atom → Bool → Type 0
TellsPossible over g true = Unit {0}
TellsPossible over g false = HasNoMatch over g

-- what is kept of atoms is right
abbrev pub IsPossible : Over → Possible → Type 0
IsPossible over possible = (g : Atom) (told : Bool) → Contains possible.known.entries (g, told) → TellsPossible over g told

-- where it is told that not all of the atoms are possible, one of them, with `_` for its arguments, has no match
abbrev pub TellsAllPossible : Over → List Atom → Bool → Type 0
TellsAllPossible over atoms true = Unit {0}
TellsAllPossible over atoms false = AllByRecursion (λ g. HasNoMatch over (unbound g) → ⊥) atoms → ⊥
