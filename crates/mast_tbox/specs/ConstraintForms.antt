-- The forms of constraints: the sizes of denials and identifications, and what stands in a path.
use Rattle.std.specs.Prelude.{ℕ, ◌+◌, ◌≤◌, List, [], ◌∷◌, length}
use Rattle.std.specs.List.{AllByRecursion}
use Rattle.mast_cq.specs.declared.atom.Atom.{Atom}
use Rattle.mast_cq.specs.Sorts.{EachHasOneSort}
use Rattle.mast_tbox.specs.declared.axiom.Lined.{Lined}
use Rattle.mast_tbox.specs.declared.constraint.Constraint.{Constraint}
use Rattle.mast_tbox.specs.declared.constraint.Constraint.TheVariants.{Functional, Identify, Deny}
use Rattle.mast_tbox.specs.declared.constraint.Step.{Step}
use Rattle.mast_tbox.specs.declared.constraint.Step.TheVariants.{Role, Test, Attr}
use Rattle.mast_tbox.specs.declared.constraint.TheConstants.{MOST_ATOMS}
use Rattle.mast_tbox.specs.Lists.{items}
use Rattle.mast_tbox.specs.Restrictions.{along}

-- a denial has some atoms, not too many, and no sort breach
pub record IsDenial (atoms : List Atom) : Type 0 where
  pub some : 1 ≤ length atoms
  pub few : length atoms ≤ MOST_ATOMS
  pub sorts : EachHasOneSort atoms

-- no step comes after an attribute
abbrev pub IsAttributeLast : List Step → Type 0
IsAttributeLast [] = Unit {0}
IsAttributeLast (Role r ∷ steps) = IsAttributeLast steps
IsAttributeLast (Test a ∷ steps) = IsAttributeLast steps
IsAttributeLast (Attr u ∷ []) = Unit {0}
IsAttributeLast (Attr u ∷ (step ∷ steps)) = ⊥

-- a path has a role or an attribute, and an attribute only as its last step
pub record HasPathForm (steps : List Step) : Type 0 where
  pub long : 1 ≤ length (along steps)
  pub last : IsAttributeLast steps

-- how many steps the paths have together
abbrev pub steps_together : List (List Step) → ℕ
steps_together [] = 0
steps_together (path ∷ paths) = length path + steps_together paths

-- how many steps the paths of an identification may have together
abbrev pub most_steps : ℕ
most_steps = 11

-- an identification has paths with not too many steps in all
pub record IsIdentification (paths : List (List Step)) : Type 0 where
  pub few : steps_together paths ≤ most_steps
  pub paths_are : AllByRecursion HasPathForm paths

-- a constraint has the form of its kind
abbrev pub HasForm : Constraint → Type 0
HasForm (Functional p) = Unit {0}
HasForm (Identify concept paths) = IsIdentification paths
HasForm (Deny atoms) = IsDenial atoms

-- each constraint has
abbrev pub HaveForm : List (Lined Constraint) → Type 0
HaveForm constraints = AllByRecursion HasForm (items constraints)
