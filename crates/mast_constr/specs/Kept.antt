-- What the constraints of a document keep.
use Rattle.std.specs.Prelude.{◌≤◌, length}
use Rattle.std.specs.List.{AllByRecursion}
use Rattle.mast_tbox.specs.declared.constraint.Constraint.{Constraint}
use Rattle.mast_tbox.specs.declared.constraint.Constraint.TheVariants.{Functional, Identify, Deny}
use Rattle.mast_tbox.specs.declared.constraint.Constraints.{Constraints}
use Rattle.mast_tbox.specs.ConstraintForms.{HaveForm}
use Rattle.mast_tbox.specs.Lists.{items}
use Rattle.mast_tbox.specs.Vocabularies.{ConstraintsInRange}

-- an identification has a path
abbrev pub HasPath : Constraint → Type 0
HasPath (Functional p) = Unit {0}
HasPath (Identify concept paths) = 1 ≤ length paths
HasPath (Deny atoms) = Unit {0}

-- their names and constants stand in their vocabulary, each has its form, and each identification a path
pub record AreKept (constraints : Constraints) : Type 0 where
  pub names : ConstraintsInRange constraints.vocab constraints.list
  pub formed : HaveForm constraints.list
  pub paths : AllByRecursion HasPath (items constraints.list)
