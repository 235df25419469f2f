-- What stands in a vocabulary: the names of axioms, and the names and constants of constraints.
use Rattle.std.specs.Prelude.{List, length}
use Rattle.std.specs.List.{AllByRecursion}
use Rattle.mast_terms.specs.Vocabularies.{Lists}
use Rattle.mast_tree.specs.Names.{StandsIn}
use Rattle.mast_cq.specs.UnifierMeanings.{IsBelow, KnownAtom}
use Rattle.mast_tbox.specs.declared.axiom.Inclusion.{Inclusion}
use Rattle.mast_tbox.specs.declared.axiom.Lined.{Lined}
use Rattle.mast_tbox.specs.declared.axiom.Negative.{Negative}
use Rattle.mast_tbox.specs.declared.constraint.Constraint.{Constraint}
use Rattle.mast_tbox.specs.declared.constraint.Constraint.TheVariants.{Functional, Identify, Deny}
use Rattle.mast_tbox.specs.declared.expression.Prop.{Prop}
use Rattle.mast_tbox.specs.Lists.{items}
use Rattle.mast_tbox.specs.Names.{PropNamed, InclusionNamed, NegativeNamed, ConstraintNamed}

-- the constants of a denial stand in the vocabulary
abbrev pub ConstantsStandIn : Lists → Constraint → Type 0
ConstantsStandIn lists (Functional p) = Unit {0}
ConstantsStandIn lists (Identify concept paths) = Unit {0}
ConstantsStandIn lists (Deny atoms) = AllByRecursion (KnownAtom (IsBelow (length lists.constants))) atoms

-- the names of the axioms are in range
pub record AxiomsInRange
    (lists : Lists) (inclusions : List (Lined Inclusion)) (negatives : List (Lined Negative)) (props : List (Lined Prop)) : Type 0 where
  pub of_inclusions : AllByRecursion (InclusionNamed (StandsIn lists)) (items inclusions)
  pub of_negatives : AllByRecursion (NegativeNamed (StandsIn lists)) (items negatives)
  pub of_functional : AllByRecursion (PropNamed (StandsIn lists)) (items props)

-- the names and the constants of the constraints are in range
pub record ConstraintsInRange (lists : Lists) (constraints : List (Lined Constraint)) : Type 0 where
  pub names : AllByRecursion (ConstraintNamed (StandsIn lists)) (items constraints)
  pub constants : AllByRecursion (ConstantsStandIn lists) (items constraints)
