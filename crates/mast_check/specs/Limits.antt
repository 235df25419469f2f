-- The limits of a check: how many violations there may be, and how many members the closure of each.
use Rattle.std.specs.Prelude.{◌≡◌, ℕ, ◌+◌, ◌<◌, ◌≤◌, length, List, ◌∷◌, ◌++◌}
use Rattle.std.specs.List.{AllByRecursion}
use Rattle.mast_canon.specs.declared.origin.Origin.{Origin}
use Rattle.mast_canon.specs.declared.spec.Spec.{Spec}
use Rattle.mast_canon.specs.Theories.{Theory, theory_of}
use Rattle.mast_rewrite.specs.Rewritings.{most, HasMoreThan, Members}
use Rattle.mast_violate.specs.declared.violation.TheConstants.{MOST_VIOLATIONS}
use Rattle.mast_violate.specs.declared.violation.Violation.{Violation}
use Rattle.mast_violate.specs.Breaches.{violations_of}
use Rattle.mast_check.specs.declared.breach.CheckLimit.{CheckLimit}
use Rattle.mast_check.specs.declared.breach.CheckLimit.TheVariants as limit

-- the closure of the violation's query has more members than it may have
abbrev pub IsTooLarge : Theory → Violation → Type 0
IsTooLarge theory v = HasMoreThan most (Members theory v.query)

-- it has not
abbrev pub IsSmallEnough : Theory → Violation → Type 0
IsSmallEnough theory v = IsTooLarge theory v → ⊥

-- there are no more violations than there may be, and no closure has more members
pub record HasNoLimit (theory : Theory) : Type 0 where
  pub few : length (violations_of theory) ≤ MOST_VIOLATIONS
  pub closures : AllByRecursion (IsSmallEnough theory) (violations_of theory)

-- the first of some violations whose closure is too large has this origin; so many members were counted, one more than there may be
pub record IsFirstTooLarge (theory : Theory) (list : List Violation) (origin : Origin) (count : ℕ) : Type 0 where
  pub before : List Violation
  pub violation : Violation
  pub after : List Violation
  pub parted : list ≡ before ++ violation ∷ after
  pub smaller : AllByRecursion (IsSmallEnough theory) before
  pub larger : IsTooLarge theory violation
  pub of_origin : violation.origin ≡ origin
  pub counted : count ≡ most + 1

-- the first limit of a theory: too many violations, and else the first closure that is too large
abbrev pub HasFirstLimit : Theory → CheckLimit → Type 0
HasFirstLimit theory limit.Violations = MOST_VIOLATIONS < length (violations_of theory)
HasFirstLimit theory (limit.Closure origin count) =
    (length (violations_of theory) ≤ MOST_VIOLATIONS) × IsFirstTooLarge theory (violations_of theory) origin count

-- a specification meets no limit
abbrev pub MeetsNoLimit : Spec → Type 0
MeetsNoLimit spec = HasNoLimit (theory_of spec)

-- the first limit that a specification meets
abbrev pub IsFirstLimit : Spec → CheckLimit → Type 0
IsFirstLimit spec limit = HasFirstLimit (theory_of spec) limit
