-- Limits of one violation and of some.
use Rattle.std.specs.Prelude.{◌≡◌, ◌+◌, ◌<◌, ◌≤◌, ◌⊎◌, length, List, [], ◌∷◌, Result}
use Rattle.std.specs.List.{AllByRecursion}
use Rattle.mast_terms.specs.Answers.{Answers}
use Rattle.mast_terms.specs.declared.memory.Stop.{Stop}
use Rattle.mast_canon.specs.Theories.{Theory}
use Rattle.mast_rewrite.specs.Rewritings.{most}
use Rattle.mast_violate.specs.declared.violation.TheConstants.{MOST_VIOLATIONS}
use Rattle.mast_violate.specs.declared.violation.Violation.{Violation}
use Rattle.mast_check.specs.declared.breach.CheckLimit.{CheckLimit}
use Rattle.mast_check.specs.declared.breach.CheckLimit.TheVariants as limit
use Rattle.mast_check.specs.Limits.{IsTooLarge, IsSmallEnough}

-- it is the limit of too many violations
abbrev pub IsOfMany : List Violation → CheckLimit → Type 0
IsOfMany list limit.Violations = MOST_VIOLATIONS < length list
IsOfMany list (limit.Closure origin count) = ⊥

-- the violation list, or the limit that it has too many
abbrev pub IsListedOrMany : List Violation → Result (List Violation) (Stop CheckLimit) → Type 0
IsListedOrMany list result = Answers result (λ told. (told ≡ list) × (length list ≤ MOST_VIOLATIONS)) (IsOfMany list)

-- it is the limit of this violation's closure
abbrev pub IsOfClosure : Theory → Violation → CheckLimit → Type 0
IsOfClosure theory v limit.Violations = ⊥
IsOfClosure theory v (limit.Closure origin count) = IsTooLarge theory v × ((v.origin ≡ origin) × (count ≡ most + 1))

-- the violation's closure is small enough, or it is its limit
abbrev pub IsItsLimit : {T : Type 0} → Theory → Violation → Result T (Stop CheckLimit) → Type 0
IsItsLimit theory v result = Answers result (λ fits. IsSmallEnough theory v) (IsOfClosure theory v)

-- it is the limit of the first of these whose closure is too large
abbrev pub IsOfFirst : Theory → List Violation → CheckLimit → Type 0
IsOfFirst theory [] its = ⊥
IsOfFirst theory (v ∷ vs) its = IsOfClosure theory v its ⊎ (IsSmallEnough theory v × IsOfFirst theory vs its)

-- all closures are small enough, or it is the limit of the first that isn't
abbrev pub AreAllSmall : Theory → List Violation → Result (Unit {0}) (Stop CheckLimit) → Type 0
AreAllSmall theory list result = Answers result (λ fits. AllByRecursion (IsSmallEnough theory) list) (IsOfFirst theory list)
