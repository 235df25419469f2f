-- What is made once of a specification.
use Rattle.std.specs.Prelude.{◌≡◌, List}
use Rattle.mast_canon.specs.declared.spec.Spec.{Spec}
use Rattle.mast_canon.specs.Theories.{theory_of}
use Rattle.mast_join.specs.Extensions.{unfolding_by}
use Rattle.mast_unfold.specs.Sources.{Unfolding}
use Rattle.mast_violate.specs.declared.violation.Violation.{Violation}
use Rattle.mast_violate.specs.Breaches.{violations_of}

-- the unfolder and the violation list of the specification
pub record IsMadeOf (spec : Spec) (unfolder : Unfolding) (list : List Violation) : Type 0 where
  pub unfolds : unfolder ≡ unfolding_by spec
  pub lists : list ≡ violations_of (theory_of spec)
