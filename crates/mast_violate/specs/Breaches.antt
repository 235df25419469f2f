-- Breaches: certain answers of violation queries that pass their tests.
use Rattle.std.specs.Prelude.{◌≡◌, ◌≢◌, ◌↔◌, List, slice_get, Some, Bool, true}
use Rattle.mast_terms.specs.declared.term.Term.{Term}
use Rattle.mast_terms.specs.declared.term.Term.TheVariants as term
use Rattle.mast_terms.specs.declared.value.Value.{Value}
use Rattle.mast_tables.specs.Whole.{value_kind}
use Rattle.mast_cq.specs.Meanings.{Fact}
use Rattle.mast_cq.specs.Queries.{In}
use Rattle.mast_tbox.specs.declared.axiom.Lined.{Lined}
use Rattle.mast_tbox.specs.declared.constraint.Constraint.{Constraint}
use Rattle.mast_tbox.specs.declared.tbox.TBox.{TBox}
use Rattle.mast_canon.specs.declared.origin.Origin.{Origin}
use Rattle.mast_canon.specs.CertainAnswers.{Certain}
use Rattle.mast_canon.specs.NoModels.{By}
use Rattle.mast_canon.specs.Theories.{Theory}
use Rattle.mast_violate.specs.declared.violation.Test.{Test}
use Rattle.mast_violate.specs.declared.violation.Test.TheVariants.{Plain, Differ, KindNot}
use Rattle.mast_violate.specs.declared.violation.Violation.{Violation}
use Rattle.mast_violate.specs.ViolationLists.{violations}

-- the tuple passes the test: the terms at the two places differ, or the term at the place is a value of another kind
abbrev pub Passes : Test → List Term → Type 0
Passes Plain tuple = Unit {0}
Passes (Differ left right) tuple = slice_get tuple left ≢ slice_get tuple right
Passes (KindNot place kind) tuple =
    (v : Value) × ((slice_get tuple place ≡ Some (term.Value v)) × (value_kind v ≢ kind))

-- a certain answer of the violation's query passes its test
pub record IsBreached (theory : Theory) (F : Fact Term → Type 0) (v : Violation) : Type 0 where
  pub tuple : List Term
  pub certain : Certain theory F v.query tuple
  pub passes : Passes v.test tuple

-- some violation of the list with this origin is breached
pub record SomeIsBreached (theory : Theory) (F : Fact Term → Type 0) (list : List Violation) (where_from : Origin) : Type 0 where
  pub violation : Violation
  pub stands : In violation list
  pub has_origin : violation.origin ≡ where_from
  pub breached : IsBreached theory F violation

-- the violation list of a theory
abbrev pub violations_of : Theory → List Violation
violations_of theory = violations theory.inclusions theory.negatives theory.functional theory.constraints

-- violation queries are breaches: what has an origin is broken exactly where some violation of that origin is breached
abbrev pub AreBreaches : (Fact Term → Type 0) → Theory → List Violation → Type 0
AreBreaches F theory list = (where_from : Origin) → By theory F where_from ↔ SomeIsBreached theory F list where_from

-- by each theory with these axioms and constraints, over each set of facts that a test gives, the list's violations are breaches
abbrev pub GiveBreaches : TBox → List (Lined Constraint) → List Violation → Type 0
GiveBreaches tbox constraints list = (theory : Theory) (facts : Fact Term → Bool)
    → theory.inclusions ≡ tbox.inclusions → theory.negatives ≡ tbox.negatives → theory.functional ≡ tbox.functional
    → theory.constraints ≡ constraints → AreBreaches (λ f. facts f ≡ true) theory list
