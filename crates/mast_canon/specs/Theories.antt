-- Theories: what a specification says apart from its tables and mappings.
use Rattle.std.specs.Prelude.{ℕ, List, [], get_or}
use Rattle.mast_terms.specs.declared.term.Term.{Term}
use Rattle.mast_terms.specs.declared.term.Term.TheVariants as term
use Rattle.mast_terms.specs.declared.value.Value.{Value}
use Rattle.mast_terms.specs.declared.value.Value.TheVariants as value
use Rattle.mast_tbox.specs.declared.axiom.Inclusion.{Inclusion}
use Rattle.mast_tbox.specs.declared.axiom.Lined.{Lined}
use Rattle.mast_tbox.specs.declared.axiom.Negative.{Negative}
use Rattle.mast_tbox.specs.declared.constraint.Constraint.{Constraint}
use Rattle.mast_tbox.specs.declared.expression.Prop.{Prop}
use Rattle.mast_tbox.specs.Lists.{items}
use Rattle.mast_canon.specs.declared.spec.Spec.{Spec}

-- the axioms of an ontology, the constraints, each with its line, and the values of the constants by number
pub record Theory : Type 0 where
  pub inclusions : List (Lined Inclusion)
  pub negatives : List (Lined Negative)
  pub functional : List (Lined Prop)
  pub constraints : List (Lined Constraint)
  pub constants : List Value

-- the theory of a specification
abbrev pub theory_of : Spec → Theory
theory_of spec = record {
  inclusions = spec.tbox.inclusions;
  negatives = spec.tbox.negatives;
  functional = spec.tbox.functional;
  constraints = spec.constraints;
  constants = spec.vocab.constants;
}

-- the positive inclusions, among them the ranges, from which no fact follows
abbrev pub stated : Theory → List Inclusion
stated theory = items theory.inclusions

-- the value that a constant stands for; a number that none has stands for the empty text
abbrev pub constant_of : List Value → ℕ → Term
constant_of constants c = term.Value (get_or constants c (value.Text []))
