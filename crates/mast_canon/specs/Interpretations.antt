-- Interpretations: relations for the names, kinds, names of terms, and fillers.
use Rattle.std.specs.Prelude.{◌≡◌, ℕ, Bool, true, List, map, Option}
use Rattle.mast_terms.specs.declared.name.Name.{Name}
use Rattle.mast_terms.specs.declared.term.Term.{Term}
use Rattle.mast_terms.specs.declared.value.Kind.{Kind}
use Rattle.mast_cq.specs.declared.query.Cq.{Cq}
use Rattle.mast_cq.specs.Meanings.{Fact, InClass, InRole, InAttr, HasTuple}
use Rattle.mast_canon.specs.Theories.{Theory, constant_of}

-- over elements of some kind: which are in each class, which pairs in each role and attribute, the kind of an element that is a value, the
-- element that each term names, and a filler for each number of an existential inclusion and each element
pub record Interpretation (X : Type 0) : Type 1 where
  pub class : Name → X → Type 0
  pub role : Name → X → X → Type 0
  pub attr : Name → X → X → Type 0
  pub kind : X → Option Kind
  pub named : Term → X
  pub fill : ℕ → X → X

-- the fact is true
abbrev pub IsTrue : {X : Type 0} → Interpretation X → Fact X → Type 0
IsTrue w (InClass a t) = w.class a t
IsTrue w (InRole p t u) = w.role p t u
IsTrue w (InAttr u t v) = w.attr u t v

-- the element that a constant of the theory stands for
abbrev pub constant_by : {X : Type 0} → Interpretation X → Theory → ℕ → X
constant_by w theory c = w.named (constant_of theory.constants c)

-- the tuple of named terms is an answer of the query
abbrev pub IsAnswer : {X : Type 0} → Interpretation X → Theory → Cq → List Term → Type 0
IsAnswer w theory q tuple = HasTuple (constant_by w theory) (IsTrue w) q (map w.named tuple)

-- an interpretation whose relations are decided
pub record DecidedInterpretation (X : Type 0) : Type 0 where
  pub class : Name → X → Bool
  pub role : Name → X → X → Bool
  pub attr : Name → X → X → Bool
  pub kind : X → Option Kind
  pub named : Term → X
  pub fill : ℕ → X → X

-- as an interpretation
abbrev pub decided : {X : Type 0} → DecidedInterpretation X → Interpretation X
decided d = record {
  class = λ a t. d.class a t ≡ true;
  role = λ p t u. d.role p t u ≡ true;
  attr = λ u t v. d.attr u t v ≡ true;
  kind = d.kind;
  named = d.named;
  fill = d.fill;
}
