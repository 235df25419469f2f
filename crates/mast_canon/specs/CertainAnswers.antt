-- Certain answers of a query over facts, and the tuples that it has through Down.
use Rattle.std.specs.Prelude.{ℕ, List, map}
use Rattle.std.specs.List.{AllByRecursion}
use Rattle.mast_terms.specs.declared.term.Term.{Term}
use Rattle.mast_cq.specs.declared.atom.Atom.{Atom}
use Rattle.mast_cq.specs.declared.query.Cq.{Cq}
use Rattle.mast_cq.specs.Meanings.{Fact, Gives, MetBy, HasTuple}
use Rattle.mast_tbox.specs.declared.axiom.Inclusion.{Inclusion}
use Rattle.mast_tbox.specs.Closure.{Down}
use Rattle.mast_tbox.specs.Inclusions.{normal}
use Rattle.mast_canon.specs.Derivations.{Holds}
use Rattle.mast_canon.specs.Elements.{Element, Named}
use Rattle.mast_canon.specs.Theories.{Theory, stated, constant_of}

-- the facts that hold by the theory, where those of F are given
abbrev pub HoldsBy : Theory → (Fact Term → Type 0) → Fact Element → Type 0
HoldsBy theory F = Holds (stated theory) F

-- the element that a constant of the theory stands for
abbrev pub constant_in : Theory → ℕ → Element
constant_in theory c = Named (constant_of theory.constants c)

-- Certain(F, q): the query has the tuple of named terms over the facts that hold
abbrev pub Certain : Theory → (Fact Term → Type 0) → Cq → List Term → Type 0
Certain theory F q tuple = HasTuple (constant_in theory) (HoldsBy theory F) q (map Named tuple)

-- some member of Down of the atom is a fact with P under the assignment
pub record MetThrough {X : Type 0} (tbox : List Inclusion) (constant : ℕ → X) (P : Fact X → Type 0) (s : ℕ → X) (g : Atom) : Type 0 where
  pub member : Atom
  pub below : Down tbox g member
  pub met : MetBy constant P s member

-- the query has the tuple over the facts with P through Down: some assignment makes its answer list the tuple, and a member of Down of each atom a fact
pub record HasThrough {X : Type 0} (tbox : List Inclusion) (constant : ℕ → X) (P : Fact X → Type 0) (q : Cq) (tuple : List X) : Type 0 where
  pub under : ℕ → X
  pub each : AllByRecursion (MetThrough tbox constant P under) q.atoms
  pub answers : Gives constant under q.answer tuple

-- the query has the tuple in F through Down, by the normal inclusions
abbrev pub ThroughDown : Theory → (Fact Term → Type 0) → Cq → List Term → Type 0
ThroughDown theory F q tuple = HasThrough (normal (stated theory)) (constant_of theory.constants) F q tuple
