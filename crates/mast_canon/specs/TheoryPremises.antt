-- What the laws of derivations and worlds ask of theories and of facts; each specification and its facts have it.
use Rattle.std.specs.Prelude.{◌≡◌, None}
use Rattle.std.specs.List.{AllByRecursion}
use Rattle.mast_terms.specs.declared.term.Object.{Object}
use Rattle.mast_terms.specs.declared.term.Term.{Term}
use Rattle.mast_terms.specs.declared.term.Term.TheVariants as term
use Rattle.mast_terms.specs.declared.value.Value.{Value}
use Rattle.mast_cq.specs.declared.query.Cq.{Cq}
use Rattle.mast_cq.specs.Meanings.{Fact, InClass, InRole, InAttr}
use Rattle.mast_cq.specs.Origins.{Named}
use Rattle.mast_tbox.specs.Names.{AreInRange, InRange, IsStatable}
use Rattle.mast_tbox.specs.Numbers.{IsNumbered}
use Rattle.mast_tbox.specs.Restrictions.{IsRestrictionBreach}
use Rattle.mast_canon.specs.Theories.{Theory, stated}

-- the name of the fact is one that documents may use
abbrev pub FactInRange : {X : Type 0} → Fact X → Type 0
FactInRange (InClass a t) = InRange a
FactInRange (InRole p t u) = InRange p
FactInRange (InAttr u t v) = InRange u

-- the names of all facts of F are
abbrev pub FactsInRange : (Fact Term → Type 0) → Type 0
FactsInRange F = (f : Fact Term) → F f → FactInRange f

-- the names of the query's atoms are
abbrev pub QueryInRange : Cq → Type 0
QueryInRange q = AllByRecursion (Named IsStatable) q.atoms

-- the term is an object
abbrev pub IsObject : Term → Type 0
IsObject t = (o : Object) × (t ≡ term.Object o)

-- the term is a value
abbrev pub IsValue : Term → Type 0
IsValue t = (v : Value) × (t ≡ term.Value v)

-- the fact has objects in object places, and a value in a value place
abbrev pub IsSorted : Fact Term → Type 0
IsSorted (InClass a t) = IsObject t
IsSorted (InRole p t u) = IsObject t × IsObject u
IsSorted (InAttr u t v) = IsObject t × IsValue v

-- all facts of F have
abbrev pub AreSorted : (Fact Term → Type 0) → Type 0
AreSorted F = (f : Fact Term) → F f → IsSorted f

-- the existential inclusions are numbered in order, and the names are those that documents may use
pub record IsStated (theory : Theory) : Type 0 where
  pub numbered : IsNumbered theory.inclusions
  pub inclusions : AreInRange (stated theory)

-- the existential inclusions are numbered in order, and no axiom and no constraint breaches the restrictions
pub record IsRestricted (theory : Theory) : Type 0 where
  pub numbered : IsNumbered theory.inclusions
  pub unbreached : IsRestrictionBreach theory.inclusions theory.functional theory.constraints None
