-- The words of the laws of derivations: what the normal inclusions keep, what grows with the facts, and what Down says.
use Rattle.std.specs.Prelude.{◌↔◌, ℕ, List, map}
use Rattle.std.specs.List.{AllByRecursion}
use Rattle.mast_terms.specs.declared.term.Term.{Term}
use Rattle.mast_cq.specs.declared.atom.Atom.{Atom}
use Rattle.mast_cq.specs.declared.query.Cq.{Cq}
use Rattle.mast_cq.specs.Meanings.{Fact, Gives, MetBy}
use Rattle.mast_tbox.specs.declared.axiom.Inclusion.{Inclusion}
use Rattle.mast_tbox.specs.Closure.{Down}
use Rattle.mast_tbox.specs.Inclusions.{normal}
use Rattle.mast_canon.specs.declared.origin.Origin.{Origin}
use Rattle.mast_canon.specs.CertainAnswers.{HoldsBy, Certain, MetThrough, ThroughDown, constant_in}
use Rattle.mast_canon.specs.Derivations.{Holds}
use Rattle.mast_canon.specs.Elements.{Element, Named}
use Rattle.mast_canon.specs.NoModels.{By}
use Rattle.mast_canon.specs.Theories.{Theory, stated}
use Rattle.mast_canon.specs.TheoryPremises.{FactInRange, FactsInRange, QueryInRange, IsStated}

-- over names that documents may use, the same facts hold by the inclusions and by the normal inclusions
abbrev pub NormalKeepsFacts : (Fact Term → Type 0) → Type 0
NormalKeepsFacts F = (theory : Theory) (f : Fact Element) → IsStated theory → FactsInRange F → FactInRange f
    → HoldsBy theory F f ↔ Holds (normal (stated theory)) F f

-- each fact of F is one of G
abbrev pub LieWithin : (F G : Fact Term → Type 0) → Type 0
LieWithin F G = (f : Fact Term) → F f → G f

-- where the facts of F lie within G, what holds over F holds over G
abbrev pub HoldsGrows : (F G : Fact Term → Type 0) → Type 0
HoldsGrows F G = LieWithin F G → (tbox : List Inclusion) (f : Fact Element) → Holds tbox F f → Holds tbox G f

-- and what they break is broken by G
abbrev pub NoModelStays : (F G : Fact Term → Type 0) → Type 0
NoModelStays F G = LieWithin F G → (theory : Theory) (origin : Origin) → By theory F origin → By theory G origin

-- and each certain answer over F is one over G
abbrev pub CertainGrows : (F G : Fact Term → Type 0) → Type 0
CertainGrows F G = LieWithin F G → (theory : Theory) (q : Cq) (tuple : List Term) → Certain theory F q tuple → Certain theory G q tuple

-- by normal inclusions, under an assignment of named terms, an atom is a fact that holds exactly where some member of its Down is a fact of F
abbrev pub DownIsWhatHolds : (Fact Term → Type 0) → Type 0
DownIsWhatHolds F = (tbox : List Inclusion) (constant s : ℕ → Term) (g : Atom)
    → MetBy (λ c. Named (constant c)) (Holds (normal tbox) F) (λ x. Named (s x)) g ↔ MetThrough (normal tbox) constant F s g

-- what holds of a member of Down of an atom holds of the atom, under each assignment of elements
abbrev pub DownHoldsUp : (Fact Term → Type 0) → Type 0
DownHoldsUp F = (tbox : List Inclusion) (constant s : ℕ → Element) (g h : Atom) → Down tbox g h
    → MetBy constant (Holds tbox F) s h → MetBy constant (Holds tbox F) s g

-- each tuple through Down of a query over names that documents may use is a certain answer
abbrev pub DownIsSound : (Fact Term → Type 0) → Type 0
DownIsSound F = (theory : Theory) (q : Cq) (tuple : List Term) → IsStated theory → FactsInRange F → QueryInRange q
    → ThroughDown theory F q tuple → Certain theory F q tuple

-- the query has the tuple over the facts that hold, by an assignment of named terms
pub record HasNamed (theory : Theory) (F : Fact Term → Type 0) (q : Cq) (tuple : List Term) : Type 0 where
  pub under : ℕ → Term
  pub each : AllByRecursion (MetBy (constant_in theory) (HoldsBy theory F) (λ x. Named (under x))) q.atoms
  pub answers : Gives (constant_in theory) (λ x. Named (under x)) q.answer (map Named tuple)

-- a certain answer of a query that an assignment of named terms gives is a tuple through Down
abbrev pub NamedGoBack : (Fact Term → Type 0) → Type 0
NamedGoBack F = (theory : Theory) (q : Cq) (tuple : List Term) → HasNamed theory F q tuple → ThroughDown theory F q tuple
