-- Properties: one form for the pairs of a role, of its inverse and of an attribute, as atoms and as facts.
use Rattle.std.specs.Prelude.{◌≡◌, ℕ}
use Rattle.mast_terms.specs.declared.name.Name.{Name}
use Rattle.mast_cq.specs.declared.atom.Arg.{Arg}
use Rattle.mast_cq.specs.declared.atom.Atom.{Atom}
use Rattle.mast_cq.specs.declared.atom.Atom.TheVariants.{Role, Attr}
use Rattle.mast_cq.specs.Meanings.{Fact, InRole, InAttr, Fits, Match}

-- a property: a role, the inverse of a role, or an attribute
pub data Property : Type 0 where
  Direct : (name : Name) → Property
  Inverse : (name : Name) → Property
  Values : (name : Name) → Property

-- the atom that x and y are a pair of the property
abbrev pub prop_atom : Property → Arg → Arg → Atom
prop_atom (Direct p) x y = Role p x y
prop_atom (Inverse p) x y = Role p y x
prop_atom (Values a) x y = Attr a x y

-- the fact that t and u are a pair of the property
abbrev pub prop_fact : {X : Type 0} → Property → X → X → Fact X
prop_fact (Direct p) t u = InRole p t u
prop_fact (Inverse p) t u = InRole p u t
prop_fact (Values a) t u = InAttr a t u

-- the fact is a pair of the property, and the arguments may stand for the two terms
pub record IsPair {X : Type 0} (constant : ℕ → X) (s : ℕ → X) (p : Property) (x y : Arg) (f : Fact X) : Type 0 where
  pub one : X
  pub other : X
  pub is : f ≡ prop_fact p one other
  pub one_fits : Fits constant s x one
  pub other_fits : Fits constant s y other

-- two terms that the arguments may stand for make the atom of the property the fact that they are a pair of it
abbrev pub PairsAreFacts : {X : Type 0} → (ℕ → X) → Type 0
PairsAreFacts {X} constant = (s : ℕ → X) (p : Property) (x y : Arg) (t u : X)
    → Fits constant s x t → Fits constant s y u → Match constant s (prop_atom p x y) (prop_fact p t u)

-- a fact that the atom of the property is, is such a pair
abbrev pub FactsArePairs : {X : Type 0} → (ℕ → X) → Type 0
FactsArePairs {X} constant = (s : ℕ → X) (p : Property) (x y : Arg) (f : Fact X) → Match constant s (prop_atom p x y) f → IsPair constant s p x y f
