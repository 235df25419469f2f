-- What a query means: the facts that its atoms meet under an assignment, and its tuples. Terms and facts are any here.
use Rattle.std.specs.Prelude.{◌≡◌, ◌↔◌, ℕ, List, [], ◌∷◌}
use Rattle.std.specs.List.{AllByRecursion}
use Rattle.mast_terms.specs.declared.name.Name.{Name}
use Rattle.mast_cq.specs.declared.atom.Arg.{Arg}
use Rattle.mast_cq.specs.declared.atom.Arg.TheVariants.{Blank, Var, Constant}
use Rattle.mast_cq.specs.declared.atom.Atom.{Atom}
use Rattle.mast_cq.specs.declared.atom.Atom.TheVariants.{Class, Role, Attr}
use Rattle.mast_cq.specs.declared.query.Cq.{Cq}

-- a fact over terms of some kind
pub data Fact (X : Type 0) : Type 0 where
  InClass : (name : Name) (t : X) → Fact X
  InRole : (name : Name) (t u : X) → Fact X
  InAttr : (name : Name) (t v : X) → Fact X

-- the argument may stand for the term, where `constant` says what each constant stands for; `_` may for every term
abbrev pub Fits : {X : Type 0} → (ℕ → X) → (ℕ → X) → Arg → X → Type 0
Fits constant s Blank t = Unit {0}
Fits constant s (Var x) t = t ≡ s x
Fits constant s (Constant c) t = t ≡ constant c

-- the fact is the atom under the assignment, each `_` being a variable of its own
abbrev pub Match : {X : Type 0} → (ℕ → X) → (ℕ → X) → Atom → Fact X → Type 0
Match constant s (Class a x) (InClass b t) = (a ≡ b) × Fits constant s x t
Match constant s (Class a x) (InRole b t u) = ⊥
Match constant s (Class a x) (InAttr b t u) = ⊥
Match constant s (Role a x y) (InClass b t) = ⊥
Match constant s (Role a x y) (InRole b t u) = (a ≡ b) × Fits constant s x t × Fits constant s y u
Match constant s (Role a x y) (InAttr b t u) = ⊥
Match constant s (Attr a x y) (InClass b t) = ⊥
Match constant s (Attr a x y) (InRole b t u) = ⊥
Match constant s (Attr a x y) (InAttr b t u) = (a ≡ b) × Fits constant s x t × Fits constant s y u

-- the answer list takes the tuple under the assignment
abbrev pub Gives : {X : Type 0} → (ℕ → X) → (ℕ → X) → List Arg → List X → Type 0
Gives constant s [] [] = Unit {0}
Gives constant s [] (t ∷ ts) = ⊥
Gives constant s (x ∷ xs) [] = ⊥
Gives constant s (x ∷ xs) (t ∷ ts) = Fits constant s x t × Gives constant s xs ts

-- some fact with P is the atom under the assignment
pub record MetBy {X : Type 0} (constant : ℕ → X) (P : Fact X → Type 0) (s : ℕ → X) (g : Atom) : Type 0 where
  pub fact : Fact X
  pub matches : Match constant s g fact
  pub holds : P fact

-- the query has the tuple over the facts with P: some assignment makes its answer list the tuple and each atom a fact
pub record HasTuple {X : Type 0} (constant : ℕ → X) (P : Fact X → Type 0) (q : Cq) (tuple : List X) : Type 0 where
  pub under : ℕ → X
  pub each : AllByRecursion (MetBy constant P under) q.atoms
  pub answers : Gives constant under q.answer tuple

-- the two queries have the same tuples
abbrev pub SameTuples : {X : Type 0} → (ℕ → X) → (Fact X → Type 0) → Cq → Cq → Type 0
SameTuples {X} constant P q r = (tuple : List X) → HasTuple constant P q tuple ↔ HasTuple constant P r tuple
