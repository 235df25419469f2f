-- Queries: what a view holds, where variables stand, and the orders.
use Rattle.std.specs.Prelude.{◌≡◌, ℕ, List, [], ◌∷◌, Option, Some, None, Bool, true, false, ◌↔◌, nat_eq, ◌||◌, ◌⊎◌}
use Rattle.std.specs.declared.cmp.Ordering.{Ordering}
use Rattle.std.specs.Ordering.{nat_cmp, ordering_then}
use Rattle.std.specs.Cmp.Lexicographic.{slice_cmp}
use Rattle.mast_cq.specs.declared.atom.Arg.{Arg}
use Rattle.mast_cq.specs.declared.atom.Arg.TheVariants.{Blank, Var, Constant}
use Rattle.mast_cq.specs.declared.atom.Atom.{Atom}
use Rattle.mast_cq.specs.declared.atom.Atom.TheVariants.{Class, Role, Attr}
use Rattle.mast_cq.specs.declared.query.Cq.{Cq}
use Rattle.mast_cq.specs.declared.query.CqRef.{CqRef}

-- the query that a view lends
abbrev pub viewed : CqRef → Cq
viewed q = record { answer = q.answer.now; atoms = q.atoms.now }

-- a test that holds exactly of views with equal contents
abbrev pub TestsContents : (CqRef → CqRef → Bool) → Type 0
TestsContents same = (q r : CqRef) → (same q r ≡ true) ↔ (viewed q ≡ viewed r)

-- x is an element of the list
abbrev pub In : {X : Type 0} → X → List X → Type 0
In x [] = ⊥
In x (y ∷ ys) = (x ≡ y) ⊎ In x ys

-- the list is x, put at some place of the rest
pub data Takes {X : Type 0} : List X → X → List X → Type 0 where
  first : {x : X} {xs : List X} → Takes (x ∷ xs) x xs
  later : {x y : X} {xs rest : List X} → Takes xs x rest → Takes (y ∷ xs) x (y ∷ rest)

-- the list has x, and later y, put into the rest at some places
pub data TakesTwo {X : Type 0} : List X → X → X → List X → Type 0 where
  here : {x y : X} {xs rest : List X} → Takes xs y rest → TakesTwo (x ∷ xs) x y rest
  beyond : {x y z : X} {xs rest : List X} → TakesTwo xs x y rest → TakesTwo (z ∷ xs) x y (z ∷ rest)

-- the first if there is one, else the second
abbrev pub or_else : {X : Type 0} → Option X → Option X → Option X
or_else None b = b
or_else (Some x) b = Some x

-- the variable stands in the list
abbrev pub has_var : List Arg → ℕ → Bool
has_var [] x = false
has_var (Blank ∷ more) x = has_var more x
has_var (Constant c ∷ more) x = has_var more x
has_var (Var y ∷ more) x = nat_eq y x || has_var more x

-- the place of an argument in their order: `_`, the variables by number, the constants by number
abbrev pub arg_key : Arg → List ℕ → List ℕ
arg_key Blank more = 0 ∷ 0 ∷ more
arg_key (Var x) more = 1 ∷ x ∷ more
arg_key (Constant c) more = 2 ∷ c ∷ more

-- the place of an atom in their order: the kind, the number of the name, the arguments from left to right
abbrev pub atom_key : Atom → List ℕ
atom_key (Class a x) = 0 ∷ a.0 ∷ arg_key x []
atom_key (Role a x y) = 1 ∷ a.0 ∷ arg_key x (arg_key y [])
atom_key (Attr a x y) = 2 ∷ a.0 ∷ arg_key x (arg_key y [])

-- the order of arguments
abbrev pub arg_order : Arg → Arg → Ordering
arg_order x y = slice_cmp nat_cmp (arg_key x []) (arg_key y [])

-- the order of atoms
abbrev pub atom_order : Atom → Atom → Ordering
atom_order g h = slice_cmp nat_cmp (atom_key g) (atom_key h)

-- the order of queries: by the answer list and then by the atoms, each by the first element that differs
abbrev pub query_order : Cq → Cq → Ordering
query_order q r = ordering_then (slice_cmp arg_order q.answer r.answer) (slice_cmp atom_order q.atoms r.atoms)
