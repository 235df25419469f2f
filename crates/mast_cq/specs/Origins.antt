-- Where the arguments of a query's atoms come from: the arguments of a normal form, a merge and a step come from the query.
use Rattle.std.specs.Prelude.{◌≡◌, ℕ, ◌<◌, List, ◌++◌, Some, Bool, true, ◌⊎◌}
use Rattle.std.specs.List.{AllByRecursion}
use Rattle.mast_terms.specs.declared.name.NameKind.{NameKind}
use Rattle.mast_terms.specs.declared.name.NameKind.TheVariants as kinds
use Rattle.mast_cq.specs.declared.atom.Arg.{Arg}
use Rattle.mast_cq.specs.declared.atom.Arg.TheVariants.{Blank, Var, Constant}
use Rattle.mast_cq.specs.declared.atom.Atom.{Atom}
use Rattle.mast_cq.specs.declared.atom.Atom.TheVariants.{Class, Role, Attr}
use Rattle.mast_cq.specs.declared.query.Cq.{Cq}
use Rattle.mast_cq.specs.ListPlaces.{TwoPlaces}
use Rattle.mast_cq.specs.NormalForms.{normal_form}
use Rattle.mast_cq.specs.Queries.{In}
use Rattle.mast_cq.specs.Sorts.{objects_of, values_of, arguments_of, of_all}
use Rattle.mast_cq.specs.Steps.{merged}
use Rattle.mast_cq.specs.Unification.{Meeting, meeting}
use Rattle.mast_cq.specs.UnifierMeanings.{IsBelow, KnownArg, KnownAtom}

-- the argument is `_`, or it is the other one
abbrev pub IsFrom : Arg → Arg → Type 0
IsFrom Blank y = Unit {0}
IsFrom (Var n) y = Var n ≡ y
IsFrom (Constant c) y = Constant c ≡ y

-- the atoms have one kind and one name, and each argument of the first but `_` stands at that place of the second
abbrev pub ComesFrom : Atom → Atom → Type 0
ComesFrom (Class a x) (Class b z) = (a ≡ b) × IsFrom x z
ComesFrom (Class a x) (Role b z w) = ⊥
ComesFrom (Class a x) (Attr b z w) = ⊥
ComesFrom (Role a x y) (Class b z) = ⊥
ComesFrom (Role a x y) (Role b z w) = (a ≡ b) × IsFrom x z × IsFrom y w
ComesFrom (Role a x y) (Attr b z w) = ⊥
ComesFrom (Attr a x y) (Class b z) = ⊥
ComesFrom (Attr a x y) (Role b z w) = ⊥
ComesFrom (Attr a x y) (Attr b z w) = (a ≡ b) × IsFrom x z × IsFrom y w

-- some atom of the list has P
pub record SomeAtom (P : Atom → Type 0) (gs : List Atom) : Type 0 where
  pub atom : Atom
  pub among : In atom gs
  pub is : P atom

-- each argument of the first list but `_` stands in the second
abbrev pub AreFrom : List Arg → List Arg → Type 0
AreFrom xs ys = (x : Arg) → In x xs → (x ≡ Blank) ⊎ In x ys

-- each argument but `_` of the first atoms stands in a place of the second ones of the same sort
pub record DrawsFrom (gs hs : List Atom) : Type 0 where
  pub objects : AreFrom (of_all objects_of gs) (of_all objects_of hs)
  pub values : AreFrom (of_all values_of gs) (of_all values_of hs)

-- each argument but `_` of the first atom stands in a place of the second of the same sort
pub record AtomDrawsFrom (g h : Atom) : Type 0 where
  pub objects : AreFrom (objects_of g) (objects_of h)
  pub values : AreFrom (values_of g) (values_of h)

-- the constants of the query are below the bound
pub record KnownQuery (bound : ℕ) (q : Cq) : Type 0 where
  pub answer : AllByRecursion (KnownArg (IsBelow bound)) q.answer
  pub atoms : AllByRecursion (KnownAtom (IsBelow bound)) q.atoms

-- P holds of the kind and the number of the atom's name
abbrev pub Named : (NameKind → ℕ → Type 0) → Atom → Type 0
Named P (Class a x) = P kinds.Class a.0
Named P (Role a x y) = P kinds.Role a.0
Named P (Attr a x y) = P kinds.Attr a.0

-- the name of the atom is below the number of names of its kind
abbrev pub NameBelow : (NameKind → ℕ) → Atom → Type 0
NameBelow sizes = Named (λ kind n. n < sizes kind)

-- the names of the query's atoms are
abbrev pub NamesBelow : (NameKind → ℕ) → Cq → Type 0
NamesBelow sizes q = AllByRecursion (NameBelow sizes) q.atoms

-- a name of this kind and number passes the test
abbrev pub Passes : (NameKind → ℕ → Bool) → NameKind → ℕ → Type 0
Passes test kind n = test kind n ≡ true

-- the name of the atom passes
abbrev pub NamePasses : (NameKind → ℕ → Bool) → Atom → Type 0
NamePasses test = Named (Passes test)

-- the names of the query's atoms do
abbrev pub NamesPass : (NameKind → ℕ → Bool) → Cq → Type 0
NamesPass test q = AllByRecursion (NamePasses test) q.atoms

-- what a meeting of g and h makes of a variable is the variable, or an argument of the two atoms
abbrev pub StaysWithin : Atom → Atom → Meeting → Type 0
StaysWithin g h m = (n : ℕ) → (m.replacement n ≡ Var n) ⊎ In (m.replacement n) (arguments_of g ++ arguments_of h)

-- what a meeting of g and h makes of a variable stays within
abbrev pub VariablesStayWithin : List Arg → Atom → Atom → Type 0
VariablesStayWithin answer g h = (m : Meeting) → meeting answer g h ≡ Some m → StaysWithin g h m

-- the second query merges two atoms of the first: g and h stand at two places, left and right draw their arguments from them and have a meeting
pub record IsMerge (q r : Cq) : Type 0 where
  pub g : Atom
  pub h : Atom
  pub left : Atom
  pub right : Atom
  pub others : List Atom
  pub by : Meeting
  pub two : TwoPlaces q.atoms g h others
  pub left_draws : AtomDrawsFrom left g
  pub right_draws : AtomDrawsFrom right h
  pub meets : meeting q.answer left right ≡ Some by
  pub gives : r ≡ merged q by others

-- the second query is the first after a step of a closure: the normal form of a merge
pub record IsStep (q r : Cq) : Type 0 where
  pub before : Cq
  pub merge : IsMerge q before
  pub gives : r ≡ normal_form before

-- the names of the second query are below their bounds, where the name of the atom and those of the first query are
abbrev pub KeepsNames : (NameKind → ℕ) → (left : Atom) (q r : Cq) → Type 0
KeepsNames sizes left q r = NameBelow sizes left → NamesBelow sizes q → NamesBelow sizes r

-- the names of the second query pass the test, where the name of the atom and those of the first query do
abbrev pub KeepsPassing : (NameKind → ℕ → Bool) → (left : Atom) (q r : Cq) → Type 0
KeepsPassing test left q r = NamePasses test left → NamesPass test q → NamesPass test r
