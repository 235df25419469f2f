-- The words of the laws: of relations, of sets of atoms, and of what is decided, finite or one.
use Rattle.std.specs.Prelude.{◌≡◌, ℕ, List, [], ◌∷◌, ◌++◌, Bool, true, Option, None, Contains, ◌⊎◌, ◌↔◌, length}
use Rattle.mast_terms.specs.declared.name.Name.{Name}
use Rattle.mast_terms.specs.declared.name.NameKind.{NameKind}
use Rattle.mast_cq.specs.declared.atom.Atom.{Atom}
use Rattle.mast_cq.specs.NormalForms.{Occurs, Twice}
use Rattle.mast_cq.specs.Origins.{AtomDrawsFrom, NameBelow, NamePasses, Passes}
use Rattle.mast_cq.specs.Sorts.{EachHasOneSort}
use Rattle.mast_tbox.specs.declared.expression.Basic.{Basic}
use Rattle.mast_tbox.specs.declared.expression.Prop.{Prop}
use Rattle.mast_tbox.specs.declared.expression.RoleExpr.{RoleExpr}
use Rattle.mast_tbox.specs.declared.axiom.Inclusion.{Inclusion}
use Rattle.mast_tbox.specs.declared.axiom.Inclusion.TheVariants.{Exists}
use Rattle.mast_tbox.specs.declared.axiom.Lined.{Lined}
use Rattle.mast_tbox.specs.declared.constraint.Constraint.{Constraint}
use Rattle.mast_tbox.specs.Arguments.{HaveSameArguments}
use Rattle.mast_tbox.specs.Closure.{AtomStep, Down}
use Rattle.mast_tbox.specs.Inclusions.{normal}
use Rattle.mast_tbox.specs.Lists.{items}
use Rattle.mast_tbox.specs.NameLinks.{atom_name, AreLinked}
use Rattle.mast_tbox.specs.Names.{AreNamed, AuxiliariesPass, AtomInRange, PropInRange, name_bounds}
use Rattle.mast_tbox.specs.Numbers.{number_of}
use Rattle.mast_tbox.specs.Properties.{IsBelow, AreEquivalent}
use Rattle.mast_tbox.specs.Restrictions.{IsSpecialised, IsRestrictionBreach}

-- the statement holds, or it does not
abbrev pub Decided : Type 0 → Type 0
Decided P = P ⊎ (P → ⊥)

-- of any two it is decided whether the relation holds
abbrev pub IsDecided : {X : Type 0} → (X → X → Type 0) → Type 0
IsDecided {X} R = (x y : X) → Decided (R x y)

-- each is related to itself
abbrev pub IsReflexive : {X : Type 0} → (X → X → Type 0) → Type 0
IsReflexive {X} R = (x : X) → R x x

-- two related pairs are joined at what they share
abbrev pub IsTransitive : {X : Type 0} → (X → X → Type 0) → Type 0
IsTransitive {X} R = (x y z : X) → R x y → R y z → R x z

-- the relation goes both ways
abbrev pub IsSymmetric : {X : Type 0} → (X → X → Type 0) → Type 0
IsSymmetric {X} R = (x y : X) → R x y → R y x

-- the function keeps the relation
abbrev pub IsKeptBy : {X : Type 0} → (X → X) → (X → X → Type 0) → Type 0
IsKeptBy {X} f R = (x y : X) → R x y → R (f x) (f y)

-- there is a list of exactly what has the property
pub record IsFinite {X : Type 0} (P : X → Type 0) : Type 0 where
  pub members : List X
  pub are : (x : X) → Contains members x ↔ P x

-- there is an answer, and no other
pub record HasOneAnswer {X : Type 0} (Is : X → Type 0) : Type 0 where
  pub answer : X
  pub is : Is answer
  pub one : (x y : X) → Is x → Is y → x ≡ y

-- each number is that of one inclusion at most
abbrev pub NumbersDiffer : List Inclusion → Type 0
NumbersDiffer tbox = (i j : Inclusion) (k : ℕ) → Contains tbox i → Contains tbox j → number_of i ≡ k ∷ [] → number_of j ≡ k ∷ [] → i ≡ j

-- no inclusion that adds a filler says which class the filler is in
abbrev pub HasNoEnd : List Inclusion → Type 0
HasNoEnd tbox = (b : Basic) (r : RoleExpr) (end : Option Name) (k : ℕ) → Contains tbox (Exists b r end k) → end ≡ None

-- the atom is one of the set
abbrev pub Has : (Atom → Bool) → Atom → Type 0
Has set g = set g ≡ true

-- a step by an inclusion on an atom with the property makes one that has it too
abbrev pub IsClosed : List Inclusion → (Atom → Type 0) → Type 0
IsClosed tbox P = (g h : Atom) → P g → AtomStep tbox g h → P h

-- a set, given by a test, that has the atom and is closed under the steps has all of Down
abbrev pub IsLeast : List Inclusion → Atom → Type 0
IsLeast tbox g = (set : Atom → Bool) → Has set g → IsClosed tbox (Has set) → (h : Atom) → Down tbox g h → Has set h

-- two atoms whose Downs have members of one name have names that inclusions link
abbrev pub MeetingsAreLinked : List Inclusion → Type 0
MeetingsAreLinked tbox = (g h a b : Atom) → Down tbox g a → Down tbox h b → atom_name a ≡ atom_name b → AreLinked tbox g h

-- a member of Down has the arguments of its atom, with their sorts
abbrev pub KeepsArguments : List Inclusion → Type 0
KeepsArguments tbox = (g h : Atom) → Down tbox g h → HaveSameArguments g h

-- a member of Down draws its arguments from its atom, as the atoms of a step have to
abbrev pub DrawsArguments : List Inclusion → Type 0
DrawsArguments tbox = (g h : Atom) → Down tbox g h → AtomDrawsFrom h g

-- a variable that occurs in an atom occurs in each member of its Down, and no other does
abbrev pub KeepsVariables : List Inclusion → Type 0
KeepsVariables tbox = (n : ℕ) (g h : Atom) → Down tbox g h → Occurs n g ↔ Occurs n h

-- a variable that stands in both places of an atom stands so in each member of its Down, and no other does
abbrev pub KeepsTwice : List Inclusion → Type 0
KeepsTwice tbox = (n : ℕ) (g h : Atom) → Down tbox g h → Twice n g ↔ Twice n h

-- where each argument has one sort, it has one too after a member of Down took the place of its atom
abbrev pub KeepsSorts : List Inclusion → Type 0
KeepsSorts tbox =
    (before after : List Atom) (g h : Atom) → Down tbox g h → EachHasOneSort (before ++ g ∷ after) → EachHasOneSort (before ++ h ∷ after)

-- the members of Down by the normal inclusions have names in range, or auxiliary roles of the TBox, where their atom has
abbrev pub KeepsRange : List Inclusion → Type 0
KeepsRange tbox = (g h : Atom) → AtomInRange tbox g → Down (normal tbox) g h → AtomInRange tbox h

-- atoms with names in range, or auxiliary roles, have names below these bounds
abbrev pub RangeIsBounded : List (Lined Inclusion) → Type 0
RangeIsBounded lines = (g : Atom) → AtomInRange (items lines) g → NameBelow (name_bounds (length lines)) g

-- where the names of the inclusions and of an atom pass a test by kind and number, those of the members of its Down do
abbrev pub KeepsPassing : List Inclusion → Type 0
KeepsPassing tbox = (test : NameKind → ℕ → Bool) (g h : Atom) → AreNamed (Passes test) tbox → NamePasses test g → Down tbox g h → NamePasses test h

-- the names of the normal inclusions pass a test that those of the inclusions and the auxiliary roles of qualified ones do
abbrev pub NormalPasses : List Inclusion → Type 0
NormalPasses tbox = (test : NameKind → ℕ → Bool) → AreNamed (Passes test) tbox → AuxiliariesPass test tbox → AreNamed (Passes test) (normal tbox)

-- for names in range, a property is below another by the stated inclusions where it is by the normal ones
abbrev pub BelowAgrees : List Inclusion → Type 0
BelowAgrees tbox = (p q : Prop) → PropInRange p → IsBelow tbox p q ↔ IsBelow (normal tbox) p q

-- and two are equivalent by the one where they are by the other
abbrev pub EquivalentAgrees : List Inclusion → Type 0
EquivalentAgrees tbox = (p q : Prop) → PropInRange p → PropInRange q → AreEquivalent tbox p q ↔ AreEquivalent (normal tbox) p q

-- and a property is specialised by the one where it is by the other
abbrev pub SpecialisedAgrees : List Inclusion → Type 0
SpecialisedAgrees tbox = (p : Prop) → PropInRange p → IsSpecialised tbox p ↔ IsSpecialised (normal tbox) p

-- axioms and constraints have one restriction breach or none, and always one of these
abbrev pub BreachLaw : Type 0
BreachLaw =
    (inclusions : List (Lined Inclusion)) (functional : List (Lined Prop)) (constraints : List (Lined Constraint))
    → HasOneAnswer (IsRestrictionBreach inclusions functional constraints)
