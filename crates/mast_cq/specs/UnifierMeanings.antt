-- What unification means: an assignment that makes two atoms one fact, and the atom that they become.
use Rattle.std.specs.Prelude.{◌≡◌, ℕ, ◌<◌, List, Option, Some, None, true, ◌⊎◌, ◌↔◌, slice_get}
use Rattle.std.specs.List.{AllByRecursion}
use Rattle.mast_cq.specs.declared.atom.Arg.{Arg}
use Rattle.mast_cq.specs.declared.atom.Arg.TheVariants.{Blank, Var, Constant}
use Rattle.mast_cq.specs.declared.atom.Atom.{Atom}
use Rattle.mast_cq.specs.declared.atom.Atom.TheVariants.{Class, Role, Attr}
use Rattle.mast_cq.specs.Meanings.{Fact, Gives, Match, MetBy, HasTuple}
use Rattle.mast_cq.specs.Unification.{Replacement, replace, wins, Meeting, meeting, unified}
use Rattle.mast_cq.specs.declared.query.Cq.{Cq}
use Rattle.mast_cq.specs.NormalForms.{Occurs}

-- the argument is no `_`, and stands for the term
abbrev pub Stands : {X : Type 0} → (ℕ → X) → (ℕ → X) → Arg → X → Type 0
Stands constant s Blank t = ⊥
Stands constant s (Var x) t = t ≡ s x
Stands constant s (Constant c) t = t ≡ constant c

-- the assignment respects the replacement: what a variable becomes stands for what the variable stands for
abbrev pub Respects : {X : Type 0} → (ℕ → X) → (ℕ → X) → Replacement → Type 0
Respects constant s r = (n : ℕ) → Stands constant s (r n) (s n)

-- there is a meeting whose replacement the assignment respects, and the fact is its atom
pub record Joined {X : Type 0} (constant : ℕ → X) (s : ℕ → X) (f : Fact X) (o : Option Meeting) : Type 0 where
  pub by : Meeting
  pub is : o ≡ Some by
  pub respects : Respects constant s by.replacement
  pub matches : Match constant s by.atom f

-- P holds of the constant, where the argument is one
abbrev pub KnownArg : (ℕ → Type 0) → Arg → Type 0
KnownArg P Blank = Unit {0}
KnownArg P (Var x) = Unit {0}
KnownArg P (Constant c) = P c

-- P holds of the constants of the atom
abbrev pub KnownAtom : (ℕ → Type 0) → Atom → Type 0
KnownAtom P (Class a x) = KnownArg P x
KnownAtom P (Role a x y) = KnownArg P x × KnownArg P y
KnownAtom P (Attr a x y) = KnownArg P x × KnownArg P y

-- the argument is no `_`
abbrev pub IsProper : Arg → Type 0
IsProper Blank = ⊥
IsProper (Var x) = Unit {0}
IsProper (Constant c) = Unit {0}

-- no variable becomes `_`
abbrev pub Proper : Replacement → Type 0
Proper r = (n : ℕ) → IsProper (r n)

-- what the argument stands for; a `_` for the term that is given
abbrev pub value : {X : Type 0} → (ℕ → X) → X → (ℕ → X) → Arg → X
value constant d s Blank = d
value constant d s (Var x) = s x
value constant d s (Constant c) = constant c

-- the assignment before the replacement: a variable stands for what it becomes
abbrev pub before : {X : Type 0} → (ℕ → X) → (ℕ → X) → Replacement → ℕ → X
before constant s r n = value constant (s n) s (r n)

-- no variable becomes `_`, and what the meeting's atom is, both atoms are after the replacement
pub record Parts {X : Type 0} (constant : ℕ → X) (g h : Atom) (m : Meeting) : Type 0 where
  pub proper : Proper m.replacement
  pub splits : (s : ℕ → X) (f : Fact X) → Match constant s m.atom f
      → Match constant s (replace m.replacement g) f × Match constant s (replace m.replacement h) f

-- the number is less than the bound
abbrev pub IsBelow : ℕ → ℕ → Type 0
IsBelow bound c = c < bound

-- different constants with numbers below the bound stand for different terms
abbrev pub AreApart : {X : Type 0} → (ℕ → X) → ℕ → Type 0
AreApart constant bound = (c d : ℕ) → IsBelow bound c → IsBelow bound d → constant c ≡ constant d → c ≡ d

-- the assignment makes both atoms the fact
pub record BothAre {X : Type 0} (constant : ℕ → X) (s : ℕ → X) (g h : Atom) (f : Fact X) : Type 0 where
  pub first : Match constant s g f
  pub second : Match constant s h f

-- some assignment makes the two atoms one fact
pub record Unifiable {X : Type 0} (constant : ℕ → X) (g h : Atom) : Type 0 where
  pub under : ℕ → X
  pub fact : Fact X
  pub first_is : Match constant under g fact
  pub second_is : Match constant under h fact

-- there is a query in which the atoms at i and j are unified, and it has the tuple
pub record UnifiedHas {X : Type 0} (constant : ℕ → X) (P : Fact X → Type 0) (q : Cq) (i j : ℕ) (tuple : List X) : Type 0 where
  pub by : Cq
  pub is : unified q i j ≡ Some by
  pub has : HasTuple constant P by tuple

-- the argument is the variable, or wins over it: a constant, an answer variable over another, and else the lower number
abbrev pub Beats : List Arg → Arg → ℕ → Type 0
Beats answer Blank n = ⊥
Beats answer (Var m) n = (m ≡ n) ⊎ (wins answer m n ≡ true)
Beats answer (Constant c) n = Unit {0}

-- Meetings are complete: two atoms that one fact is under an assignment have a meeting, which the assignment respects and whose atom the
-- fact is. Different known constants stand for different terms.
abbrev pub MeetingsAreComplete : {X : Type 0} → (ℕ → X) → Type 0
MeetingsAreComplete {X} constant = (bound : ℕ) (answer : List Arg) (s : ℕ → X) (g h : Atom) (f : Fact X) → AreApart constant bound
    → KnownAtom (IsBelow bound) g → KnownAtom (IsBelow bound) h → BothAre constant s g h f → Joined constant s f (meeting answer g h)

-- Unifying is complete: where one fact with P is the atoms at two places under an assignment, and each atom is one, the unified query has
-- what the query has under it. Different known constants stand for different terms.
abbrev pub UnifyingIsComplete : {X : Type 0} → (ℕ → X) → (Fact X → Type 0) → Type 0
UnifyingIsComplete {X} constant P = (bound : ℕ) (q : Cq) (i j : ℕ) (tuple : List X) (g h : Atom) (f : Fact X) (s : ℕ → X)
    → AreApart constant bound → slice_get q.atoms i ≡ Some g → slice_get q.atoms j ≡ Some h → KnownAtom (IsBelow bound) g → KnownAtom (IsBelow bound) h
    → BothAre constant s g h f → P f → AllByRecursion (MetBy constant P s) q.atoms → Gives constant s q.answer tuple
    → UnifiedHas constant P q i j tuple

-- Meetings are sound: a meeting's atom splits back into both atoms.
abbrev pub MeetingsAreSound : {X : Type 0} → (ℕ → X) → Type 0
MeetingsAreSound constant = (answer : List Arg) (g h : Atom) (m : Meeting) → meeting answer g h ≡ Some m → Parts constant g h m

-- Unifying is sound: the query has each tuple that the unified query has.
abbrev pub UnifyingIsSound : {X : Type 0} → (ℕ → X) → (Fact X → Type 0) → Type 0
UnifyingIsSound {X} constant P =
    (q r : Cq) (i j : ℕ) (tuple : List X) → unified q i j ≡ Some r → HasTuple constant P r tuple → HasTuple constant P q tuple

-- Two atoms have no meeting exactly where no assignment makes them one fact. Different known constants stand for different terms.
abbrev pub NoneIsApart : {X : Type 0} → (ℕ → X) → Type 0
NoneIsApart constant = (bound : ℕ) (answer : List Arg) (g h : Atom) → AreApart constant bound → KnownAtom (IsBelow bound) g
    → KnownAtom (IsBelow bound) h → (meeting answer g h ≡ None) ↔ (Unifiable constant g h → ⊥)

-- A meeting of the atoms replaces a variable by itself or by what wins over it.
abbrev pub WinnersStay : List Arg → Atom → Atom → Type 0
WinnersStay answer g h = (m : Meeting) (n : ℕ) → meeting answer g h ≡ Some m → Beats answer (m.replacement n) n

-- A meeting of the atoms moves no variable that stands in neither.
abbrev pub OthersStay : List Arg → Atom → Atom → Type 0
OthersStay answer g h =
    (m : Meeting) (n : ℕ) → meeting answer g h ≡ Some m → (Occurs n g → ⊥) → (Occurs n h → ⊥) → m.replacement n ≡ Var n
