-- The words of the laws of meetings and of closures.
use Rattle.std.specs.Prelude.{◌≡◌, ◌≢◌, ◌≤◌, ℕ, List, length, Some, Bool, true}
use Rattle.std.specs.declared.cmp.Ordering.TheVariants.{Less}
use Rattle.mast_terms.specs.declared.name.NameKind.{NameKind}
use Rattle.mast_cq.specs.declared.atom.Arg.{Arg}
use Rattle.mast_cq.specs.declared.atom.Arg.TheVariants.{Var}
use Rattle.mast_cq.specs.declared.atom.Atom.{Atom}
use Rattle.mast_cq.specs.declared.query.Cq.{Cq}
use Rattle.mast_cq.specs.NormalForms.{normal_form}
use Rattle.mast_cq.specs.Origins.{KnownQuery, NamesPass, Passes}
use Rattle.mast_cq.specs.Queries.{atom_order}
use Rattle.mast_cq.specs.Sorts.{EachHasOneSort}
use Rattle.mast_cq.specs.Unification.{Replacement, Meeting, meeting}
use Rattle.mast_tbox.specs.declared.axiom.Inclusion.{Inclusion}
use Rattle.mast_tbox.specs.Names.{AreNamed}
use Rattle.mast_rewrite.specs.Closures.{ClosureStep, Closure}
use Rattle.mast_rewrite.specs.CountingMeetings.{IsMeeting, Leads, Counts}

-- the replacement leaves each variable as it is
abbrev pub ChangesNothing : Replacement → Type 0
ChangesNothing r = (n : ℕ) → r n ≡ Var n

-- the atom has a meeting with itself, at itself, which changes nothing
pub record MeetsItself (answer : List Arg) (g : Atom) : Type 0 where
  pub by : Meeting
  pub meets : meeting answer g g ≡ Some by
  pub changes_nothing : ChangesNothing by.replacement
  pub at_itself : by.atom ≡ g

-- the meeting is led by one that counts
pub record IsLed (tbox : List Inclusion) (q : Cq) (g h : Atom) (m : Meeting) : Type 0 where
  pub by : Meeting
  pub counts : Counts tbox q g h by
  pub leads : Leads tbox q by m

-- of two atoms each meeting is
abbrev pub EachIsLed : List Inclusion → Cq → Atom → Atom → Type 0
EachIsLed tbox q g h = (m : Meeting) → IsMeeting tbox q g h m → IsLed tbox q g h m

-- the meeting leads each that leads it, and none of these has an earlier atom: the test of one that counts
pub record CountsSimply (tbox : List Inclusion) (q : Cq) (g h : Atom) (m : Meeting) : Type 0 where
  pub is_meeting : IsMeeting tbox q g h m
  pub leads_back : (other : Meeting) → IsMeeting tbox q g h other → Leads tbox q other m → Leads tbox q m other
  pub none_earlier : (other : Meeting) → IsMeeting tbox q g h other → Leads tbox q other m → atom_order other.atom m.atom ≢ Less

-- a step from a query with the property leads to one that has it too
abbrev pub IsClosedUnderSteps : List Inclusion → (Cq → Type 0) → Type 0
IsClosedUnderSteps tbox P = (m n : Cq) → P m → ClosureStep tbox m n → P n

-- a set, given by a test, that has the normal form of the query and is closed under the steps has all of the closure
abbrev pub IsLeastClosure : List Inclusion → Cq → Type 0
IsLeastClosure tbox q = (set : Cq → Bool) → set (normal_form q) ≡ true → IsClosedUnderSteps tbox (λ m. set m ≡ true)
    → (m : Cq) → Closure tbox q m → set m ≡ true

-- a member of the closure has no more atoms than the query, and an answer list of the same length
pub record IsNoLarger (q m : Cq) : Type 0 where
  pub atoms : length m.atoms ≤ length q.atoms
  pub answer : length m.answer ≡ length q.answer

-- where the constants of a query are below a bound, those of the members of its closure are
abbrev pub KeepsKnown : Cq → Cq → Type 0
KeepsKnown q m = (bound : ℕ) → KnownQuery bound q → KnownQuery bound m

-- where each argument has one sort in a query, it has in them
abbrev pub KeepsSorts : Cq → Cq → Type 0
KeepsSorts q m = EachHasOneSort q.atoms → EachHasOneSort m.atoms

-- where the names of the inclusions and of a query pass a test of kind and number, theirs do
abbrev pub KeepsPassing : List Inclusion → Cq → Cq → Type 0
KeepsPassing tbox q m = (test : NameKind → ℕ → Bool) → AreNamed (Passes test) tbox → NamesPass test q → NamesPass test m
