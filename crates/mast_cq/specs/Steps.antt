-- A step of a closure: two atoms of a query, at two of its places, are merged into their meeting, and the normal form is taken.
use Rattle.std.specs.Prelude.{◌≡◌, ℕ, List, ◌∷◌, map, Some}
use Rattle.std.specs.List.{AllByRecursion}
use Rattle.mast_cq.specs.declared.atom.Atom.{Atom}
use Rattle.mast_cq.specs.declared.query.Cq.{Cq}
use Rattle.mast_cq.specs.ListPlaces.{TwoPlaces}
use Rattle.mast_cq.specs.Meanings.{Fact, Gives, MetBy, HasTuple}
use Rattle.mast_cq.specs.NormalForms.{normal_form}
use Rattle.mast_cq.specs.Unification.{replace_arg, replace, Meeting, meeting}
use Rattle.mast_cq.specs.UnifierMeanings.{AreApart, BothAre, IsBelow, KnownAtom, Respects}

-- the merge of two atoms of a query by a meeting: the meeting's atom first, and then the other atoms in their order
abbrev pub merged : Cq → Meeting → List Atom → Cq
merged q m others = record {
  answer = map (replace_arg m.replacement) q.answer;
  atoms = m.atom ∷ map (replace m.replacement) others;
}

-- the query after the step: the normal form of the merge
abbrev pub stepped : Cq → Meeting → List Atom → Cq
stepped q m others = normal_form (merged q m others)

-- what the first atom is under an assignment, as a fact with P, the second is under it too
abbrev pub Implies : {X : Type 0} → (ℕ → X) → (Fact X → Type 0) → Atom → Atom → Type 0
Implies {X} constant P g h = (s : ℕ → X) → MetBy constant P s g → MetBy constant P s h

-- Steps are sound: the atoms g and h stand at two places of the query, and two atoms that imply them have a meeting. Then the query has
-- each tuple that it has after the step.
abbrev pub StepsAreSound : {X : Type 0} → (ℕ → X) → (Fact X → Type 0) → Type 0
StepsAreSound {X} constant P = (q : Cq) (g h left right : Atom) (others : List Atom) (m : Meeting) (tuple : List X)
    → TwoPlaces q.atoms g h others → meeting q.answer left right ≡ Some m → Implies constant P left g → Implies constant P right h
    → HasTuple constant P (stepped q m others) tuple → HasTuple constant P q tuple

-- under the assignment each of these atoms of a query is a fact with P, and its answer list takes the tuple
pub record Holding {X : Type 0} (constant : ℕ → X) (P : Fact X → Type 0) (s : ℕ → X) (q : Cq) (others : List Atom) (tuple : List X) : Type 0 where
  pub each : AllByRecursion (MetBy constant P s) others
  pub answers : Gives constant s q.answer tuple

-- there is a meeting of left and right that the assignment respects, and the query has the tuple after the step
pub record SteppedHas {X : Type 0} (constant : ℕ → X) (P : Fact X → Type 0) (s : ℕ → X) (q : Cq) (left right : Atom) (others : List Atom) (tuple : List X) : Type 0 where
  pub by : Meeting
  pub is : meeting q.answer left right ≡ Some by
  pub respects : Respects constant s by.replacement
  pub has : HasTuple constant P (stepped q by others) tuple

-- Steps are complete: where one fact with P is two atoms under an assignment, and so are the other atoms of the query, the two atoms
-- have a meeting, and after its step the query has the tuple. Different known constants stand for different terms.
abbrev pub StepsAreComplete : {X : Type 0} → (ℕ → X) → (Fact X → Type 0) → Type 0
StepsAreComplete {X} constant P = (bound : ℕ) (s : ℕ → X) (q : Cq) (left right : Atom) (others : List Atom) (f : Fact X) (tuple : List X)
    → AreApart constant bound → KnownAtom (IsBelow bound) left → KnownAtom (IsBelow bound) right → BothAre constant s left right f → P f
    → Holding constant P s q others tuple → SteppedHas constant P s q left right others tuple

-- Steps follow: where an assignment respects the replacement of a meeting, whichever it is, and makes its atom a fact with P, the query
-- has the tuple after the step.
abbrev pub StepsFollow : {X : Type 0} → (ℕ → X) → (Fact X → Type 0) → Type 0
StepsFollow {X} constant P = (s : ℕ → X) (q : Cq) (m : Meeting) (others : List Atom) (tuple : List X)
    → Respects constant s m.replacement → MetBy constant P s m.atom → Holding constant P s q others tuple
    → HasTuple constant P (stepped q m others) tuple
