-- How a join goes: what is bound, and which answers are left for these values of it.
use Rattle.std.specs.Prelude.{◌≡◌, ℕ, ◌<◌, Bool, true, false, List, [], ◌∷◌, ◌++◌, length, map, Result, Ok, Err}
use Rattle.mast_relations.specs.declared.query.Pattern.{Pattern}
use Rattle.mast_relations.specs.declared.query.Conjunction.{Conjunction}
use Rattle.mast_relations.specs.declared.plan.Step.{Step}
use Rattle.mast_relations.specs.declared.plan.Plan.{Plan}
use Rattle.mast_relations.specs.Matches.{Rows, IsMatch}
use Rattle.mast_relations.specs.Plans.{AreSteps}
use Rattle.mast_relations.specs.Slices.{IsAnswerIn, pattern_at}
use Rattle.mast_relations.specs.Stores.{HasAll, HasOnlyGained, Stored, contents}

-- the variables that are bound before steps
abbrev pub bound_at : List Step → List ℕ → List ℕ
bound_at [] end = end
bound_at (step ∷ steps) end = step.bound.items

-- the patterns of steps
abbrev pub patterns_of : Conjunction → List Step → List Pattern
patterns_of query steps = map (λ step. pattern_at query step.pattern) steps

-- some match of the patterns, of which P holds, gives what is bound these values
pub record Extends (relations : List Rows) (patterns : List Pattern) (bound values : List ℕ) (P : (ℕ → ℕ) → Type 0) : Type 0 where
  pub assignment : ℕ → ℕ
  pub agrees : map assignment bound ≡ values
  pub is_match : IsMatch relations patterns assignment
  pub holds : P assignment

-- the assignment makes the answer list this tuple, which passes
abbrev pub Gives : List ℕ → (List ℕ → Bool) → List ℕ → (ℕ → ℕ) → Type 0
Gives answer passes tuple assignment = (map assignment answer ≡ tuple) × (passes tuple ≡ true)

-- there is a value for each variable that is bound before the steps, and they lead to the end
pub record CanGoOn (stored : List Stored) (query : Conjunction) (steps : List Step) (end values : List ℕ) : Type 0 where
  pub steps_are : AreSteps stored query (bound_at steps end) steps end
  pub long : length values ≡ length (bound_at steps end)

-- the result says whether it is so
abbrev pub Decides : {E : Type 0} → Result Bool E → Type 0 → Type 0
Decides (Ok true) P = P
Decides (Ok false) P = P → ⊥
Decides (Err e) P = Unit {0}

-- what is there once it ended: all answers; or one, where it was to stop there
abbrev pub HasEnded : {E : Type 0} → Result Bool E → (List ℕ → Type 0) → Bool → Rows → Type 0
HasEnded (Ok true) Answer first new = (first ≡ true) × (0 < length new.list)
HasEnded (Ok false) Answer first new = HasAll Answer new
HasEnded (Err e) Answer first new = Unit {0}

-- only answers were put, and it ended so
pub record HasGained {E : Type 0} (result : Result Bool E) (Answer : List ℕ → Type 0) (first : Bool) (old new : Rows) : Type 0 where
  pub only : HasOnlyGained Answer old new
  pub ended : HasEnded result Answer first new

-- the asked steps from here on have a match
abbrev pub AskedMatch : List Stored → Plan → List Step → List ℕ → Type 0
AskedMatch stored plan steps values =
    Extends (contents stored) (patterns_of plan.query steps) (bound_at steps plan.end.items) values (λ assignment. Unit {0})

-- the answers that are left for the joined steps from here on
abbrev pub LeftAnswer : List Stored → Plan → (List ℕ → Bool) → List Step → List ℕ → List ℕ → Type 0
LeftAnswer stored plan passes steps values tuple =
    Extends (contents stored) (patterns_of plan.query steps ++ patterns_of plan.query plan.asked.items)
    (bound_at steps plan.bound.items) values (Gives plan.query.answer passes tuple)

-- an answer of a slice that passes
abbrev pub SliceAnswer : List Stored → Plan → (List ℕ → Bool) → ℕ → ℕ → List ℕ → Type 0
SliceAnswer stored plan passes from to tuple =
    IsAnswerIn (contents stored) plan.query plan.start from to tuple × (passes tuple ≡ true)
