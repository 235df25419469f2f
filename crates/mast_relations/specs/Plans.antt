-- Plans of joins: an order of the patterns, and for each the index by which its rows are found.
use Rattle.std.specs.Prelude.{◌≡◌, ℕ, ◌<◌, ◌⊎◌, List, [], ◌∷◌, ◌++◌, length, map, get_or}
use Rattle.std.specs.List.{AllByRecursion}
use Rattle.mast_relations.specs.declared.query.Pattern.{Pattern}
use Rattle.mast_relations.specs.declared.query.Conjunction.{Conjunction}
use Rattle.mast_relations.specs.declared.plan.Step.{Step}
use Rattle.mast_relations.specs.declared.plan.Plan.{Plan}
use Rattle.mast_relations.specs.Matches.{In, IsPattern, relation_of, nothing}
use Rattle.mast_relations.specs.Slices.{pattern_at}
use Rattle.mast_relations.specs.Stores.{Stored, contents}

-- the elements at these places
abbrev pub picked : List ℕ → List ℕ → List ℕ
picked elements places = map (λ place. get_or elements place 0) places

-- each of the numbers is below a bound
abbrev pub AreBelow : ℕ → List ℕ → Type 0
AreBelow bound numbers = AllByRecursion (λ number. number < bound) numbers

-- no element stands twice
abbrev pub Once : {X : Type 0} → List X → Type 0
Once [] = Unit {0}
Once (x ∷ xs) = (In x xs → ⊥) × Once xs

-- what stands in place of a relation that is not kept
abbrev pub none : Stored
none = record { rows = nothing; indices = [] }

-- the lists of columns by which a relation has an index
abbrev pub indices_of : List Stored → ℕ → List (List ℕ)
indices_of stored number = (get_or stored number none).indices

-- the columns by which a step looks rows up
abbrev pub columns_of : List Stored → Step → List ℕ
columns_of stored step = get_or (indices_of stored step.relation) step.index []

-- the variables that a step binds
abbrev pub bound_by : Conjunction → Step → List ℕ
bound_by query step = picked (pattern_at query step.pattern).variables step.fresh.items

-- the variables of the pattern of a step
abbrev pub variables_of : Conjunction → Step → List ℕ
variables_of query step = (pattern_at query step.pattern).variables

-- the step joins its pattern to what is bound: each of the pattern's columns is a key of the index, with the place of its variable
-- among those that are bound, or it is fresh, and binds its variable
pub record IsStep (stored : List Stored) (query : Conjunction) (step : Step) : Type 0 where
  pub there : step.pattern < length query.patterns
  pub pattern : IsPattern (contents stored) (pattern_at query step.pattern)
  pub relation : step.relation ≡ (pattern_at query step.pattern).relation
  pub index : step.index < length (indices_of stored step.relation)
  pub columns : AreBelow (length (variables_of query step)) (columns_of stored step)
  pub places : AreBelow (length step.bound.items) step.places.items
  pub keys : picked (variables_of query step) (columns_of stored step) ≡ picked step.bound.items step.places.items
  pub fresh : AreBelow (length (variables_of query step)) step.fresh.items
  pub all : (column : ℕ) → column < length (variables_of query step)
      → In column (columns_of stored step) ⊎ In column step.fresh.items

-- the steps follow each other, each over the variables that are bound before it, and some are bound at the end
abbrev pub AreSteps : List Stored → Conjunction → List ℕ → List Step → List ℕ → Type 0
AreSteps stored query bound [] end = bound ≡ end
AreSteps stored query bound (step ∷ steps) end =
    (step.bound.items ≡ bound) × IsStep stored query step × AreSteps stored query (bound ++ bound_by query step) steps end

-- the plan is right for the relations as they are: it begins with one of the patterns of its query, steps to each other,
-- and has bound the answer variables after the steps that it joins; the others only ask whether there is a match
pub record IsPlan (stored : List Stored) (plan : Plan) : Type 0 where
  pub begins : plan.start < length plan.query.patterns
  pub first : IsPattern (contents stored) (pattern_at plan.query plan.start)
  pub relation : plan.relation ≡ (pattern_at plan.query plan.start).relation
  pub size : plan.size ≡ length (relation_of (contents stored) (pattern_at plan.query plan.start)).list
  pub joined : AreSteps stored plan.query (pattern_at plan.query plan.start).variables plan.joined.items plan.bound.items
  pub asked : AreSteps stored plan.query plan.bound.items plan.asked.items plan.end.items
  pub once : Once plan.end.items
  pub all : (number : ℕ) → number < length plan.query.patterns
      → (number ≡ plan.start) ⊎ In number (map (λ step. step.pattern) (plan.joined.items ++ plan.asked.items))
  pub answer : AreBelow (length plan.bound.items) plan.answer.items
  pub answers : picked plan.bound.items plan.answer.items ≡ plan.query.answer

-- what was a plan still is one
abbrev pub KeepsPlans : List Stored → List Stored → Type 0
KeepsPlans old new = (plan : Plan) → IsPlan old plan → IsPlan new plan

-- the pattern is not of this relation
abbrev pub IsApart : ℕ → Pattern → Type 0
IsApart number pattern = pattern.relation ≡ number → ⊥

-- what was a plan without a pattern of this relation still is one
abbrev pub KeepsOtherPlans : ℕ → List Stored → List Stored → Type 0
KeepsOtherPlans number old new = (plan : Plan) → AllByRecursion (IsApart number) plan.query.patterns → IsPlan old plan → IsPlan new plan
