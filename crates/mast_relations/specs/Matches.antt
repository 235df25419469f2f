-- Relations of numbers, conjunctions of patterns over them, matches and answers.
use Rattle.std.specs.Prelude.{◌≡◌, ℕ, ◌<◌, ◌⊎◌, Bool, true, false, List, [], ◌∷◌, length, map, get_or, Option, Some, None}
use Rattle.std.specs.List.{AllByRecursion}
use Rattle.mast_terms.specs.Vocabularies.{EachOnce}
use Rattle.mast_relations.specs.declared.query.Pattern.{Pattern}
use Rattle.mast_relations.specs.declared.query.Conjunction.{Conjunction}

-- x is an element of the list
abbrev pub In : {X : Type 0} → X → List X → Type 0
In x [] = ⊥
In x (y ∷ ys) = (x ≡ y) ⊎ In x ys

-- rows of one width
pub record Rows : Type 0 where
  pub width : ℕ
  pub list : List (List ℕ)

-- what stands in place of a relation that is not there
abbrev pub nothing : Rows
nothing = record { width = 0; list = [] }

-- the relation of a pattern
abbrev pub relation_of : List Rows → Pattern → Rows
relation_of relations pattern = get_or relations pattern.relation nothing

-- an assignment of numbers to variables is a match: each pattern becomes a row of its relation
abbrev pub IsMatch : List Rows → List Pattern → (ℕ → ℕ) → Type 0
IsMatch relations patterns assignment =
    AllByRecursion (λ pattern. In (map assignment pattern.variables) (relation_of relations pattern).list) patterns

-- some match makes the answer list this tuple
pub record IsAnswer (relations : List Rows) (query : Conjunction) (tuple : List ℕ) : Type 0 where
  pub assignment : ℕ → ℕ
  pub is_match : IsMatch relations query.patterns assignment
  pub gives : map assignment query.answer ≡ tuple

-- the pattern is of a relation that is there, has one variable for each of its columns, and different ones
pub record IsPattern (relations : List Rows) (pattern : Pattern) : Type 0 where
  pub there : pattern.relation < length relations
  pub wide : length pattern.variables ≡ (relation_of relations pattern).width
  pub different : EachOnce pattern.variables

-- the variable stands in one of the patterns
abbrev pub StandsIn : List Pattern → ℕ → Type 0
StandsIn [] variable = ⊥
StandsIn (pattern ∷ patterns) variable = In variable pattern.variables ⊎ StandsIn patterns variable

-- a conjunction over these relations: there is a pattern, and each answer variable stands in one
pub record IsConjunction (relations : List Rows) (query : Conjunction) : Type 0 where
  pub some : 0 < length query.patterns
  pub patterns : AllByRecursion (IsPattern relations) query.patterns
  pub answered : AllByRecursion (StandsIn query.patterns) query.answer

-- an answer that passes the test, or none where no answer does
abbrev pub IsFirst : (List ℕ → Type 0) → (List ℕ → Bool) → Option (List ℕ) → Type 0
IsFirst Answer passes None = (tuple : List ℕ) → Answer tuple → passes tuple ≡ false
IsFirst Answer passes (Some tuple) = Answer tuple × (passes tuple ≡ true)
