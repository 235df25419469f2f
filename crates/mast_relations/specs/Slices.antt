-- Slices of the relation that a join begins with, and the answers of a slice.
use Rattle.std.specs.Prelude.{◌≡◌, ℕ, ◌<◌, ◌≤◌, ◌⊎◌, List, [], ◌∷◌, map, get_or, slice_get, Some}
use Rattle.mast_relations.specs.declared.query.Pattern.{Pattern}
use Rattle.mast_relations.specs.declared.query.Conjunction.{Conjunction}
use Rattle.mast_relations.specs.Matches.{Rows, IsMatch, relation_of}

-- what stands in place of a pattern that is not there
abbrev pub nowhere : Pattern
nowhere = record { relation = 0; variables = [] }

-- the pattern of a number
abbrev pub pattern_at : Conjunction → ℕ → Pattern
pattern_at query number = get_or query.patterns number nowhere

-- the row has a number from `from` to below `to`
pub record StandsBetween (from to : ℕ) (row : List ℕ) (rows : List (List ℕ)) : Type 0 where
  pub place : ℕ
  pub is : slice_get rows place ≡ Some row
  pub low : from ≤ place
  pub high : place < to

-- some match, in which the row of the pattern `start` is one of the slice, makes the answer list this tuple
pub record IsAnswerIn (relations : List Rows) (query : Conjunction) (start from to : ℕ) (tuple : List ℕ) : Type 0 where
  pub assignment : ℕ → ℕ
  pub is_match : IsMatch relations query.patterns assignment
  pub begins : StandsBetween from to (map assignment (pattern_at query start).variables) (relation_of relations (pattern_at query start)).list
  pub gives : map assignment query.answer ≡ tuple

-- numbers that cut what lies between two numbers, in order
abbrev pub AreCuts : ℕ → List ℕ → ℕ → Type 0
AreCuts from [] to = from ≤ to
AreCuts from (cut ∷ cuts) to = (from ≤ cut) × AreCuts cut cuts to

-- the tuple is an answer of one of the slices between the cuts
abbrev pub IsAnswerInOne : List Rows → Conjunction → ℕ → ℕ → List ℕ → ℕ → List ℕ → Type 0
IsAnswerInOne relations query start from [] to tuple = IsAnswerIn relations query start from to tuple
IsAnswerInOne relations query start from (cut ∷ cuts) to tuple =
    IsAnswerIn relations query start from cut tuple ⊎ IsAnswerInOne relations query start cut cuts to tuple
