-- The facts of a map as numbers, and the rows that give them.
use Rattle.std.specs.Prelude.{◌≡◌, ℕ, ◌<◌, List, [], ◌∷◌, ◌++◌, get_or, slice_get, Option, Some, None}
use Rattle.std.specs.List.{AllByRecursion}
use Rattle.std.specs.Option.{option_copied}
use Rattle.mast_terms.specs.declared.term.Term.{Term}
use Rattle.mast_cq.specs.Meanings.{Fact}
use Rattle.mast_cq.specs.Queries.{In}
use Rattle.mast_mapping.specs.declared.split_map.SplitMap.{SplitMap}
use Rattle.mast_canon.specs.declared.rows.RowId.{RowId}
use Rattle.mast_canon.specs.Choices.{chosen}
use Rattle.mast_canon.specs.Facts.{chosen_rows, fact_of}
use Rattle.mast_canon.specs.Fitting.{Fits}
use Rattle.mast_join.specs.declared.base.Base.{Base}
use Rattle.mast_join.specs.declared.extensions.Wanted.{Wanted}
use Rattle.mast_join.specs.declared.extensions.Wanted.TheVariants.{Tuples, SomeHits, AllHits}
use Rattle.mast_join.specs.declared.facts.MadeFact.{MadeFact}
use Rattle.mast_join.specs.declared.facts.Pool.{Pool}
use Rattle.mast_join.specs.Chosen.{IsMet}
use Rattle.mast_join.specs.Extensions.{Over, over_of, unfolding_by}
use Rattle.mast_join.specs.inside.Places.{HasNumbers}
use Rattle.mast_join.specs.inside.Values.{AreNoted, IsFront, KeepsNumbers}

-- what is asked over
abbrev pub asked_over : Base → Over
asked_over base = over_of base.spec.now base.tables.now.list (option_copied base.only)

-- the unfolder is that of the specification, and the tables fit its declarations
pub record IsBase (base : Base) : Type 0 where
  pub unfolder : base.unfolder.now ≡ unfolding_by base.spec.now
  pub fits : Fits base.spec.now.tables base.tables.now.list

-- the numbers of terms and of sets stay
pub record IsPoolMore (old new : Pool) : Type 0 where
  pub terms : KeepsNumbers old.terms new.terms
  pub sets : IsFront old.sets.items new.sets.items

-- what is noted of values is right
abbrev pub IsPoolOf : Base → Pool → Type 0
IsPoolOf base pool = AreNoted pool.terms.terms base.tables.now.list pool.values

-- the number is that of the set, where sets are wanted
abbrev pub HasSet : Wanted → List (List RowId) → ℕ → List RowId → Type 0
HasSet Tuples sets number rows = Unit {0}
HasSet SomeHits sets number rows = slice_get sets number ≡ Some rows
HasSet AllHits sets number rows = slice_get sets number ≡ Some rows

-- what is made has the numbers of the fact, and of the rows that give it
pub record IsMade (wanted : Wanted) (pool : Pool) (fact : Fact Term) (rows : List RowId) (made : MadeFact) : Type 0 where
  pub numbers : HasNumbers pool.terms.terms fact made.first made.second
  pub set : HasSet wanted pool.sets.items made.set rows

-- what is made of the fact of a choice, if it gives one, stands behind the others
abbrev pub AddsFact : Wanted → Pool → Option (Fact Term) → List RowId → List MadeFact → List MadeFact → Type 0
AddsFact wanted pool None rows old new = new ≡ old
AddsFact wanted pool (Some fact) rows old new = (made : MadeFact) × IsMade wanted pool fact rows made × (new ≡ old ++ made ∷ [])

-- what is made of the fact and the rows is there
pub record IsMadeIn (wanted : Wanted) (pool : Pool) (fact : Fact Term) (rows : List RowId) (facts : List MadeFact) : Type 0 where
  pub made : MadeFact
  pub there : In made facts
  pub is : IsMade wanted pool fact rows made

-- the fact that a choice gives
abbrev pub fact_by : Over → SplitMap → List ℕ → Option (Fact Term)
fact_by over map choice = fact_of over.sources.tables map.query (chosen over.sources.tables over.rows map.query.from choice) map.head

-- and its rows
abbrev pub rows_by : Over → SplitMap → List ℕ → List RowId
rows_by over map choice = chosen_rows over.sources.tables map.query.from choice

-- what is made is of a fact that a choice gives which meets the map's query
pub record IsFactOfMap (base : Base) (pool : Pool) (map : SplitMap) (made : MadeFact) : Type 0 where
  pub choice : List ℕ
  pub met : IsMet (asked_over base).sources.tables (asked_over base).rows map.query (asked_over base).only choice
  pub fact : Fact Term
  pub gives : fact_by (asked_over base) map choice ≡ Some fact
  pub is : IsMade base.wanted pool fact (rows_by (asked_over base) map choice) made

-- the facts of the first choices
pub record AreFactsTo (base : Base) (pool : Pool) (map : SplitMap) (choices : List (List ℕ)) (count : ℕ) (facts : List MadeFact) : Type 0 where
  pub right : AllByRecursion (IsFactOfMap base pool map) facts
  pub all : (place : ℕ) (fact : Fact Term) → place < count → fact_by (asked_over base) map (get_or choices place []) ≡ Some fact
      → IsMadeIn base.wanted pool fact (rows_by (asked_over base) map (get_or choices place [])) facts

-- the facts of the map
pub record AreFactsOf (base : Base) (pool : Pool) (map : SplitMap) (facts : List MadeFact) : Type 0 where
  pub right : AllByRecursion (IsFactOfMap base pool map) facts
  pub all : (choice : List ℕ) (fact : Fact Term) → IsMet (asked_over base).sources.tables (asked_over base).rows map.query (asked_over base).only choice
      → fact_by (asked_over base) map choice ≡ Some fact → IsMadeIn base.wanted pool fact (rows_by (asked_over base) map choice) facts
