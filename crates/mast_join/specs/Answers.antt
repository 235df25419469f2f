-- Answers as rows of numbers: what the rows stand for, and what those of a query that is ready tell.
use Rattle.std.specs.Prelude.{◌≡◌, ℕ, ◌+◌, ◌<◌, ◌⊎◌, List, [], ◌∷◌, ◌++◌, length, map, slice_get, Some}
use Rattle.std.specs.List.{AllByRecursion}
use Rattle.mast_terms.specs.declared.term.Term.{Term}
use Rattle.mast_cq.specs.declared.atom.Arg.{Arg}
use Rattle.mast_cq.specs.declared.atom.Arg.TheVariants.{Blank, Var, Constant}
use Rattle.mast_cq.specs.declared.atom.Atom.{Atom}
use Rattle.mast_cq.specs.declared.query.Cq.{Cq}
use Rattle.mast_cq.specs.Queries.{In, viewed}
use Rattle.mast_cq.specs.NormalForms.{Occurs}
use Rattle.mast_cq.specs.UnifierMeanings.{IsBelow, KnownAtom}
use Rattle.mast_canon.specs.declared.rows.RowId.{RowId}
use Rattle.mast_numbers.specs.Numbered.{Numbered}
use Rattle.mast_relations.specs.Matches.{IsAnswer, IsConjunction}
use Rattle.mast_relations.specs.Plans.{IsPlan}
use Rattle.mast_relations.specs.Slices.{IsAnswerIn}
use Rattle.mast_relations.specs.Stores.{Stored, contents}
use Rattle.mast_join.specs.declared.extensions.Wanted.{Wanted}
use Rattle.mast_join.specs.declared.extensions.Wanted.TheVariants.{Tuples, SomeHits, AllHits}
use Rattle.mast_join.specs.declared.ready.Ready.{Ready}
use Rattle.mast_join.specs.Extensions.{Over, HasBy, HasOver, union}

-- what clauses see of extensions: what they are over, what is wanted of queries, the terms and the sets of rows, each list in the order of
-- its numbers, and the relations of numbers
pub record Extended : Type 0 where
  pub over : Over
  pub wanted : Wanted
  pub numbered : Numbered
  pub sets : List (List RowId)
  pub relations : List Stored

-- the variable stands in one of the atoms
abbrev pub OccursIn : ℕ → List Atom → Type 0
OccursIn n [] = ⊥
OccursIn n (g ∷ gs) = Occurs n g ⊎ OccursIn n gs

-- what may stand in the answer list: one of so many constants, or a variable of the atoms
abbrev pub IsAnswerArg : ℕ → List Atom → Arg → Type 0
IsAnswerArg constants atoms Blank = ⊥
IsAnswerArg constants atoms (Var n) = OccursIn n atoms
IsAnswerArg constants atoms (Constant c) = c < constants

-- the query is in range of so many constants
pub record IsAsked (constants : ℕ) (q : Cq) : Type 0 where
  pub atoms : AllByRecursion (KnownAtom (IsBelow constants)) q.atoms
  pub answer : AllByRecursion (IsAnswerArg constants q.atoms) q.answer

-- the numbers are those of these things, place by place
abbrev pub AreNumbersOf : {X : Type 0} → List X → List ℕ → List X → Type 0
AreNumbersOf all numbers things = map (slice_get all) numbers ≡ map Some things

-- the row has the numbers of a tuple of the query
pub record IsTupleRow (e : Extended) (q : Cq) (row : List ℕ) : Type 0 where
  pub tuple : List Term
  pub numbers : AreNumbersOf e.numbered.terms row tuple
  pub has : HasOver e.over q tuple

-- some row with P has the numbers of the tuple
pub record IsFound (e : Extended) (P : List ℕ → Type 0) (tuple : List Term) : Type 0 where
  pub row : List ℕ
  pub numbers : AreNumbersOf e.numbered.terms row tuple
  pub found : P row

-- the row has the numbers of a tuple and of sets of rows by which the query has it, one for each atom
pub record IsHitRow (e : Extended) (q : Cq) (row : List ℕ) : Type 0 where
  pub first : List ℕ
  pub second : List ℕ
  pub is : row ≡ first ++ second
  pub tuple : List Term
  pub numbers : AreNumbersOf e.numbered.terms first tuple
  pub sets : List (List RowId)
  pub set_numbers : AreNumbersOf e.sets second sets
  pub has : HasBy e.over q tuple sets

-- some row with P has the numbers of the tuple, and of sets of rows that have Q
pub record IsHitFound (e : Extended) (P : List ℕ → Type 0) (tuple : List Term) (Q : List (List RowId) → Type 0) : Type 0 where
  pub first : List ℕ
  pub second : List ℕ
  pub numbers : AreNumbersOf e.numbered.terms first tuple
  pub sets : List (List RowId)
  pub set_numbers : AreNumbersOf e.sets second sets
  pub found : P (first ++ second)
  pub has : Q sets

-- the rows of the one list are among those of the other
abbrev pub AreWithin : List RowId → List RowId → Type 0
AreWithin rows others = AllByRecursion (λ row. In row others) rows

-- the rows with P are exactly the tuples of the query
pub record TellTuples (e : Extended) (q : Cq) (P : List ℕ → Type 0) : Type 0 where
  pub right : (row : List ℕ) → P row → IsTupleRow e q row
  pub all : (tuple : List Term) → HasOver e.over q tuple → IsFound e P tuple

-- the rows with P are hits of the query, and each tuple that it has is that of one
pub record TellSomeHits (e : Extended) (q : Cq) (P : List ℕ → Type 0) : Type 0 where
  pub right : (row : List ℕ) → P row → IsHitRow e q row
  pub all : (tuple : List Term) → HasOver e.over q tuple → IsHitFound e P tuple (λ sets. Unit {0})

-- the rows with P are hits of the query, and each hit has one of its tuple whose rows are among its own
pub record TellAllHits (e : Extended) (q : Cq) (P : List ℕ → Type 0) : Type 0 where
  pub right : (row : List ℕ) → P row → IsHitRow e q row
  pub all : (tuple : List Term) (sets : List (List RowId)) → HasBy e.over q tuple sets
      → IsHitFound e P tuple (λ least. AreWithin (union least) (union sets))

-- the rows with P tell what is wanted of the query
abbrev pub Tell : Wanted → Extended → Cq → (List ℕ → Type 0) → Type 0
Tell Tuples = TellTuples
Tell SomeHits = TellSomeHits
Tell AllHits = TellAllHits

-- how wide the rows are that tell what is wanted: a column for each place of the answer list, and one for the set of rows of each atom
abbrev pub row_width : Wanted → Cq → ℕ
row_width Tuples q = length q.answer
row_width SomeHits q = length q.answer + length q.atoms
row_width AllHits q = length q.answer + length q.atoms

-- the query is ready: its plan is right for the relations, and the rows that its join gives tell what is wanted
pub record IsReady (e : Extended) (ready : Ready) : Type 0 where
  pub plan : IsPlan e.relations ready.plan
  pub query : IsConjunction (contents e.relations) ready.plan.query
  pub wide : length ready.plan.query.answer ≡ row_width e.wanted (viewed ready.query)
  pub tell : Tell e.wanted e (viewed ready.query) (IsAnswer (contents e.relations) ready.plan.query)

-- the rows of numbers that the join of a query that is ready gives of a slice
abbrev pub HasInSlice : Extended → Ready → ℕ → ℕ → List ℕ → Type 0
HasInSlice e ready = IsAnswerIn (contents e.relations) ready.plan.query ready.plan.start

-- what was ready still is
abbrev pub KeepsReady : Extended → Extended → Type 0
KeepsReady old new = (ready : Ready) → IsReady old ready → IsReady new ready

-- the same is asked over, and the same is wanted
pub record IsOverSame (old new : Extended) : Type 0 where
  pub over : new.over ≡ old.over
  pub wanted : new.wanted ≡ old.wanted

-- the row is of numbers of terms, and then of numbers of sets
pub record IsNumberRow (e : Extended) (row : List ℕ) (terms : ℕ) : Type 0 where
  pub first : List ℕ
  pub second : List ℕ
  pub is : row ≡ first ++ second
  pub long : length first ≡ terms
  pub of_terms : AllByRecursion (λ number. number < length e.numbered.terms) first
  pub of_sets : AllByRecursion (λ number. number < length e.sets) second
