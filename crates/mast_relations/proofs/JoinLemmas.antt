-- What a join has found.
use Rattle.std.proofs.Common.{◌≡◌, ℕ, ◌-◌, ◌<◌, ◌≤◌, Bool, true, false, List, [], ◌∷◌, ◌++◌, length, get_or, map, inl, inr, refl, sym, ap, subst, ◌∙◌, arith}
use Rattle.std.specs.Prelude.{Result, Ok, Err, IsErrAnd}
use Rattle.std.specs.List.{AllByRecursion}
use Rattle.mast_relations.specs.declared.plan.Plan.{Plan}
use Rattle.mast_relations.specs.declared.plan.Step.{Step}
use Rattle.mast_relations.specs.declared.query.Conjunction.{Conjunction}
use Rattle.mast_relations.specs.Matches.{In, IsMatch, Rows, relation_of}
use Rattle.mast_relations.specs.Plans.{AreSteps, IsPlan, bound_by, picked, variables_of}
use Rattle.mast_relations.specs.Slices.{nowhere}
use Rattle.mast_relations.specs.Stores.{HasAll, HasOnlyGained, IsInserted, Stored}
use Rattle.mast_relations.specs.inside.Lasts.{IsLast}
use Rattle.mast_relations.specs.inside.Joins.{AskedMatch, CanGoOn, Gives, HasEnded, HasGained, LeftAnswer, patterns_of}
use Rattle.mast_relations.proofs.LastLemmas.{IsWalked, walk_end, walk_here, walk_next}
use Rattle.mast_relations.proofs.ListLemmas.{append_left, append_right, each_at_place, in_append}
use Rattle.mast_relations.proofs.MatchLemmas.{StepAgrees, goes_back, goes_on, settled_answer, settled_there, step_rows, values_read, values_then}

-- nothing gained
pub gained_none : (Answer : List ℕ → Type 0) (rows : Rows) → HasOnlyGained Answer rows rows
gained_none Answer rows = record { width = refl; kept = λ t i. i; within = λ t i. inl i }

-- what is gained one after the other
pub gained_then : (Answer More : List ℕ → Type 0) (old mid new : Rows) → HasOnlyGained Answer old mid → HasOnlyGained More mid new → ((t : List ℕ) → More t → Answer t) → HasOnlyGained Answer old new
gained_then Answer More old mid new a b up = record {
  width = b.width ∙ a.width;
  kept = λ t i. b.kept t (a.kept t i);
  within = λ t i. elim (b.within t i) [ inl j ↦ a.within t j | inr m ↦ inr (up t m) ];
}

-- what is there stays there
pub all_kept : (Answer More : List ℕ → Type 0) (old new : Rows) → HasAll Answer old → HasOnlyGained More old new → HasAll Answer new
all_kept Answer More old new a g = λ t h. g.kept t (a t h)

-- an answer is put
pub gained_row : {E : Type 0} (Answer : List ℕ → Type 0) (old new : Rows) (row : List ℕ) (result : Result Bool E) → IsInserted old row result new → Answer row → HasOnlyGained Answer old new
gained_row Answer old new row (Ok true) i a = subst (λ (k : Rows). HasOnlyGained Answer old k) (sym i.1) (record {
  width = refl;
  kept = λ t j. append_left t old.list (row ∷ []) j;
  within = λ t j. elim (in_append t old.list (row ∷ []) j) [ inl k ↦ inl k | inr k ↦ elim k [ inl e ↦ inr (subst Answer (sym e) a) | inr n ↦ absurd n ] ];
})
gained_row Answer old new row (Ok false) i a = subst (λ (k : Rows). HasOnlyGained Answer old k) (sym i.1) (gained_none Answer old)
gained_row Answer old new row (Err e) i a = subst (λ (k : Rows). HasOnlyGained Answer old k) (sym i) (gained_none Answer old)

-- then it is there
pub put_row : (E : Type 0) (old new : Rows) (row : List ℕ) (b : Bool) → IsInserted {E = E} old row (Ok b) new → In row new.list
put_row E old new row true i = subst (λ (k : Rows). In row k.list) (sym i.1) (append_right row old.list (row ∷ []) (inl refl))
put_row E old new row false i = subst (λ (k : Rows). In row k.list) (sym i.1) i.0

-- so something is
pub some_there : {X : Type 0} (x : X) (xs : List X) → In x xs → 0 < length xs
some_there x [] i = absurd i
some_there x (y ∷ xs) i = omega arith

-- A step of the joined ones.
module _ (stored : List Stored) (plan : Plan) (passes : List ℕ → Bool) (step : Step) (rest : List Step) (values : List ℕ) (can : CanGoOn stored plan.query (step ∷ rest) plan.bound.items values) where
  -- the answers over a row that agrees are answers
  pub row_answer : (place : ℕ) (row : List ℕ) → row ≡ get_or (step_rows stored step) place [] → place < length (step_rows stored step) → length row ≡ length (variables_of plan.query step) → StepAgrees stored step values place
      → (tuple : List ℕ) → LeftAnswer stored plan passes rest (values ++ picked row step.fresh.items) tuple → LeftAnswer stored plan passes (step ∷ rest) values tuple
  row_answer place row e lt wide agrees tuple x =
      goes_back stored plan.query step rest plan.bound.items values can (patterns_of plan.query rest ++ patterns_of plan.query plan.asked.items) (Gives plan.query.answer passes tuple) place row e lt wide agrees x

  -- where those of all rows that agree are there, all answers are
  pub rows_all : (found : Rows) (place : ℕ) → IsWalked (StepAgrees stored step values) (λ q. HasAll (LeftAnswer stored plan passes rest (values_then stored step values q)) found) (length (step_rows stored step)) place → place ≡ 0
      → HasAll (LeftAnswer stored plan passes (step ∷ rest) values) found
  rows_all found place w e = λ tuple x.
      let g = goes_on stored plan.query step rest plan.bound.items values can (patterns_of plan.query rest ++ patterns_of plan.query plan.asked.items) (Gives plan.query.answer passes tuple) x in
      walk_end (StepAgrees stored step values) (λ q. HasAll (LeftAnswer stored plan passes rest (values_then stored step values q)) found) (length (step_rows stored step)) place w e g.place g.within g.agrees tuple g.extends

-- A step of the asked ones.
module _ (stored : List Stored) (plan : Plan) (step : Step) (rest : List Step) (values : List ℕ) (can : CanGoOn stored plan.query (step ∷ rest) plan.end.items values) where
  -- a match over a row that agrees is one
  pub row_match : (place : ℕ) (row : List ℕ) → row ≡ get_or (step_rows stored step) place [] → place < length (step_rows stored step) → length row ≡ length (variables_of plan.query step) → StepAgrees stored step values place
      → AskedMatch stored plan rest (values ++ picked row step.fresh.items) → AskedMatch stored plan (step ∷ rest) values
  row_match place row e lt wide agrees x =
      goes_back stored plan.query step rest plan.end.items values can (patterns_of plan.query rest) (λ s. Unit {0}) place row e lt wide agrees x

  -- where no row that agrees has one, there is none
  pub rows_none : (place : ℕ) → IsWalked (StepAgrees stored step values) (λ q. AskedMatch stored plan rest (values_then stored step values q) → ⊥) (length (step_rows stored step)) place → place ≡ 0
      → AskedMatch stored plan (step ∷ rest) values → ⊥
  rows_none place w e x =
      let g = goes_on stored plan.query step rest plan.end.items values can (patterns_of plan.query rest) (λ s. Unit {0}) x in
      walk_end (StepAgrees stored step values) (λ q. AskedMatch stored plan rest (values_then stored step values q) → ⊥) (length (step_rows stored step)) place w e g.place g.within g.agrees g.extends

-- an end for want of memory
pub ended_err : {E : Type 0} (result : Result Bool E) (why : E) (Answer : List ℕ → Type 0) (first : Bool) (new : Rows) → IsErrAnd result (λ e. e ≡ why) → HasEnded result Answer first new
ended_err (Ok b) why Answer first new h = absurd h
ended_err (Err e) why Answer first new h = tt

-- what a join gained before and with one row, by the values and the row that were read
module _ (stored : List Stored) (plan : Plan) (passes : List ℕ → Bool) (step : Step) (rest : List Step) (values : List ℕ) (can : CanGoOn stored plan.query (step ∷ rest) plan.bound.items values)
    (held row : List ℕ) (place : ℕ) (old mid new : Rows) (are : held ≡ values) (is : row ≡ get_or (step_rows stored step) (place - 1) []) (wide : length row ≡ length (variables_of plan.query step)) (some : 0 < place)
    (walked : IsWalked (StepAgrees stored step values) (λ q. HasAll (LeftAnswer stored plan passes rest (values_then stored step values q)) mid) (length (step_rows stored step)) place)
    (before : HasOnlyGained (LeftAnswer stored plan passes (step ∷ rest) values) old mid) (added : HasOnlyGained (LeftAnswer stored plan passes rest (held ++ picked row step.fresh.items)) mid new) where
  -- only answers
  pub row_only : HasOnlyGained (LeftAnswer stored plan passes (step ∷ rest) values) old new
  row_only =
      let low : place ≤ length (step_rows stored step) = walked.within in
      gained_then (LeftAnswer stored plan passes (step ∷ rest) values) (LeftAnswer stored plan passes rest (held ++ picked row step.fresh.items)) old mid new before added
      (λ tuple x. row_answer stored plan passes step rest values can (place - 1) row is (omega (arith, low, some)) wide
      (walk_here (StepAgrees stored step values) (λ q. HasAll (LeftAnswer stored plan passes rest (values_then stored step values q)) mid) (length (step_rows stored step)) place walked some) tuple
      (subst (λ (k : List ℕ). LeftAnswer stored plan passes rest (k ++ picked row step.fresh.items) tuple) are x))

  -- and all over the rows from this one on
  pub row_walked : (next : ℕ) → HasAll (LeftAnswer stored plan passes rest (held ++ picked row step.fresh.items)) new → IsLast (StepAgrees stored step values) (StepAgrees stored step values) (place - 1) next
      → IsWalked (StepAgrees stored step values) (λ q. HasAll (LeftAnswer stored plan passes rest (values_then stored step values q)) new) (length (step_rows stored step)) next
  row_walked next all last =
      walk_next (StepAgrees stored step values) (λ q. HasAll (LeftAnswer stored plan passes rest (values_then stored step values q)) mid) (λ q. HasAll (LeftAnswer stored plan passes rest (values_then stored step values q)) new)
      (length (step_rows stored step)) place next walked some
      (λ q d. all_kept (LeftAnswer stored plan passes rest (values_then stored step values q)) (LeftAnswer stored plan passes rest (held ++ picked row step.fresh.items)) mid new d added)
      (subst (λ (k : List ℕ). HasAll (LeftAnswer stored plan passes rest k) new) (values_read stored step values held row (place - 1) are is) all) last

-- what is gained where all answer variables have values
pub settled_gained : (E : Type 0) (stored : List Stored) (plan : Plan) (passes : List ℕ → Bool) (values : List ℕ) (p : IsPlan stored plan) (long : length values ≡ length plan.bound.items) (told : List ℕ) → told ≡ picked values plan.answer.items
    → passes told ≡ true → AskedMatch stored plan plan.asked.items values → (first b : Bool) (old new : Rows) → IsInserted {E = E} old told (Ok b) new → HasGained {E = E} (Ok first) (LeftAnswer stored plan passes [] values) first old new
settled_gained E stored plan passes values p long told e passing asked first b old new i = record { only = gained_row {E = E} Answer old new told (Ok b) i here; ended = ended first }
  where
    Answer : List ℕ → Type 0
    Answer = LeftAnswer stored plan passes [] values

    here : LeftAnswer stored plan passes [] values told
    here = subst (LeftAnswer stored plan passes [] values) (sym e) (settled_answer stored plan passes values p long (ap passes (sym e) ∙ passing) asked)

    there : In told new.list
    there = put_row E old new told b i

    ended : (first : Bool) → HasEnded {E = E} (Ok first) (LeftAnswer stored plan passes [] values) first new
    ended true = (refl, some_there told new.list there)
    ended false = settled_there stored plan passes values p long told new e there

-- the patterns of steps are patterns of the query
pub steps_there : (stored : List Stored) (query : Conjunction) (bound : List ℕ) (steps : List Step) (end : List ℕ) → AreSteps stored query bound steps end → AllByRecursion (λ step. step.pattern < length query.patterns) steps
steps_there stored query bound [] end h = tt
steps_there stored query bound (step ∷ steps) end h = (h.1.there, steps_there stored query (bound ++ bound_by query step) steps end h.2)

-- what holds of all patterns holds of those of steps
pub steps_match : (relations : List Rows) (query : Conjunction) (s : ℕ → ℕ) (steps : List Step) → AllByRecursion (λ step. step.pattern < length query.patterns) steps → IsMatch relations query.patterns s → IsMatch relations (patterns_of query steps) s
steps_match relations query s [] h m = tt
steps_match relations query s (step ∷ steps) h m =
    (each_at_place (λ p. In (map s p.variables) (relation_of relations p).list) nowhere query.patterns step.pattern m h.0, steps_match relations query s steps h.1 m)
