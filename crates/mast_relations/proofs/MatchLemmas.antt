-- Matches that go on over the row of one more pattern.
use Rattle.std.proofs.Common.{◌≡◌, ℕ, ◌+◌, ◌<◌, Bool, true, false, List, [], ◌∷◌, ◌++◌, length, get_or, map, sym, ap, subst, ◌∙◌, arith}
use Rattle.std.proofs.lemmas.Bool.{both_ways}
use Rattle.std.proofs.lemmas.List.{length-append, length-map}
use Rattle.std.proofs.Math.ListN.{get_or-map}
use Rattle.mast_relations.specs.declared.plan.Plan.{Plan}
use Rattle.mast_relations.specs.declared.plan.Step.{Step}
use Rattle.mast_relations.specs.declared.query.Conjunction.{Conjunction}
use Rattle.mast_relations.specs.declared.query.Pattern.{Pattern}
use Rattle.mast_relations.specs.Matches.{In, Rows, relation_of}
use Rattle.mast_relations.specs.Plans.{AreSteps, IsPlan, IsStep, bound_by, columns_of, none, picked, variables_of}
use Rattle.mast_relations.specs.Slices.{pattern_at}
use Rattle.mast_relations.specs.Stores.{HasAll, Stored, contents}
use Rattle.mast_relations.specs.inside.Indices.{Agrees}
use Rattle.mast_relations.specs.inside.Lasts.{IsLast}
use Rattle.mast_relations.specs.inside.Joins.{AskedMatch, CanGoOn, Extends, LeftAnswer, bound_at}
use Rattle.mast_relations.proofs.AssignmentLemmas.{assigned, assigned_gives, bound_was, row_agrees, row_binds, row_is}
use Rattle.mast_relations.proofs.ListLemmas.{in_get, stands_at, picked_map}

-- what is bound before steps
pub bound_at_is : (stored : List Stored) (query : Conjunction) (bound : List ℕ) (steps : List Step) (end : List ℕ) → AreSteps stored query bound steps end → bound_at steps end ≡ bound
bound_at_is stored query bound [] end h = sym h
bound_at_is stored query bound (step ∷ steps) end h = h.0

-- the rows of the relation of a number
pub rows_at : (stored : List Stored) (pattern : Pattern) → relation_of (contents stored) pattern ≡ (get_or stored pattern.relation none).rows
rows_at stored pattern = get_or-map (λ (r : Stored). r.rows) stored pattern.relation none

-- the rows of the relation of a step
abbrev pub step_rows : List Stored → Step → List (List ℕ)
step_rows stored step = (get_or stored step.relation none).rows.list

-- the values, and those that a row adds
abbrev pub values_then : List Stored → Step → List ℕ → ℕ → List ℕ
values_then stored step values place = values ++ picked (get_or (step_rows stored step) place []) step.fresh.items

-- the row at a place agrees with what is bound
abbrev pub StepAgrees : List Stored → Step → List ℕ → ℕ → Type 0
StepAgrees stored step values place = Agrees (get_or stored step.relation none) step.index values step.places.items place

-- By the relation and the values that were read.
module _ (stored : List Stored) (step : Step) (values : List ℕ) (relation : Stored) (held places : List ℕ) (is : relation ≡ get_or stored step.relation none) (are : held ≡ values) (at : places ≡ step.places.items) where
  -- a row agrees where it agrees
  pub agrees_read : (place : ℕ) → StepAgrees stored step values place → Agrees relation step.index held places place
  agrees_read place h =
      subst (λ (r : Stored). Agrees r step.index held places place) (sym is)
      (subst (λ (k : List ℕ). Agrees (get_or stored step.relation none) step.index k places place) (sym are)
      (subst (λ (k : List ℕ). Agrees (get_or stored step.relation none) step.index values k place) (sym at) h))

  -- the last of those that do
  pub last_read : (count place : ℕ) → IsLast (Agrees relation step.index held places) (Agrees relation step.index held places) count place → IsLast (StepAgrees stored step values) (StepAgrees stored step values) count place
  last_read count place h =
      subst (λ (k : List ℕ). IsLast (Agrees (get_or stored step.relation none) step.index values k) (Agrees (get_or stored step.relation none) step.index values k) count place) at
      (subst (λ (k : List ℕ). IsLast (Agrees (get_or stored step.relation none) step.index k places) (Agrees (get_or stored step.relation none) step.index k places) count place) are
      (subst (λ (r : Stored). IsLast (Agrees r step.index held places) (Agrees r step.index held places) count place) is h))

-- the values that a row adds to those that are held
pub values_read : (stored : List Stored) (step : Step) (values held row : List ℕ) (place : ℕ) → held ≡ values → row ≡ get_or (step_rows stored step) place [] → held ++ picked row step.fresh.items ≡ values_then stored step values place
values_read stored step values held row place are e =
    ap (λ (k : List ℕ). k ++ picked row step.fresh.items) are ∙ ap (λ (r : List ℕ). values ++ picked r step.fresh.items) e

-- a match goes on over a row of the step
pub record GoesOn (stored : List Stored) (step : Step) (rest : List Step) (end values : List ℕ) (patterns : List Pattern) (P : (ℕ → ℕ) → Type 0) : Type 0 where
  pub place : ℕ
  pub within : place < length (step_rows stored step)
  pub agrees : StepAgrees stored step values place
  pub extends : Extends (contents stored) patterns (bound_at rest end) (values_then stored step values place) P

module _ (stored : List Stored) (query : Conjunction) (step : Step) (rest : List Step) (end values : List ℕ) (can : CanGoOn stored query (step ∷ rest) end values) where
  is_step : IsStep stored query step
  is_step = can.steps_are.1

  rows_is : relation_of (contents stored) (pattern_at query step.pattern) ≡ (get_or stored step.relation none).rows
  rows_is = rows_at stored (pattern_at query step.pattern) ∙ ap (λ (n : ℕ). (get_or stored n none).rows) (sym (is_step).relation)

  -- the relation of the step is there
  pub step_there : step.relation < length stored
  step_there =
      let t = is_step in
      let p = t.pattern in
      omega (arith, t.relation, p.there, length-map stored (λ (r : Stored). r.rows))

  -- and its rows have a number for each variable
  pub step_wide : (row : List ℕ) (rows : Rows) → rows ≡ (get_or stored step.relation none).rows → length row ≡ rows.width → length row ≡ length (variables_of query step)
  step_wide row rows e w =
      let t = is_step in
      let p = t.pattern in
      w ∙ ap (λ (r : Rows). r.width) (e ∙ sym rows_is) ∙ sym p.wide

  bound_is : bound_at rest end ≡ step.bound.items ++ bound_by query step
  bound_is = bound_at_is stored query (step.bound.items ++ bound_by query step) rest end can.steps_are.2

  -- the other steps can go on
  pub rest_can : (row : List ℕ) → CanGoOn stored query rest end (values ++ picked row step.fresh.items)
  rest_can row = record {
    steps_are = subst (λ (k : List ℕ). AreSteps stored query k rest end) (sym bound_is) can.steps_are.2;
    long = length-append values (picked row step.fresh.items)
        ∙ ap (λ (n : ℕ). length values + n) (length-map step.fresh.items (λ (p : ℕ). get_or row p 0) ∙ sym (length-map step.fresh.items (λ (p : ℕ). get_or (variables_of query step) p 0)))
        ∙ ap (λ (n : ℕ). n + length (bound_by query step)) can.long
        ∙ sym (length-append step.bound.items (bound_by query step)) ∙ ap length (sym bound_is);
  }

  -- each match of the step's pattern and others goes on
  pub goes_on : (patterns : List Pattern) (P : (ℕ → ℕ) → Type 0) → Extends (contents stored) (pattern_at query step.pattern ∷ patterns) step.bound.items values P → GoesOn stored step rest end values patterns P
  goes_on patterns P x =
      let t = is_step in
      let s = x.assignment in
      let there : In (map s (variables_of query step)) (step_rows stored step) = subst (λ (r : Rows). In (map s (variables_of query step)) r.list) rows_is x.is_match.0 in
      let at = stands_at (map s (variables_of query step)) (step_rows stored step) there in
      let row = get_or (step_rows stored step) at.place [] in
      let is : map s (variables_of query step) ≡ row = sym (at.is []) in
      let binds : map s (step.bound.items ++ bound_by query step) ≡ values ++ picked row step.fresh.items =
      row_binds (variables_of query step) step.bound.items (columns_of stored step) step.places.items step.fresh.items t.columns t.places t.keys t.fresh t.all s values row x.agrees is in
      record {
        place = at.place;
        within = at.within;
        agrees = row_agrees (variables_of query step) step.bound.items (columns_of stored step) step.places.items step.fresh.items t.columns t.places t.keys t.fresh t.all s values row x.agrees is;
        extends = record {
          assignment = s;
          agrees = ap (map s) bound_is ∙ binds;
          is_match = x.is_match.1;
          holds = x.holds;
        };
      }

  -- and what goes on over a row that agrees is one
  pub goes_back : (patterns : List Pattern) (P : (ℕ → ℕ) → Type 0) (place : ℕ) (row : List ℕ) → row ≡ get_or (step_rows stored step) place [] → place < length (step_rows stored step) → length row ≡ length (variables_of query step) → StepAgrees stored step values place
      → Extends (contents stored) patterns (bound_at rest end) (values ++ picked row step.fresh.items) P → Extends (contents stored) (pattern_at query step.pattern ∷ patterns) step.bound.items values P
  goes_back patterns P place row e lt wide agrees x =
      let t = is_step in
      let s = x.assignment in
      let binds : map s (step.bound.items ++ bound_by query step) ≡ values ++ picked row step.fresh.items = ap (map s) (sym bound_is) ∙ x.agrees in
      let fits : picked row (columns_of stored step) ≡ picked values step.places.items = ap (λ (k : List ℕ). picked k (columns_of stored step)) e ∙ agrees in
      let is : map s (variables_of query step) ≡ row =
      row_is (variables_of query step) step.bound.items (columns_of stored step) step.places.items step.fresh.items t.columns t.places t.keys t.fresh t.all s values row can.long wide fits binds in
      let there : In (map s (variables_of query step)) (step_rows stored step) = subst (λ (k : List ℕ). In k (step_rows stored step)) (sym (is ∙ e)) (in_get (step_rows stored step) place [] lt) in
      record {
        assignment = s;
        agrees = (bound_was (variables_of query step) step.bound.items (columns_of stored step) step.places.items step.fresh.items t.columns t.places t.keys t.fresh t.all s values row can.long binds).0;
        is_match = (subst (λ (r : Rows). In (map s (variables_of query step)) r.list) (sym rows_is) there, x.is_match);
        holds = x.holds;
      }

-- where no step is left, there is a match
pub no_step : (stored : List Stored) (plan : Plan) (values : List ℕ) → IsPlan stored plan → CanGoOn stored plan.query [] plan.end.items values → AskedMatch stored plan [] values
no_step stored plan values p can = record {
  assignment = assigned plan.end.items values;
  agrees = assigned_gives plan.end.items values p.once can.long;
  is_match = tt;
  holds = tt;
}

-- Where all answer variables have values.
module _ (stored : List Stored) (plan : Plan) (passes : List ℕ → Bool) (values : List ℕ) (p : IsPlan stored plan) (long : length values ≡ length plan.bound.items) where
  asked_bound : bound_at plan.asked.items plan.end.items ≡ plan.bound.items
  asked_bound = bound_at_is stored plan.query plan.bound.items plan.asked.items plan.end.items p.asked

  -- the other steps can go on
  pub asked_can : CanGoOn stored plan.query plan.asked.items plan.end.items values
  asked_can = record {
    steps_are = subst (λ (k : List ℕ). AreSteps stored plan.query k plan.asked.items plan.end.items) (sym asked_bound) p.asked;
    long = long ∙ ap length (sym asked_bound);
  }

  answer_is : (s : ℕ → ℕ) → map s plan.bound.items ≡ values → map s plan.query.answer ≡ picked values plan.answer.items
  answer_is s a = ap (map s) (sym p.answers) ∙ sym (picked_map s plan.bound.items plan.answer.items p.answer) ∙ ap (λ (k : List ℕ). picked k plan.answer.items) a

  -- there is one tuple
  pub settled_is : (tuple : List ℕ) → LeftAnswer stored plan passes [] values tuple → tuple ≡ picked values plan.answer.items
  settled_is tuple x = sym x.holds.0 ∙ answer_is x.assignment x.agrees

  -- it passes
  pub settled_passes : (tuple : List ℕ) → LeftAnswer stored plan passes [] values tuple → passes (picked values plan.answer.items) ≡ true
  settled_passes tuple x = ap passes (sym (settled_is tuple x)) ∙ x.holds.1

  -- and the other steps have a match
  pub settled_asks : (tuple : List ℕ) → LeftAnswer stored plan passes [] values tuple → AskedMatch stored plan plan.asked.items values
  settled_asks tuple x = record {
    assignment = x.assignment;
    agrees = ap (map x.assignment) asked_bound ∙ x.agrees;
    is_match = x.is_match;
    holds = tt;
  }

  -- and where it is so, it is an answer
  pub settled_answer : passes (picked values plan.answer.items) ≡ true → AskedMatch stored plan plan.asked.items values → LeftAnswer stored plan passes [] values (picked values plan.answer.items)
  settled_answer passing x =
      let a : map x.assignment plan.bound.items ≡ values = ap (map x.assignment) (sym asked_bound) ∙ x.agrees in
      record {
        assignment = x.assignment;
        agrees = a;
        is_match = x.is_match;
        holds = (answer_is x.assignment a, passing);
      }

  -- as many numbers as the answer list has
  pub settled_long : length (picked values plan.answer.items) ≡ length plan.query.answer
  settled_long =
      length-map plan.answer.items (λ (k : ℕ). get_or values k 0) ∙ sym (length-map plan.answer.items (λ (k : ℕ). get_or plan.bound.items k 0)) ∙ ap length p.answers

  -- where it does not pass, there is none
  pub settled_out : (told : List ℕ) (found : Rows) → told ≡ picked values plan.answer.items → passes told ≡ false → HasAll (LeftAnswer stored plan passes [] values) found
  settled_out told found e out tuple x = absurd (both_ways (passes told) out (ap passes e ∙ settled_passes tuple x))

  -- where it is there, all are
  pub settled_there : (told : List ℕ) (found : Rows) → told ≡ picked values plan.answer.items → In told found.list → HasAll (LeftAnswer stored plan passes [] values) found
  settled_there told found e i tuple x = subst (λ (k : List ℕ). In k found.list) (e ∙ sym (settled_is tuple x)) i
