-- The answers of slices, and of the rows in them.
use Rattle.std.proofs.Common.{◌≡◌, ℕ, ◌+◌, ◌<◌, ◌≤◌, Bool, List, [], ◌∷◌, ◌++◌, length, get_or, map, inl, inr, sym, ap, subst, ◌∙◌, ◌↔◌, arith}
use Rattle.std.specs.Prelude.{slice_get, Some}
use Rattle.std.proofs.lemmas.Bool.{cases_eq, cases_lt}
use Rattle.std.proofs.lemmas.List.{length-map, map-append}
use Rattle.mast_relations.specs.declared.plan.Plan.{Plan}
use Rattle.mast_relations.specs.declared.plan.Step.{Step}
use Rattle.mast_relations.specs.declared.query.Conjunction.{Conjunction}
use Rattle.mast_relations.specs.declared.query.Pattern.{Pattern}
use Rattle.mast_relations.specs.Matches.{In, IsAnswer, IsMatch, Rows, relation_of}
use Rattle.mast_relations.specs.Plans.{AreSteps, IsPlan, none}
use Rattle.mast_relations.specs.Slices.{AreCuts, IsAnswerIn, IsAnswerInOne, nowhere, pattern_at}
use Rattle.mast_relations.specs.Stores.{HasAll, HasOnlyGained, Stored, contents}
use Rattle.mast_relations.specs.inside.Joins.{CanGoOn, LeftAnswer, SliceAnswer, bound_at, patterns_of}
use Rattle.mast_relations.proofs.JoinLemmas.{all_kept, gained_then, steps_match, steps_there}
use Rattle.mast_relations.proofs.ListLemmas.{each_append, each_at_place, each_by_place, get_of_read, in_get, read_of_get, stands_at}
use Rattle.mast_relations.proofs.MatchLemmas.{bound_at_is, rows_at}

-- the rows that a plan begins with
abbrev pub first_rows : List Stored → Plan → List (List ℕ)
first_rows stored plan = (get_or stored plan.relation none).rows.list

-- an answer over a row of the slice
pub record RowAnswer (stored : List Stored) (plan : Plan) (passes : List ℕ → Bool) (from to : ℕ) (tuple : List ℕ) : Type 0 where
  pub place : ℕ
  pub within : place < length (first_rows stored plan)
  pub low : from ≤ place
  pub high : place < to
  pub answer : LeftAnswer stored plan passes plan.joined.items (get_or (first_rows stored plan) place []) tuple

match_in_steps : (relations : List Rows) (query : Conjunction) (s : ℕ → ℕ) (steps : List Step) (number : ℕ) → IsMatch relations (patterns_of query steps) s → In number (map (λ step. step.pattern) steps)
    → In (map s (pattern_at query number).variables) (relation_of relations (pattern_at query number)).list
match_in_steps relations query s [] number m i = absurd i
match_in_steps relations query s (step ∷ steps) number m (inl e) =
    subst (λ (n : ℕ). In (map s (pattern_at query n).variables) (relation_of relations (pattern_at query n)).list) (sym e) m.0
match_in_steps relations query s (step ∷ steps) number m (inr i) = match_in_steps relations query s steps number m.1 i

module _ (stored : List Stored) (plan : Plan) (p : IsPlan stored plan) where
  rows_are : relation_of (contents stored) (pattern_at plan.query plan.start) ≡ (get_or stored plan.relation none).rows
  rows_are = rows_at stored (pattern_at plan.query plan.start) ∙ ap (λ (n : ℕ). (get_or stored n none).rows) (sym p.relation)

  joined_bound : bound_at plan.joined.items plan.bound.items ≡ (pattern_at plan.query plan.start).variables
  joined_bound = bound_at_is stored plan.query (pattern_at plan.query plan.start).variables plan.joined.items plan.bound.items p.joined

  -- the join can begin with a row of its width
  pub first_can : (row : List ℕ) → length row ≡ length (pattern_at plan.query plan.start).variables → CanGoOn stored plan.query plan.joined.items plan.bound.items row
  first_can row wide = record {
    steps_are = subst (λ (k : List ℕ). AreSteps stored plan.query k plan.joined.items plan.bound.items) (sym joined_bound) p.joined;
    long = wide ∙ ap length (sym joined_bound);
  }

  -- the width of its rows
  pub first_wide : length (pattern_at plan.query plan.start).variables ≡ (get_or stored plan.relation none).rows.width
  first_wide = p.first.wide ∙ ap (λ (r : Rows). r.width) rows_are

  -- there are as many as the plan says
  pub first_size : plan.size ≡ length (first_rows stored plan)
  first_size = p.size ∙ ap (λ (r : Rows). length r.list) rows_are

  all_match : (s : ℕ → ℕ) → IsMatch (contents stored) plan.query.patterns s → IsMatch (contents stored) (patterns_of plan.query plan.joined.items ++ patterns_of plan.query plan.asked.items) s
  all_match s m =
      each_append (λ k. In (map s k.variables) (relation_of (contents stored) k).list) (patterns_of plan.query plan.joined.items) (patterns_of plan.query plan.asked.items)
      (steps_match (contents stored) plan.query s plan.joined.items (steps_there stored plan.query (pattern_at plan.query plan.start).variables plan.joined.items plan.bound.items p.joined) m)
      (steps_match (contents stored) plan.query s plan.asked.items (steps_there stored plan.query plan.bound.items plan.asked.items plan.end.items p.asked) m)

  query_match : (s : ℕ → ℕ) → In (map s (pattern_at plan.query plan.start).variables) (relation_of (contents stored) (pattern_at plan.query plan.start)).list
      → IsMatch (contents stored) (patterns_of plan.query plan.joined.items ++ patterns_of plan.query plan.asked.items) s → IsMatch (contents stored) plan.query.patterns s
  query_match s first m =
      each_by_place (λ k. In (map s k.variables) (relation_of (contents stored) k).list) nowhere plan.query.patterns (λ number lt. elim (p.all number lt) [
        | inl e ↦ subst (λ (n : ℕ). In (map s (pattern_at plan.query n).variables) (relation_of (contents stored) (pattern_at plan.query n)).list) (sym e) first
        | inr i ↦ match_in_steps (contents stored) plan.query s (plan.joined.items ++ plan.asked.items) number
            (subst (λ (k : List Pattern). IsMatch (contents stored) k s) (sym (map-append (λ (step : Step). pattern_at plan.query step.pattern) plan.joined.items plan.asked.items)) m) i
      ])

  -- an answer of the slice is one over one of its rows
  pub slice_row : (passes : List ℕ → Bool) (from to : ℕ) (tuple : List ℕ) → SliceAnswer stored plan passes from to tuple → RowAnswer stored plan passes from to tuple
  slice_row passes from to tuple x =
      let a = x.0 in
      let s = a.assignment in
      let read : slice_get (first_rows stored plan) a.begins.place ≡ Some (map s (pattern_at plan.query plan.start).variables) =
      subst (λ (r : Rows). slice_get r.list a.begins.place ≡ Some (map s (pattern_at plan.query plan.start).variables)) rows_are a.begins.is in
      let at = get_of_read (first_rows stored plan) a.begins.place (map s (pattern_at plan.query plan.start).variables) [] read in
      record {
        place = a.begins.place;
        within = at.0;
        low = a.begins.low;
        high = a.begins.high;
        answer = record {
          assignment = s;
          agrees = ap (map s) joined_bound ∙ sym at.1;
          is_match = all_match s a.is_match;
          holds = (a.gives, x.1);
        };
      }

  -- and the other way
  pub row_slice : (passes : List ℕ → Bool) (from to : ℕ) (tuple : List ℕ) → RowAnswer stored plan passes from to tuple → SliceAnswer stored plan passes from to tuple
  row_slice passes from to tuple r =
      let s = r.answer.assignment in
      let row = get_or (first_rows stored plan) r.place [] in
      let is : map s (pattern_at plan.query plan.start).variables ≡ row = ap (map s) (sym joined_bound) ∙ r.answer.agrees in
      let stands : In (map s (pattern_at plan.query plan.start).variables) (first_rows stored plan) = subst (λ (k : List ℕ). In k (first_rows stored plan)) (sym is) (in_get (first_rows stored plan) r.place [] r.within) in
      let there : In (map s (pattern_at plan.query plan.start).variables) (relation_of (contents stored) (pattern_at plan.query plan.start)).list =
      subst (λ (k : Rows). In (map s (pattern_at plan.query plan.start).variables) k.list) (sym rows_are) stands in
      let read : slice_get (first_rows stored plan) r.place ≡ Some (map s (pattern_at plan.query plan.start).variables) = read_of_get (first_rows stored plan) r.place [] r.within ∙ ap Some (sym is) in (
        record {
          assignment = s;
          is_match = query_match s there r.answer.is_match;
          begins = record {
            place = r.place;
            is = subst (λ (k : Rows). slice_get k.list r.place ≡ Some (map s (pattern_at plan.query plan.start).variables)) (sym rows_are) read;
            low = r.low;
            high = r.high;
          };
          gives = r.answer.holds.0;
        },
        r.answer.holds.1,
      )

  -- the relation that it begins with is there
  pub first_there : plan.relation < length stored
  first_there =
      let f = p.first in
      omega (arith, p.relation, f.there, length-map stored (λ (r : Stored). r.rows))

  -- what a join gained before and with one row, by the steps and the values that were read
  module _ (passes : List ℕ → Bool) (from to : ℕ) (steps : List Step) (held : List ℕ) (place : ℕ) (old mid new : Rows) (are : steps ≡ plan.joined.items) (is : held ≡ get_or (first_rows stored plan) place [])
      (low : from ≤ place) (high : place < to) (within : place < length (first_rows stored plan)) (before : HasOnlyGained (SliceAnswer stored plan passes from to) old mid) (added : HasOnlyGained (LeftAnswer stored plan passes steps held) mid new) where
    -- only answers
    pub slice_only : HasOnlyGained (SliceAnswer stored plan passes from to) old new
    slice_only =
        gained_then (SliceAnswer stored plan passes from to) (LeftAnswer stored plan passes steps held) old mid new before added (λ tuple x. row_slice passes from to tuple (record {
          place = place;
          within = within;
          low = low;
          high = high;
          answer = subst (λ (k : List Step). LeftAnswer stored plan passes k (get_or (first_rows stored plan) place []) tuple) are (subst (λ (k : List ℕ). LeftAnswer stored plan passes steps k tuple) is x);
        }))

    -- and all over the rows up to this one
    pub slice_all : ((q : ℕ) → from ≤ q → q < place → HasAll (LeftAnswer stored plan passes plan.joined.items (get_or (first_rows stored plan) q [])) mid) → HasAll (LeftAnswer stored plan passes steps held) new
        → (q : ℕ) → from ≤ q → q < place + 1 → HasAll (LeftAnswer stored plan passes plan.joined.items (get_or (first_rows stored plan) q [])) new
    slice_all done all q le lt = elim (cases_eq q place) [
      | inl e ↦ subst (λ (n : ℕ). HasAll (LeftAnswer stored plan passes plan.joined.items (get_or (first_rows stored plan) n [])) new) (sym e)
          (subst (λ (k : List Step). HasAll (LeftAnswer stored plan passes k (get_or (first_rows stored plan) place [])) new) are (subst (λ (k : List ℕ). HasAll (LeftAnswer stored plan passes steps k) new) is all))
      | inr ne ↦ all_kept (LeftAnswer stored plan passes plan.joined.items (get_or (first_rows stored plan) q [])) (LeftAnswer stored plan passes steps held) mid new (done q le (omega (arith, lt, ne))) added
    ]

in_one : (relations : List Rows) (query : Conjunction) (start from to : ℕ) (cuts : List ℕ) (tuple : List ℕ) → AreCuts from cuts to → IsAnswerIn relations query start from to tuple → IsAnswerInOne relations query start from cuts to tuple
in_one relations query start from to [] tuple c a = a
in_one relations query start from to (cut ∷ cuts) tuple c a = elim (cases_lt a.begins.place cut) [
  | inl lt ↦ inl (record { assignment = a.assignment; is_match = a.is_match; begins = record { place = a.begins.place; is = a.begins.is; low = a.begins.low; high = lt }; gives = a.gives })
  | inr ge ↦ inr (in_one relations query start cut to cuts tuple c.1 (record { assignment = a.assignment; is_match = a.is_match; begins = record { place = a.begins.place; is = a.begins.is; low = ge; high = a.begins.high }; gives = a.gives }))
]

answer_of_in : (relations : List Rows) (query : Conjunction) (start from to : ℕ) (tuple : List ℕ) → IsAnswerIn relations query start from to tuple → IsAnswer relations query tuple
answer_of_in relations query start from to tuple a = record { assignment = a.assignment; is_match = a.is_match; gives = a.gives }

of_one : (relations : List Rows) (query : Conjunction) (start from to : ℕ) (cuts : List ℕ) (tuple : List ℕ) → IsAnswerInOne relations query start from cuts to tuple → IsAnswer relations query tuple
of_one relations query start from to [] tuple a = answer_of_in relations query start from to tuple a
of_one relations query start from to (cut ∷ cuts) tuple (inl a) = answer_of_in relations query start from cut tuple a
of_one relations query start from to (cut ∷ cuts) tuple (inr a) = of_one relations query start cut to cuts tuple a

whole_slice : (relations : List Rows) (query : Conjunction) (start : ℕ) (tuple : List ℕ) → start < length query.patterns → IsAnswer relations query tuple
    → IsAnswerIn relations query start 0 (length (relation_of relations (pattern_at query start)).list) tuple
whole_slice relations query start tuple lt a =
    let stands : In (map a.assignment (pattern_at query start).variables) (relation_of relations (pattern_at query start)).list =
    each_at_place (λ p. In (map a.assignment p.variables) (relation_of relations p).list) nowhere query.patterns start a.is_match lt in
    let at = stands_at (map a.assignment (pattern_at query start).variables) (relation_of relations (pattern_at query start)).list stands in
    record { assignment = a.assignment; is_match = a.is_match; begins = record { place = at.place; is = at.read; low = omega arith; high = at.within }; gives = a.gives }

-- the slices together have the answers
pub slices_law : (relations : List Rows) (query : Conjunction) (start : ℕ) → start < length query.patterns → (cuts : List ℕ) → AreCuts 0 cuts (length (relation_of relations (pattern_at query start)).list)
    → (tuple : List ℕ) → IsAnswer relations query tuple ↔ IsAnswerInOne relations query start 0 cuts (length (relation_of relations (pattern_at query start)).list) tuple
slices_law relations query start lt cuts c tuple = (
  λ a. in_one relations query start 0 (length (relation_of relations (pattern_at query start)).list) cuts tuple c (whole_slice relations query start tuple lt a),
  λ a. of_one relations query start 0 (length (relation_of relations (pattern_at query start)).list) cuts tuple a,
)
