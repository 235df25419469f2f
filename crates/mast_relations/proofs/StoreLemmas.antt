-- Plans that stay right while relations are begun, get rows, and get indices.
use Rattle.std.proofs.Common.{◌≡◌, ℕ, zero, suc, ◌<◌, Bool, true, false, List, [], ◌∷◌, ◌++◌, length, get_or, set, take, drop, ◌⊎◌, inl, inr, refl, sym, ap, subst, ◌∙◌, arith}
use Rattle.std.specs.Prelude.{Result, Ok, Err}
use Rattle.std.proofs.lemmas.Bool.{cases_eq}
use Rattle.std.proofs.lemmas.List.{drop_all, get_or-set_other, get_or-set_same, get_or_append_left, length-append, length-map, length-set, same_lists, take-append-le, take_all}
use Rattle.std.proofs.Math.ListN.{get_or-map}
use Rattle.mast_relations.specs.declared.plan.Plan.{Plan}
use Rattle.mast_relations.specs.declared.plan.Step.{Step}
use Rattle.mast_relations.specs.declared.query.Conjunction.{Conjunction}
use Rattle.mast_relations.specs.declared.query.Pattern.{Pattern}
use Rattle.mast_relations.specs.Matches.{In, IsPattern, Rows, nothing, relation_of}
use Rattle.mast_relations.specs.Plans.{AreBelow, AreSteps, IsApart, IsPlan, IsStep, KeepsOtherPlans, KeepsPlans, bound_by, columns_of, indices_of, none, picked, variables_of}
use Rattle.mast_relations.specs.Slices.{nowhere, pattern_at}
use Rattle.mast_relations.specs.Stores.{IsInserted, IsInsertedAt, IsUnchanged, Stored, contents, with_row}
use Rattle.mast_relations.specs.inside.Indices.{IsGrown}
use Rattle.mast_relations.specs.inside.Planning.{AreGrown}
use Rattle.mast_relations.proofs.ListLemmas.{each_at_place}
use Rattle.mast_relations.proofs.MatchLemmas.{rows_at}

-- a relation with the rows and the indices that it had
pub grown_refl : (stored : Stored) → IsGrown stored stored
grown_refl stored = record { rows = refl; kept = λ i lt. record { there = lt; is = refl } }

-- what grew twice grew
pub grown_twice : (a b c : Stored) → IsGrown a b → IsGrown b c → IsGrown a c
grown_twice a b c x y = record {
  rows = y.rows ∙ x.rows;
  kept = λ i lt.
      let one = x.kept i lt in
      let two = y.kept i one.there in
      record { there = two.there; is = two.is ∙ one.is };
}

-- the pattern is of a relation that keeps its rows and its indices
pub record KeepsPattern (old new : List Stored) (pattern : Pattern) : Type 0 where
  pub is : IsPattern (contents new) pattern
  pub grown : IsGrown (get_or old pattern.relation none) (get_or new pattern.relation none)

same_rows : (old new : List Stored) (pattern : Pattern) → IsGrown (get_or old pattern.relation none) (get_or new pattern.relation none) → relation_of (contents new) pattern ≡ relation_of (contents old) pattern
same_rows old new pattern g = rows_at new pattern ∙ g.rows ∙ sym (rows_at old pattern)

-- it does so where its relation is there and grew
pub keeps_pattern : (old new : List Stored) (pattern : Pattern) → IsPattern (contents old) pattern → pattern.relation < length new → IsGrown (get_or old pattern.relation none) (get_or new pattern.relation none) → KeepsPattern old new pattern
keeps_pattern old new pattern p lt g = record {
  is = record {
    there = omega (arith, lt, length-map new (λ (r : Stored). r.rows));
    wide = p.wide ∙ ap (λ (r : Rows). r.width) (sym (same_rows old new pattern g));
    different = p.different;
  };
  grown = g;
}

module _ (old new : List Stored) (query : Conjunction) (keeps : (number : ℕ) → number < length query.patterns → IsPattern (contents old) (pattern_at query number) → KeepsPattern old new (pattern_at query number)) where
  columns_kept : (step : Step) → IsStep old query step → (step.index < length (indices_of new step.relation)) × (columns_of new step ≡ columns_of old step)
  columns_kept step t =
      let g : IsGrown (get_or old step.relation none) (get_or new step.relation none) =
      subst (λ (n : ℕ). IsGrown (get_or old n none) (get_or new n none)) (sym t.relation) (keeps step.pattern t.there t.pattern).grown in
      let at = g.kept step.index t.index in
      (at.there, at.is)

  step_kept : (step : Step) → IsStep old query step → IsStep new query step
  step_kept step t =
      let at = columns_kept step t in
      record {
        there = t.there;
        pattern = (keeps step.pattern t.there t.pattern).is;
        relation = t.relation;
        index = at.0;
        columns = subst (λ (k : List ℕ). AreBelow (length (variables_of query step)) k) (sym at.1) t.columns;
        places = t.places;
        keys = ap (picked (variables_of query step)) at.1 ∙ t.keys;
        fresh = t.fresh;
        all = λ column lt. subst (λ (k : List ℕ). In column k ⊎ In column step.fresh.items) (sym at.1) (t.all column lt);
      }

  -- steps stay right
  pub steps_kept : (bound : List ℕ) (steps : List Step) (end : List ℕ) → AreSteps old query bound steps end → AreSteps new query bound steps end
  steps_kept bound [] end h = h
  steps_kept bound (step ∷ steps) end h = (h.0, step_kept step h.1, steps_kept (bound ++ bound_by query step) steps end h.2)

-- so does a plan
pub plan_kept : (old new : List Stored) (plan : Plan) → ((number : ℕ) → number < length plan.query.patterns → IsPattern (contents old) (pattern_at plan.query number) → KeepsPattern old new (pattern_at plan.query number))
    → IsPlan old plan → IsPlan new plan
plan_kept old new plan keeps p =
    let first = keeps plan.start p.begins p.first in
    record {
      begins = p.begins;
      first = first.is;
      relation = p.relation;
      size = p.size ∙ ap (λ (r : Rows). length r.list) (sym (same_rows old new (pattern_at plan.query plan.start) first.grown));
      joined = steps_kept old new plan.query keeps (pattern_at plan.query plan.start).variables plan.joined.items plan.bound.items p.joined;
      asked = steps_kept old new plan.query keeps plan.bound.items plan.asked.items plan.end.items p.asked;
      once = p.once;
      all = p.all;
      answer = p.answer;
      answers = p.answers;
    }

-- where all relations grew, their rows are the same
pub grown_contents : (old new : List Stored) → AreGrown old new → contents new ≡ contents old
grown_contents old new g = same_lists (contents new) (contents old) (length-map new (λ (r : Stored). r.rows) ∙ g.long ∙ sym (length-map old (λ (r : Stored). r.rows))) each
  where
    at : (xs : List Stored) (k : ℕ) (d : Rows) → k < length (contents xs) → get_or (contents xs) k d ≡ (get_or xs k none).rows
    at xs k d lt = any_default (contents xs) k d lt ∙ get_or-map (λ (r : Stored). r.rows) xs k none
      where
        any_default : (ys : List Rows) (k : ℕ) (d : Rows) → k < length ys → get_or ys k d ≡ get_or ys k nothing
        any_default [] k d lt = absurd (omega arith)
        any_default (y ∷ ys) zero d lt = refl
        any_default (y ∷ ys) (suc k) d lt = any_default ys k d (omega arith)

    each : (k : ℕ) (d : Rows) → k < length (contents new) → get_or (contents new) k d ≡ get_or (contents old) k d
    each k d lt = at new k d lt ∙ (g.each k).rows ∙ sym (at old k d (omega (arith, lt, length-map new (λ (r : Stored). r.rows), length-map old (λ (r : Stored). r.rows), g.long)))

-- and each pattern of one of them keeps its own
pub grown_pattern : (old new : List Stored) (pattern : Pattern) → AreGrown old new → IsPattern (contents old) pattern → KeepsPattern old new pattern
grown_pattern old new pattern g p =
    keeps_pattern old new pattern p (omega (arith, p.there, length-map old (λ (r : Stored). r.rows), g.long)) (g.each pattern.relation)

-- so plans stay right
pub grown_plans : (old new : List Stored) → AreGrown old new → KeepsPlans old new
grown_plans old new g plan p = plan_kept old new plan (λ number lt t. grown_pattern old new (pattern_at plan.query number) g t) p

-- and steps
pub grown_steps : (old new : List Stored) (query : Conjunction) (bound : List ℕ) (steps : List Step) (end : List ℕ) → AreGrown old new → AreSteps old query bound steps end → AreSteps new query bound steps end
grown_steps old new query bound steps end g h = steps_kept old new query (λ number lt t. grown_pattern old new (pattern_at query number) g t) bound steps end h

-- all as it was
pub all_grown_refl : (stored : List Stored) → AreGrown stored stored
all_grown_refl stored = record { long = refl; each = λ n. grown_refl (get_or stored n none) }

-- what grew twice
pub all_grown_twice : (a b c : List Stored) → AreGrown a b → AreGrown b c → AreGrown a c
all_grown_twice a b c x y = record {
  long = y.long ∙ x.long;
  each = λ n. grown_twice (get_or a n none) (get_or b n none) (get_or c n none) (x.each n) (y.each n);
}

-- one of them grew
pub grown_set : (old : List Stored) (number : ℕ) (stored : Stored) → number < length old → IsGrown (get_or old number none) stored → AreGrown old (set old number stored)
grown_set old number stored lt g = record {
  long = length-set old number stored;
  each = λ n. elim (cases_eq n number) [
    | inl e ↦ subst (λ (k : ℕ). IsGrown (get_or old k none) (get_or (set old number stored) k none)) (sym e)
        (subst (λ (k : Stored). IsGrown (get_or old number none) k) (sym (get_or-set_same old number stored none lt)) g)
    | inr ne ↦ subst (λ (k : Stored). IsGrown (get_or old n none) k) (sym (get_or-set_other old number n stored none ne)) (grown_refl (get_or old n none))
  ];
}

-- plans without a pattern of the one that changed stay right
pub others_kept : (old : List Stored) (number : ℕ) (stored : Stored) → KeepsOtherPlans number old (set old number stored)
others_kept old number stored plan apart p =
    plan_kept old (set old number stored) plan (λ n lt t.
    let ne : (pattern_at plan.query n).relation ≡ number → ⊥ = each_at_place (IsApart number) nowhere plan.query.patterns n apart lt in
    keeps_pattern old (set old number stored) (pattern_at plan.query n) t
    (omega (arith, t.there, length-map old (λ (r : Stored). r.rows), length-set old number stored))
    (subst (λ (k : Stored). IsGrown (get_or old (pattern_at plan.query n).relation none) k) (sym (get_or-set_other old number (pattern_at plan.query n).relation stored none ne))
    (grown_refl (get_or old (pattern_at plan.query n).relation none)))) p

-- and all plans where one more is begun
pub begun_kept : (old : List Stored) (more : List Stored) → KeepsPlans old (old ++ more)
begun_kept old more plan p =
    plan_kept old (old ++ more) plan (λ n lt t.
    let there : (pattern_at plan.query n).relation < length old = omega (arith, t.there, length-map old (λ (r : Stored). r.rows)) in
    keeps_pattern old (old ++ more) (pattern_at plan.query n) t
    (omega (arith, there, length-append old more))
    (subst (λ (k : Stored). IsGrown (get_or old (pattern_at plan.query n).relation none) k) (sym (get_or_append_left old more none (pattern_at plan.query n).relation there))
    (grown_refl (get_or old (pattern_at plan.query n).relation none)))) p

-- the relations themselves, where one is replaced
pub contents_set : (old : List Stored) (number : ℕ) (stored : Stored) → contents (set old number stored) ≡ set (contents old) number stored.rows
contents_set [] number stored = refl
contents_set (x ∷ old) zero stored = refl
contents_set (x ∷ old) (suc number) stored = ap (λ (k : List Rows). x.rows ∷ k) (contents_set old number stored)

-- the rows of the relation of a number
pub contents_at : (stored : List Stored) (number : ℕ) → get_or (contents stored) number nothing ≡ (get_or stored number none).rows
contents_at stored number = get_or-map (λ (r : Stored). r.rows) stored number none

-- what is put where it stands changes nothing
set_as_is : (old : List Stored) (number : ℕ) (stored : Stored) → number < length old → stored ≡ get_or old number none → set old number stored ≡ old
set_as_is [] number stored lt e = absurd (omega arith)
set_as_is (x ∷ old) zero stored lt e = ap (λ (k : Stored). k ∷ old) e
set_as_is (x ∷ old) (suc number) stored lt e = ap (λ (k : List Stored). x ∷ k) (set_as_is old number stored (omega arith) e)

rows_was : (old : List Stored) (number : ℕ) (was : Stored) → was ≡ get_or old number none → was.rows ≡ get_or (contents old) number nothing
rows_was old number was is = ap (λ (s : Stored). s.rows) is ∙ sym (contents_at old number)

module _ {E : Type 0} (old : List Stored) (number : ℕ) (was new : Stored) (lt : number < length old) (is : was ≡ get_or old number none) where
  -- a row that is put into one of the relations
  pub inserted_at : (row : List ℕ) (result : Result Bool E) → IsInserted was.rows row result new.rows → IsUnchanged result was new → IsInsertedAt (contents old) number row result (contents (set old number new))
  inserted_at row (Ok true) i u = (
    λ j. i.0 (subst (λ (r : Rows). In row r.list) (sym (rows_was old number was is)) j),
    contents_set old number new ∙ ap (set (contents old) number) (i.1 ∙ ap (λ (r : Rows). with_row r row) (rows_was old number was is)),
  )
  inserted_at row (Ok false) i u = (subst (λ (r : Rows). In row r.list) (rows_was old number was is) i.0, ap contents (set_as_is old number new lt (u ∙ is)))
  inserted_at row (Err e) i u = ap contents (set_as_is old number new lt (u ∙ is))

  -- where none was put, all is as it was
  pub unchanged_at : (result : Result Bool E) → IsUnchanged result was new → IsUnchanged result old (set old number new)
  unchanged_at (Ok true) u = tt
  unchanged_at (Ok false) u = set_as_is old number new lt (u ∙ is)
  unchanged_at (Err e) u = set_as_is old number new lt (u ∙ is)

-- as many relations as there were are all of them
pub all_kept_whole : (items new : List Stored) (count : ℕ) → count ≡ length items → length new ≡ length items → take count (new ++ drop (length new) items) ≡ new
all_kept_whole items new count n e =
    ap (λ (k : List Stored). take count (new ++ k)) (drop_all (length new) items (omega (arith, e)))
    ∙ take-append-le count new [] (omega (arith, n, e)) ∙ take_all count new (omega (arith, n, e))
