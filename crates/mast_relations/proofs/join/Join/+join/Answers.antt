use Rattle.std.proofs.Common.{◌≡◌, ◌∷◌, ◌++◌, ◌-◌, ◌<◌, Bool, ℕ, [], length, get_or, sym, ap, subst, ◌∙◌, arith}
use Rattle.std.specs.Prelude.{Ok}
use Rattle.std.proofs.lemmas.List.{get_or_read}
use Rattle.mast_terms.specs.declared.memory.NoMemory.{NoMemory}
use Rattle.mast_relations.specs.Matches.{Rows}
use Rattle.mast_relations.specs.Plans.{none, picked, variables_of}
use Rattle.mast_relations.specs.Stores.{HasAll, Stored}
use Rattle.mast_relations.specs.inside.Joins.{HasEnded, LeftAnswer}
use Rattle.mast_relations.proofs.JoinLemmas.{ended_err, row_only, row_walked, rows_all}
use Rattle.mast_relations.proofs.LastLemmas.{walk_here}
use Rattle.mast_relations.proofs.MatchLemmas.{StepAgrees, agrees_read, last_read, step_rows, step_there, step_wide, values_then}
use Rattle.mast_relations.proofs.join.Join.+join.Goals as goal

pub joins_rows-returns-in_err-joins_row-clause-gained : goal.joins_rows-returns-in_err-joins_row-clause-gained
joins_rows-returns-in_err-joins_row-clause-gained g t c =
    let stored = c.args.self.now.relations.now in
    let plan = c.args.self.now.plan.now in
    let passes = g.T.Test.passes c.args.self.now.test.now in
    let step = c.args.step.now in
    let rest = c.args.rest.now in
    let values = c.args.state.now.values.items in
    let l = c.loop-place in
    let row = c.row-row.result.now in
    let held = l.state.values.items in
    let there : step.relation < length stored = step_there stored plan.query step rest plan.bound.items values c.requires.can in
    let read = c.index-self-step.is in
    let found : c.index-self-step.result ≡ get_or stored step.relation none = get_or_read stored step.relation c.index-self-step.result there c.index-self-step.is none in
    let relation : get_or stored step.relation c.index-self-step.result ≡ get_or stored step.relation none = sym read ∙ found in
    let rows : c.rows.result.now ≡ (get_or stored step.relation none).rows = c.rows.ensures ∙ ap (λ (s : Stored). s.rows) relation in
    let is : row ≡ get_or (step_rows stored step) (l.place - 1) [] = c.row-row.ensures.row ∙ ap (λ (r : Rows). get_or r.list (l.place - 1) []) rows in
    let wide : length row ≡ length (variables_of plan.query step) = step_wide stored plan.query step rest plan.bound.items values c.requires.can row c.rows.result.now rows c.row-row.ensures.wide in
    record {
      only = row_only stored plan passes step rest values c.requires.can held row l.place c.args.found.now l.found c.joins_row.new.found l.invariant.values is wide c.loop-place-test.true l.invariant.walked l.invariant.only c.in_err-joins_row.ensures.gained.only;
      ended = ended_err c.from_residual.result c.in_err-joins_row.field-0.0 (LeftAnswer stored plan passes (step ∷ rest) values) c.args.self.now.first c.joins_row.new.found c.from_residual.ensures.1;
    }

pub joins_rows-returns-then-branch-clause-gained : goal.joins_rows-returns-then-branch-clause-gained
joins_rows-returns-then-branch-clause-gained g t c =
    let stored = c.args.self.now.relations.now in
    let plan = c.args.self.now.plan.now in
    let passes = g.T.Test.passes c.args.self.now.test.now in
    let step = c.args.step.now in
    let rest = c.args.rest.now in
    let values = c.args.state.now.values.items in
    let l = c.loop-place in
    let row = c.row-row.result.now in
    let held = l.state.values.items in
    let there : step.relation < length stored = step_there stored plan.query step rest plan.bound.items values c.requires.can in
    let read = c.index-self-step.is in
    let found : c.index-self-step.result ≡ get_or stored step.relation none = get_or_read stored step.relation c.index-self-step.result there c.index-self-step.is none in
    let relation : get_or stored step.relation c.index-self-step.result ≡ get_or stored step.relation none = sym read ∙ found in
    let rows : c.rows.result.now ≡ (get_or stored step.relation none).rows = c.rows.ensures ∙ ap (λ (s : Stored). s.rows) relation in
    let is : row ≡ get_or (step_rows stored step) (l.place - 1) [] = c.row-row.ensures.row ∙ ap (λ (r : Rows). get_or r.list (l.place - 1) []) rows in
    let wide : length row ≡ length (variables_of plan.query step) = step_wide stored plan.query step rest plan.bound.items values c.requires.can row c.rows.result.now rows c.row-row.ensures.wide in
    record {
      only = row_only stored plan passes step rest values c.requires.can held row l.place c.args.found.now l.found c.joins_row.new.found l.invariant.values is wide c.loop-place-test.true l.invariant.walked l.invariant.only c.in_ok-joins_row.ensures.gained.only;
      ended = subst (λ (b : Bool). HasEnded {E = NoMemory} (Ok b) (LeftAnswer stored plan passes rest (held ++ picked row step.fresh.items)) c.args.self.now.first c.joins_row.new.found) c.if-branch.true c.in_ok-joins_row.ensures.gained.ended;
    }

pub joins_rows-before-place-requires-clause-agrees : goal.joins_rows-before-place-requires-clause-agrees
joins_rows-before-place-requires-clause-agrees g t c =
    let stored = c.args.self.now.relations.now in
    let plan = c.args.self.now.plan.now in
    let passes = g.T.Test.passes c.args.self.now.test.now in
    let step = c.args.step.now in
    let rest = c.args.rest.now in
    let values = c.args.state.now.values.items in
    let l = c.loop-place in
    let there : step.relation < length stored = step_there stored plan.query step rest plan.bound.items values c.requires.can in
    let read = c.index-self-step.is in
    let found : c.index-self-step.result ≡ get_or stored step.relation none = get_or_read stored step.relation c.index-self-step.result there c.index-self-step.is none in
    let relation : get_or stored step.relation c.index-self-step.result ≡ get_or stored step.relation none = sym read ∙ found in
    agrees_read stored step values (get_or stored step.relation c.index-self-step.result) c.deref-in-loop-place.result.now c.deref-in-loop-place-2.result.now relation
    (c.deref-in-loop-place.ensures.value ∙ c.in_ok-joins_row.ensures.values ∙ l.invariant.values) c.deref-in-loop-place-2.ensures.value (l.place - 1)
    (walk_here (StepAgrees stored step values) (λ (q : ℕ). HasAll (LeftAnswer stored plan passes rest (values_then stored step values q)) l.found) (length (step_rows stored step)) l.place l.invariant.walked c.loop-place-test.true)

pub joins_rows-loop-place-preserved : goal.joins_rows-loop-place-preserved
joins_rows-loop-place-preserved g t c =
    let stored = c.args.self.now.relations.now in
    let plan = c.args.self.now.plan.now in
    let passes = g.T.Test.passes c.args.self.now.test.now in
    let step = c.args.step.now in
    let rest = c.args.rest.now in
    let values = c.args.state.now.values.items in
    let l = c.loop-place in
    let row = c.row-row.result.now in
    let held = l.state.values.items in
    let there : step.relation < length stored = step_there stored plan.query step rest plan.bound.items values c.requires.can in
    let read = c.index-self-step.is in
    let found : c.index-self-step.result ≡ get_or stored step.relation none = get_or_read stored step.relation c.index-self-step.result there c.index-self-step.is none in
    let relation : get_or stored step.relation c.index-self-step.result ≡ get_or stored step.relation none = sym read ∙ found in
    let rows : c.rows.result.now ≡ (get_or stored step.relation none).rows = c.rows.ensures ∙ ap (λ (s : Stored). s.rows) relation in
    let is : row ≡ get_or (step_rows stored step) (l.place - 1) [] = c.row-row.ensures.row ∙ ap (λ (r : Rows). get_or r.list (l.place - 1) []) rows in
    let wide : length row ≡ length (variables_of plan.query step) = step_wide stored plan.query step rest plan.bound.items values c.requires.can row c.rows.result.now rows c.row-row.ensures.wide in
    let same : c.joins_row.new.state.values.items ≡ values = c.in_ok-joins_row.ensures.values ∙ l.invariant.values in
    let all : HasAll (LeftAnswer stored plan passes rest (held ++ picked row step.fresh.items)) c.joins_row.new.found =
    subst (λ (b : Bool). HasEnded {E = NoMemory} (Ok b) (LeftAnswer stored plan passes rest (held ++ picked row step.fresh.items)) c.args.self.now.first c.joins_row.new.found) c.if-branch.false c.in_ok-joins_row.ensures.gained.ended in
    record {
      values = same;
      only = row_only stored plan passes step rest values c.requires.can held row l.place c.args.found.now l.found c.joins_row.new.found l.invariant.values is wide c.loop-place-test.true l.invariant.walked l.invariant.only c.in_ok-joins_row.ensures.gained.only;
      walked = row_walked stored plan passes step rest values c.requires.can held row l.place c.args.found.now l.found c.joins_row.new.found l.invariant.values is wide c.loop-place-test.true l.invariant.walked l.invariant.only c.in_ok-joins_row.ensures.gained.only c.before-place.result all
          (last_read stored step values (get_or stored step.relation c.index-self-step.result) c.deref-in-loop-place.result.now c.deref-in-loop-place-2.result.now relation
          (c.deref-in-loop-place.ensures.value ∙ same) c.deref-in-loop-place-2.ensures.value (l.place - 1) c.before-place.result c.before-place.ensures);
    }

pub joins_rows-returns-clause-gained : goal.joins_rows-returns-clause-gained
joins_rows-returns-clause-gained g t c =
    let l = c.loop-place in
    record {
      only = l.invariant.only;
      ended = rows_all c.args.self.now.relations.now c.args.self.now.plan.now (g.T.Test.passes c.args.self.now.test.now) c.args.step.now c.args.rest.now c.args.state.now.values.items c.requires.can l.found l.place l.invariant.walked
          (omega (arith, c.loop-place-test.false));
    }
