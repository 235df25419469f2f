use Rattle.std.proofs.Common.{◌≡◌, ◌++◌, ◌-◌, ◌<◌, Bool, ℕ, List, [], length, get_or, sym, ap, subst, ◌∙◌, arith}
use Rattle.std.specs.Prelude.{Ok}
use Rattle.std.proofs.lemmas.List.{get_or_read, nil_from_length}
use Rattle.mast_terms.specs.declared.memory.NoMemory.{NoMemory}
use Rattle.mast_relations.specs.declared.plan.Step.{Step}
use Rattle.mast_relations.specs.Matches.{Rows}
use Rattle.mast_relations.specs.Plans.{none, picked}
use Rattle.mast_relations.specs.Stores.{Stored}
use Rattle.mast_relations.specs.inside.Joins.{AskedMatch, CanGoOn, Decides}
use Rattle.mast_relations.proofs.JoinLemmas.{row_match, rows_none}
use Rattle.mast_relations.proofs.LastLemmas.{walk_here, walk_next}
use Rattle.mast_relations.proofs.MatchLemmas.{StepAgrees, agrees_read, last_read, no_step, step_rows, step_there, step_wide, values_read, values_then}
use Rattle.mast_relations.proofs.join.Join.+ask.Goals as goal

pub asks-returns-in-None-clause-decides : goal.asks-returns-in-None-clause-decides
asks-returns-in-None-clause-decides g t c =
    let stored = c.args.self.now.relations.now in
    let plan = c.args.self.now.plan.now in
    let values = c.args.values.now.items in
    let nothing : c.args.steps.now ≡ [] = nil_from_length c.args.steps.now c.in-None.ensures.cases in
    subst (λ (k : List Step). AskedMatch stored plan k values) (sym nothing)
    (no_step stored plan values c.requires.plan (subst (λ (k : List Step). CanGoOn stored plan.query k plan.end.items values) nothing c.requires.can))

pub asks_rows-returns-then-branch-clause-decides : goal.asks_rows-returns-then-branch-clause-decides
asks_rows-returns-then-branch-clause-decides g t c =
    let stored = c.args.self.now.relations.now in
    let plan = c.args.self.now.plan.now in
    let step = c.args.step.now in
    let rest = c.args.rest.now in
    let values = c.args.values.now.items in
    let l = c.loop-place in
    let row = c.row.result.now in
    let there : step.relation < length stored = step_there stored plan.query step rest plan.end.items values c.requires.can in
    let read = c.index-self-step.is in
    let found : c.index-self-step.result ≡ get_or stored step.relation none = get_or_read stored step.relation c.index-self-step.result there c.index-self-step.is none in
    let relation : get_or stored step.relation c.index-self-step.result ≡ get_or stored step.relation none = sym read ∙ found in
    let rows : c.rows.result.now ≡ (get_or stored step.relation none).rows = c.rows.ensures ∙ ap (λ (s : Stored). s.rows) relation in
    let is : row ≡ get_or (step_rows stored step) (l.place - 1) [] = c.row.ensures.row ∙ ap (λ (r : Rows). get_or r.list (l.place - 1) []) rows in
    let told : AskedMatch stored plan rest (l.values.items ++ picked row step.fresh.items) =
    subst (λ (b : Bool). Decides {E = NoMemory} (Ok b) (AskedMatch stored plan rest (l.values.items ++ picked row step.fresh.items))) c.if-branch.true c.in_ok-asks_row.ensures.decides in
    row_match stored plan step rest values c.requires.can (l.place - 1) row is (omega (arith, l.invariant.walked.within, c.loop-place-test.true))
    (step_wide stored plan.query step rest plan.end.items values c.requires.can row c.rows.result.now rows c.row.ensures.wide)
    (walk_here (StepAgrees stored step values) (λ (q : ℕ). AskedMatch stored plan rest (values_then stored step values q) → ⊥) (length (step_rows stored step)) l.place l.invariant.walked c.loop-place-test.true)
    (subst (λ (k : List ℕ). AskedMatch stored plan rest (k ++ picked row step.fresh.items)) l.invariant.values told)

pub asks_rows-before-place-requires-clause-agrees : goal.asks_rows-before-place-requires-clause-agrees
asks_rows-before-place-requires-clause-agrees g t c =
    let stored = c.args.self.now.relations.now in
    let plan = c.args.self.now.plan.now in
    let step = c.args.step.now in
    let rest = c.args.rest.now in
    let values = c.args.values.now.items in
    let l = c.loop-place in
    let there : step.relation < length stored = step_there stored plan.query step rest plan.end.items values c.requires.can in
    let read = c.index-self-step.is in
    let found : c.index-self-step.result ≡ get_or stored step.relation none = get_or_read stored step.relation c.index-self-step.result there c.index-self-step.is none in
    let relation : get_or stored step.relation c.index-self-step.result ≡ get_or stored step.relation none = sym read ∙ found in
    agrees_read stored step values (get_or stored step.relation c.index-self-step.result) c.as_slice-in-loop-place.result.now c.deref-in-loop-place.result.now relation
    (c.as_slice-in-loop-place.ensures.value ∙ c.in_ok-asks_row.ensures.values ∙ l.invariant.values) c.deref-in-loop-place.ensures.value (l.place - 1)
    (walk_here (StepAgrees stored step values) (λ (q : ℕ). AskedMatch stored plan rest (values_then stored step values q) → ⊥) (length (step_rows stored step)) l.place l.invariant.walked c.loop-place-test.true)

pub asks_rows-loop-place-preserved : goal.asks_rows-loop-place-preserved
asks_rows-loop-place-preserved g t c =
    let stored = c.args.self.now.relations.now in
    let plan = c.args.self.now.plan.now in
    let step = c.args.step.now in
    let rest = c.args.rest.now in
    let values = c.args.values.now.items in
    let l = c.loop-place in
    let row = c.row.result.now in
    let there : step.relation < length stored = step_there stored plan.query step rest plan.end.items values c.requires.can in
    let read = c.index-self-step.is in
    let found : c.index-self-step.result ≡ get_or stored step.relation none = get_or_read stored step.relation c.index-self-step.result there c.index-self-step.is none in
    let relation : get_or stored step.relation c.index-self-step.result ≡ get_or stored step.relation none = sym read ∙ found in
    let rows : c.rows.result.now ≡ (get_or stored step.relation none).rows = c.rows.ensures ∙ ap (λ (s : Stored). s.rows) relation in
    let is : row ≡ get_or (step_rows stored step) (l.place - 1) [] = c.row.ensures.row ∙ ap (λ (r : Rows). get_or r.list (l.place - 1) []) rows in
    let told : AskedMatch stored plan rest (l.values.items ++ picked row step.fresh.items) → ⊥ =
    subst (λ (b : Bool). Decides {E = NoMemory} (Ok b) (AskedMatch stored plan rest (l.values.items ++ picked row step.fresh.items))) c.if-branch.false c.in_ok-asks_row.ensures.decides in
    let same : c.asks_row.new.values.items ≡ values = c.in_ok-asks_row.ensures.values ∙ l.invariant.values in
    let Without : ℕ → Type 0 = λ (q : ℕ). AskedMatch stored plan rest (values_then stored step values q) → ⊥ in
    record {
      values = same;
      walked = walk_next (StepAgrees stored step values) Without Without (length (step_rows stored step)) l.place c.before-place.result l.invariant.walked c.loop-place-test.true (λ p d. d)
          (subst (λ (k : List ℕ). AskedMatch stored plan rest k → ⊥) (values_read stored step values l.values.items row (l.place - 1) l.invariant.values is) told)
          (last_read stored step values (get_or stored step.relation c.index-self-step.result) c.as_slice-in-loop-place.result.now c.deref-in-loop-place.result.now relation
          (c.as_slice-in-loop-place.ensures.value ∙ same) c.deref-in-loop-place.ensures.value (l.place - 1) c.before-place.result c.before-place.ensures);
    }

pub asks_rows-returns-clause-decides : goal.asks_rows-returns-clause-decides
asks_rows-returns-clause-decides g t c =
    let stored = c.args.self.now.relations.now in
    let l = c.loop-place in
    rows_none stored c.args.self.now.plan.now c.args.step.now c.args.rest.now c.args.values.now.items c.requires.can l.place l.invariant.walked (omega (arith, c.loop-place-test.false))
