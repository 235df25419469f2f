-- Each call has one step fewer, and the answers over each row that was passed are there.
use Rattle.std.proofs.Common.{◌≡◌, ◌+◌, ◌*◌, ◌∷◌, ℕ, length}
use Rattle.mast_relations.specs.Stores.{HasAll, HasOnlyGained}
use Rattle.mast_relations.specs.inside.Joins.{LeftAnswer}
use Rattle.mast_relations.proofs.LastLemmas.{IsWalked}
use Rattle.mast_relations.proofs.MatchLemmas.{StepAgrees, step_rows, values_then}
use Rattle.mast_relations.proofs.join.Join.+join.Given as goal

abbrev pub decreases-joins : goal.decreases-joins
decreases-joins g l = 3 * length l.steps.now

abbrev pub decreases-joins_rows : goal.decreases-joins_rows
decreases-joins_rows g l = 3 * length l.rest.now + 2

abbrev pub decreases-joins_row : goal.decreases-joins_row
decreases-joins_row g l = 3 * length l.rest.now + 1

abbrev pub invariant-joins_rows-loop-place : goal.invariant-joins_rows-loop-place
invariant-joins_rows-loop-place g l = record {
  values : l.state.values.items ≡ l.fn.state.values.items;
  only : HasOnlyGained (LeftAnswer l.self.relations.now l.self.plan.now (g.T.Test.passes l.self.test.now) (l.step ∷ l.rest) l.fn.state.values.items) l.fn.found l.found;
  walked : IsWalked (StepAgrees l.self.relations.now l.step l.fn.state.values.items)
      (λ (q : ℕ). HasAll (LeftAnswer l.self.relations.now l.self.plan.now (g.T.Test.passes l.self.test.now) l.rest (values_then l.self.relations.now l.step l.fn.state.values.items q)) l.found)
      (length (step_rows l.self.relations.now l.step)) l.place;
}

abbrev pub decreases-joins_rows-loop-place : goal.decreases-joins_rows-loop-place
decreases-joins_rows-loop-place g l = l.place
