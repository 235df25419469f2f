-- Each call has one step fewer, and no row that was passed has a match.
use Rattle.std.proofs.Common.{◌≡◌, ◌+◌, ◌*◌, ℕ, length}
use Rattle.mast_relations.specs.inside.Joins.{AskedMatch}
use Rattle.mast_relations.proofs.LastLemmas.{IsWalked}
use Rattle.mast_relations.proofs.MatchLemmas.{StepAgrees, step_rows, values_then}
use Rattle.mast_relations.proofs.join.Join.+ask.Given as goal

abbrev pub decreases-asks : goal.decreases-asks
decreases-asks g l = 3 * length l.steps.now

abbrev pub decreases-asks_rows : goal.decreases-asks_rows
decreases-asks_rows g l = 3 * length l.rest.now + 2

abbrev pub decreases-asks_row : goal.decreases-asks_row
decreases-asks_row g l = 3 * length l.rest.now + 1

abbrev pub invariant-asks_rows-loop-place : goal.invariant-asks_rows-loop-place
invariant-asks_rows-loop-place g l = record {
  values : l.values.items ≡ l.fn.values.items;
  walked : IsWalked (StepAgrees l.self.relations.now l.step l.fn.values.items)
      (λ (q : ℕ). AskedMatch l.self.relations.now l.self.plan.now l.rest (values_then l.self.relations.now l.step l.fn.values.items q) → ⊥)
      (length (step_rows l.self.relations.now l.step)) l.place;
}

abbrev pub decreases-asks_rows-loop-place : goal.decreases-asks_rows-loop-place
decreases-asks_rows-loop-place g l = l.place
