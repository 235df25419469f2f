use Rattle.std.proofs.Common.{ℕ, ◌≤◌, ◌<◌}
use Rattle.mast_relations.specs.Lookups.{AgreesAt}
use Rattle.mast_relations.proofs.lookup.scanned.Given as goal

-- no row that was passed agrees
abbrev pub invariant-loop-place : goal.invariant-loop-place
invariant-loop-place l = record {
  within : l.place ≤ l.end;
  none : (later : ℕ) → l.place ≤ later → later < l.end → AgreesAt l.rows.list l.columns l.values l.places later → ⊥;
}

abbrev pub decreases-loop-place : goal.decreases-loop-place
decreases-loop-place l = l.place
