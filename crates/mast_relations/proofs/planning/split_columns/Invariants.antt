use Rattle.mast_relations.proofs.PlanningLemmas.{IsSplitTo}
use Rattle.mast_relations.proofs.planning.split_columns.Given as goal

-- the columns so far are split
abbrev pub invariant-loop-column : goal.invariant-loop-column
invariant-loop-column l = IsSplitTo l.variables l.bound l.column l.split.columns.items l.split.places.items l.split.fresh.items
