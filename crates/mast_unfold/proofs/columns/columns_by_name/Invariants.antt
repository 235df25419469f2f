use Rattle.std.proofs.Common.{◌≡◌, ◌≤◌, ℕ, List, length, drop}
use Rattle.std.specs.Option.{option_map}
use Rattle.mast_mapping.specs.Columns.{column_named}
use Rattle.mast_unfold.specs.inside.Lookups.{named, numbered}
use Rattle.mast_unfold.proofs.columns.columns_by_name.Given as goal

-- the columns from one on are there
abbrev pub invariant-loop-left : goal.invariant-loop-left
invariant-loop-left l = record {
  within : l.left ≤ length l.columns;
  are : (name : List ℕ) (entry : ℕ) → option_map (numbered entry) (named l.by_name name) ≡ column_named name entry l.left (drop l.left l.columns);
}

abbrev pub decreases-loop-left : goal.decreases-loop-left
decreases-loop-left l = l.left
